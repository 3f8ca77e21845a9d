-- What holds of the verifier's call of a request holds of the prover's.
use Rattle.std.proofs.Common.{◌≡◌, ℕ, Bool, length, Option, sym, refl, ap, ◌∙◌, subst, inl, inr, arith}
use Rattle.refusal.specs.Outcome.{accepted, refused}
use Rattle.ring.specs.Algebra.{RingOn}
use Rattle.worksheet.specs.declared.CircuitIdx.{CircuitIdx}
use Rattle.worksheet.specs.declared.Counts.{Counts}
use Rattle.worksheet.specs.declared.Var.{Var}
use Rattle.worksheet.specs.declared.Var.TheVariants.{Native, Circuit}
use Rattle.worksheet.specs.Calls.{var_means}
use Rattle.worksheet.specs.Runs.{prover, verifier, Call, Reply, erase, fresh, values_of, assert_equal, boolean_assert, boolean_witness, witness, divide, invert}
use Rattle.builder.specs.declared.Builder.{Builder}
use Rattle.builder.specs.declared.Tables.{Tables}
use Rattle.builder.specs.declared.Request.{Request}
use Rattle.builder.specs.declared.Request.TheVariants.{Constant, Witness, Add, Multiply, Negate, Subtract, DivideBy, DivideId, Invert, AssertEqual, BooleanWitness, BooleanAssert, Not, And, Or, Select}
use Rattle.builder.specs.Called.{Stays as StructureStays, Made as Structured}
use Rattle.builder.specs.Requests.{Of, OfStructure}
use Rattle.prover.specs.declared.Ledger.{Ledger}
use Rattle.prover.specs.Book.{book, held, lacks, worksheet_in}
use Rattle.prover.specs.Called.{Stays, Made}
use Rattle.prover.specs.Filled.{Filled}
use Rattle.prover.proofs.Calling.{Handed, refused_so, accepted_so}

module _ {E M : Type 0} (R : RingOn M) (means : E → M) (val : CircuitIdx → M) (x : M) where
  -- what holds of the verifier's call, and hands over x, holds of the prover's
  pub of_made : (q : Request E) (Made : Call R verifier → Type 0) → OfStructure R means q Made → (P : Call R prover → Type 0) → ((c : Call R prover) → Made (erase c) → Handed x (fresh R val c) → P c) → Of R means val (λ y. x ≡ y) q P
  of_made (Constant y) Made k P h = h _ k (inl refl)
  of_made Witness Made k P h = λ y e. h (witness y) (k y tt) (inr (cc))
  of_made (Add a b) Made k P h = h _ k (inl refl)
  of_made (Multiply a b) Made k P h = h _ k (inl refl)
  of_made (Negate a) Made k P h = h _ k (inl refl)
  of_made (Subtract a b) Made k P h = h _ k (inl refl)
  of_made (DivideBy (Native y) i) Made k P h = λ F e. h (divide F (Native (means y)) (Circuit i)) (k F tt) (inr (cc))
  of_made (DivideBy (Circuit j) i) Made k P h = λ F e. h (divide F (Circuit j) (Circuit i)) (k F tt) (inr (cc))
  of_made (DivideId i y) Made k P h = λ F e. h (divide F (Circuit i) (Native (means y))) (k F tt) (inr (cc))
  of_made (Invert i) Made k P h = λ F e. h (invert F (Circuit i)) (k F tt) (inr (cc))
  of_made (AssertEqual a b) Made k P h = (k.0, λ d. h (assert_equal (var_means means a) (var_means means b) d) (k.1 d) (inl refl))
  of_made BooleanWitness Made k P h = λ b e. h (boolean_witness b) (k b tt) (inr (cc))
  of_made (BooleanAssert a) Made k P h = (k.0, λ d. h (boolean_assert (var_means means a) d) (k.1 d) (inl refl))
  of_made (Not a) Made k P h = h _ k (inl refl)
  of_made (And a b) Made k P h = h _ k (inl refl)
  of_made (Or a b) Made k P h = h _ k (inl refl)
  of_made (Select b t f) Made k P h = h _ k (inl refl)

-- a request as a whole, by what it does to the structure; code has found whether tables of values are short
module _ {E M : Type 0} (R : RingOn M) (means : E → M) (was is : Builder) (t t' : Ledger E) (x : E) (q : Request E) {cap : Counts} (is_capacity : cap ≡ was.capacity) {lacking : Bool} (is_short : lacking ≡ lacks cap (held t)) where
  is_lacking : lacking ≡ lacks was.capacity (held t)
  is_lacking = is_short ∙ ap (λ (n : Counts). lacks n (held t)) is_capacity

  abbrev val : CircuitIdx → M
  val = values_of R (worksheet_in means was.counts (held t))

  abbrev Written : Reply M → Call R verifier → Type 0
  Written p c = Structured R means lacking was is t.tables t'.tables c p

  pub refused_request : (k : ℕ) → t'.values ≡ t.values → t'.worked ≡ t.worked → Stays was is t t' → OfStructure R means q (Written (refused k)) → Of R means val (λ y. means x ≡ y) q (λ c. Made R means was is t t' c (refused k))
  refused_request k vs ws stays made = of_made R means val (means x) q (Written (refused k)) made (λ c. Made R means was is t t' c (refused k)) (λ c so new. record {
    called = rw (vs, ws)
        (refused_so R means was.capacity was.counts (held t) c is.counts t'.tables.constants.now t'.tables.nodes.now t'.tables.assertions.now (refused k) (rw is_lacking at so.called) k refl);
    stays = stays;
  })

  -- once the structure is written, in tables m
  abbrev Then : Tables E → Option (Var M) → Type 0
  Then m o = StructureStays was is t.tables m × Filled R means was.counts is.counts x (book m.constants.now m.nodes.now m.assertions.now t.values.now t.worked.now) (held t') × OfStructure R means q (λ c. Structured R means lacking was is t.tables m c (accepted o))

  accepted_then : (o : Option (Var M)) → t'.values.ghost_name ≡ t.values.ghost_name → t'.worked.ghost_name ≡ t.worked.ghost_name → length t'.values.now ≡ length t.values.now → length t'.worked.now ≡ length t.worked.now → Then t'.tables o → Of R means val (λ y. means x ≡ y) q (λ c. Made R means was is t t' c (accepted o))
  accepted_then o vs ws lv lw h =
      let below = was.below in
      let below' = is.below in
      let cap = ap (λ (k : Counts). k.witnesses) h.0.capacity in
      of_made R means val (means x) q (Written (accepted o)) h.2 (λ c. Made R means was is t t' c (accepted o)) (λ c so new. record {
        called = accepted_so R means was.capacity was.counts (held t) c is.counts t'.tables.constants.now t'.tables.nodes.now t'.tables.assertions.now (accepted o) (rw is_lacking at so.called) t'.values.now t'.worked.now x o refl (below.2, omega arith) new h.1;
        stays = record { structure = h.0; lent_values = vs; lent_worked = ws; long_values = lv; long_worked = lw };
      })

  -- b and a are the counts as code has read them
  pub accepted_request : (m : Tables E) (o : Option (Var M)) (b a : Counts) → t'.tables ≡ m → b ≡ was.counts → a ≡ is.counts → StructureStays was is t.tables m → t'.values.ghost_name ≡ t.values.ghost_name → t'.worked.ghost_name ≡ t.worked.ghost_name → length t'.values.now ≡ length t.values.now → length t'.worked.now ≡ length t.worked.now → Filled R means b a x (book m.constants.now m.nodes.now m.assertions.now t.values.now t.worked.now) (held t') → OfStructure R means q (λ c. Structured R means lacking was is t.tables m c (accepted o)) → Of R means val (λ y. means x ≡ y) q (λ c. Made R means was is t t' c (accepted o))
  accepted_request m o b a same is_b is_a stays vs ws lv lw filled made =
      let old = book m.constants.now m.nodes.now m.assertions.now t.values.now t.worked.now in
      let filled' = rw (is_b, is_a) at filled in
      accepted_then o vs ws lv lw (subst (λ (m : Tables E). Then m o) (sym same) (stays, filled', made))

  pub shaped_request : (m : Tables E) (p : Reply M) → t'.tables ≡ m → OfStructure R means q (λ c. Structured R means lacking was is t.tables m c p) → OfStructure R means q (λ c. Structured R means (lacks was.capacity (held t)) was is t.tables t'.tables c p)
  shaped_request m p same made = rw (← is_lacking, same) made
