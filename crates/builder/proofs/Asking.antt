-- What a request asks: its operands, cost and answer are those of the calls that it stands for.
use Rattle.std.proofs.Common.{◌≡◌, ℕ, ◌||◌, Bool, map, Some, None, Option, refl, ◌∙◌, arith}
use Rattle.refusal.specs.Outcome.{accepted, refused}
use Rattle.ring.specs.Algebra.{RingOn}
use Rattle.worksheet.specs.declared.Var.{Var}
use Rattle.worksheet.specs.declared.Var.TheVariants.{Native, Circuit}
use Rattle.worksheet.specs.Sheet.{Sheet}
use Rattle.worksheet.specs.Calls.{var_means, plus_op, times_op, push_witness}
use Rattle.worksheet.specs.Runs.{verifier, native_square, Call, operands, clashes, perform, reply, refusal}
use Rattle.worksheet.proofs.Alike.{differ_agree}
use Rattle.builder.specs.declared.Builder.{Builder}
use Rattle.builder.specs.declared.Draft.{Draft}
use Rattle.builder.specs.declared.Tables.{Tables}
use Rattle.builder.specs.declared.Request.{Request}
use Rattle.builder.specs.declared.Request.TheVariants.{Constant, Witness, Add, Multiply, Negate, Subtract, DivideBy, DivideId, Invert, AssertEqual, BooleanWitness, BooleanAssert, Not, And, Or, Select}
use Rattle.builder.specs.Admission.{all_by, causes}
use Rattle.builder.specs.Called.{short, Stays, Made}
use Rattle.builder.specs.Cost.{kind_of}
use Rattle.builder.specs.Requests.{vars, request_cost, performed, shown, OfStructure, Clash}
use Rattle.builder.specs.Tables.{sheet_in, Wrote}
use Rattle.builder.specs.Within.{sum}
use Rattle.builder.proofs.Calling.{Asked, refused_call, accepted_call}
use Rattle.builder.proofs.Sizes.{sizes, constant_sized, witness_sized, operate_sized, negate_sized, subtract_sized, assert_sized, quotient_sized, square_sized, either_sized, select_sized, sized_then}

kind_means : {E M : Type 0} (means : E → M) (v : Var E) → kind_of (var_means means v) ≡ kind_of v
kind_means means v = grind arith

module _ {E M : Type 0} (R : RingOn M) (means : E → M) (S : Sheet M) where
  abbrev m : Var E → Var M
  m v = var_means means v

  -- a cost by the kinds of members is that by the kinds of elements
  request_sized : (q : Request E) → sizes (performed R means S q).0 ≡ sum (sizes S) (request_cost q).counts
  request_sized (Constant x) = (constant_sized S (means x)).counts
  request_sized Witness = (witness_sized S).counts
  request_sized (Add a b) = simp kind_means at (operate_sized R S plus_op (m a) (m b)).counts
  request_sized (Multiply a b) = simp kind_means at (operate_sized R S times_op (m a) (m b)).counts
  request_sized (Negate a) = simp kind_means at (negate_sized R S (m a)).counts
  request_sized (Subtract a b) = simp kind_means at (subtract_sized R S (m a) (m b)).counts
  request_sized (DivideBy a i) = simp kind_means at (quotient_sized R S (m a) (Circuit i)).counts
  request_sized (DivideId i y) = (quotient_sized R S (Circuit i) (Native (means y))).counts
  request_sized (Invert i) = (quotient_sized R S (Native R.unit) (Circuit i)).counts
  request_sized (AssertEqual a b) = simp kind_means at (assert_sized S (m a) (m b))
  request_sized BooleanWitness = (sized_then (witness_sized S) (square_sized R (push_witness S).0 (push_witness S).1)).counts
  request_sized (BooleanAssert a) = simp kind_means at (square_sized R S (m a)).counts
  request_sized (Not a) = simp kind_means at (subtract_sized R S (Native R.unit) (m a)).counts
  request_sized (And a b) = simp kind_means at (operate_sized R S times_op (m a) (m b)).counts
  request_sized (Or a b) = simp kind_means at (either_sized R S (m a) (m b)).counts
  request_sized (Select b t f) = simp kind_means at (select_sized R S (m b) (m t) (m f)).counts

  asked : (q : Request E) (clash : Bool) (c : Call R verifier) → map m (vars q) ≡ operands c → clash ≡ clashes R c → perform R S c ≡ performed R means S q → ((v : Var M) → reply c v ≡ accepted (shown R means q v)) → Asked R means S c (vars q) clash (request_cost q).counts (performed R means S q) (shown R means q)
  asked q clash c named clash_is performs replies = record { named = named; clash_is = clash_is; sized = request_sized q; performs = performs; replies = replies }

  -- what holds of every call that is asked so holds of the calls that the request stands for
  pub of_asked : (q : Request E) (clash : Bool) → Clash R means q clash → (P : Call R verifier → Type 0) → ((c : Call R verifier) → Asked R means S c (vars q) clash (request_cost q).counts (performed R means S q) (shown R means q) → P c) → OfStructure R means q P
  of_asked (Constant x) b e P h = h _ (asked (Constant x) b _ refl e refl (λ _. refl))
  of_asked Witness b e P h = λ _ _. h _ (asked Witness b _ refl e refl (λ _. refl))
  of_asked (Add x y) b e P h = h _ (asked (Add x y) b _ refl e refl (λ _. refl))
  of_asked (Multiply x y) b e P h = h _ (asked (Multiply x y) b _ refl e refl (λ _. refl))
  of_asked (Negate x) b e P h = h _ (asked (Negate x) b _ refl e refl (λ _. refl))
  of_asked (Subtract x y) b e P h = h _ (asked (Subtract x y) b _ refl e refl (λ _. refl))
  of_asked (DivideBy (Native x) i) b e P h = λ F _. h _ (asked (DivideBy (Native x) i) b _ refl e refl (λ _. refl))
  of_asked (DivideBy (Circuit j) i) b e P h = λ F _. h _ (asked (DivideBy (Circuit j) i) b _ refl e refl (λ _. refl))
  of_asked (DivideId i y) b e P h = λ F _. h _ (asked (DivideId i y) b _ refl e refl (λ _. refl))
  of_asked (Invert i) b e P h = λ F _. h _ (asked (Invert i) b _ refl e refl (λ _. refl))
  of_asked (AssertEqual x y) b e P h = (e.0, λ d. h _ (asked (AssertEqual x y) b _ refl (e.1 ∙ differ_agree (m x) (m y) e.0 d) refl (λ _. refl)))
  of_asked BooleanWitness b e P h = λ _ _. h _ (asked BooleanWitness b _ refl e refl (λ _. refl))
  of_asked (BooleanAssert x) b e P h = (e.0, λ d. h _ (asked (BooleanAssert x) b _ refl (e.1 ∙ differ_agree (native_square R (m x)) (m x) e.0 d) refl (λ _. refl)))
  of_asked (Not x) b e P h = h _ (asked (Not x) b _ refl e refl (λ _. refl))
  of_asked (And x y) b e P h = h _ (asked (And x y) b _ refl e refl (λ _. refl))
  of_asked (Or x y) b e P h = h _ (asked (Or x y) b _ refl e refl (λ _. refl))
  of_asked (Select x y z) b e P h = h _ (asked (Select x y z) b _ refl e refl (λ _. refl))

-- a call that changes nothing
pub unmoved : {E : Type 0} (o : Builder) (t : Tables E) → Stays o o t t
unmoved o t = grind arith

-- a request as a whole, on tables t, where code has found whether other tables are short and whether natives clash
module _ {E M : Type 0} (R : RingOn M) (means : E → M) (o : Builder) (f : Bool) (t : Tables E) (q : Request E) (clash : Bool) (is_clash : Clash R means q clash) where
  abbrev S : Sheet M
  S = sheet_in means o.counts t.constants.now t.nodes.now t.assertions.now

  abbrev Refusing : Option ℕ → Type 0
  Refusing r = refusal (causes o.capacity o.counts (f || short o.capacity t.constants.now t.nodes.now t.assertions.now) (all_by o.counts (vars q)) clash (request_cost q).counts) ≡ r

  pub refused_request : (j : ℕ) → Refusing (Some j) → OfStructure R means q (λ c. Made R means f o o t t c (refused j))
  refused_request j e = of_asked R means S q clash is_clash (λ c. Made R means f o o t t c (refused j)) (λ c asked. record {
    called = refused_call R means o f t.constants.now t.nodes.now t.assertions.now c _ clash _ _ _ asked j e;
    stays = unmoved o t;
  })

  -- d and d' are the draft before and after
  pub accepted_request : Refusing None → (d d' : Draft E) (v : Var E) → d.constants.now ≡ t.constants.now → d.nodes.now ≡ t.nodes.now → d.assertions.now ≡ t.assertions.now → Wrote means d d' (request_cost q) (performed R means S q) v → (is : Builder) (t' : Tables E) → is.counts ≡ d'.counts → t'.constants.now ≡ d'.constants.now → t'.nodes.now ≡ d'.nodes.now → t'.assertions.now ≡ d'.assertions.now → Stays o is t t' → OfStructure R means q (λ c. Made R means f o is t t' c (accepted (shown R means q (var_means means v))))
  accepted_request e d d' v cs ns qs wrote is t' counted cs' ns' qs' stays = of_asked R means S q clash is_clash (λ c. Made R means f o is t t' c (accepted (shown R means q (var_means means v)))) (λ c asked. record {
    called = rw counted (accepted_call R means o f t.constants.now t.nodes.now t.assertions.now c _ clash _ _ _ asked e d d' v cs ns qs wrote.grew wrote.answer _ _ _ cs' ns' qs');
    stays = stays;
  })
