-- A call that is admitted and written is the step of its definition, and so is one that is refused.
use Rattle.std.proofs.Common.{◌≡◌, ℕ, ◌≤◌, Bool, true, false, cond, ◌||◌, List, [], ◌∷◌, map, length, drop, Some, None, Ok, Err, Option, Result, sym, refl, ◌∙◌, subst, inl, inr, arith}
use Rattle.std.proofs.lemmas.List.{length-map, length-take-le}
use Rattle.std.proofs.lemmas.Bool.{cases_Bool, and_parts}
use Rattle.refusal.specs.declared.Refusal.{Refusal}
use Rattle.refusal.specs.declared.Refusal.TheVariants.{ShortTable}
use Rattle.refusal.specs.Outcome.{accepted, refused, outcome}
use Rattle.ring.specs.Algebra.{RingOn}
use Rattle.worksheet.specs.declared.CircuitIdx.{CircuitIdx}
use Rattle.worksheet.specs.declared.CircuitNode.{CircuitNode}
use Rattle.worksheet.specs.declared.Counts.{Counts}
use Rattle.worksheet.specs.declared.Var.{Var}
use Rattle.worksheet.specs.Sheet.{Sheet}
use Rattle.worksheet.specs.Calls.{Answered, var_means}
use Rattle.worksheet.specs.Runs.{verifier, Call, Worksheet, perform, reply, operands, all_known, known, clashes, refusal, call_causes}
use Rattle.worksheet.proofs.Stepping.{accepts_step, clear}
use Rattle.builder.specs.declared.Builder.{Builder}
use Rattle.builder.specs.declared.Draft.{Draft}
use Rattle.builder.specs.Admission.{known_by, all_by, causes}
use Rattle.builder.specs.Called.{short, worksheet_in, Called}
use Rattle.builder.specs.Cost.{counts}
use Rattle.builder.specs.Tables.{sheet_in, Room, There, AllThere, Grew}
use Rattle.builder.specs.Within.{Within, sum}
use Rattle.builder.proofs.Sizes.{sizes}

-- a variable that is known is there to be read
there_known : {E : Type 0} (n : Counts) (v : Var E) → known_by n v ≡ true → There n v
there_known n v h = grind arith

-- what is known of a call before it is made: its operands, whether it asserts unequal natives, and how much it would append
pub record Asked {E M : Type 0} (R : RingOn M) (means : E → M) (S : Sheet M) (c : Call R verifier) (vs : List (Var E)) (clash : Bool) (more : Counts) (A : Answered M) (show : Var M → Option (Var M)) : Type 0 where
  pub named : map (var_means means) vs ≡ operands c
  pub clash_is : clash ≡ clashes R c
  pub sized : sizes A.0 ≡ sum (sizes S) more
  pub performs : perform R S c ≡ A
  pub replies : (v : Var M) → reply c v ≡ accepted (show v)

all_there : {E : Type 0} (n : Counts) (vs : List (Var E)) → all_by n vs ≡ true → AllThere n vs
all_there n [] h = tt
all_there n (v ∷ vs) h = let both = and_parts (known_by n v) (all_by n vs) h in (there_known n v both.0, all_there n vs both.1)

module _ {E : Type 0} (o : Builder) (f : Bool) (cs : List E) (ns : List CircuitNode) (qs : List (CircuitIdx × CircuitIdx)) where
  -- some table that a call needs is short
  abbrev lacking : Bool
  lacking = f || short o.capacity cs ns qs

  long : lacking ≡ false → (o.capacity.constants ≤ length cs) × (o.capacity.nodes ≤ length ns) × (o.capacity.assertions ≤ length qs)
  long h = grind arith

  -- a call is admitted
  module _ (vs : List (Var E)) (clash : Bool) (more : Counts) (e : refusal (causes o.capacity o.counts lacking (all_by o.counts vs) clash more) ≡ None) where
    passed : (lacking ≡ false) × (all_by o.counts vs ≡ true) × (clash ≡ false)
    passed = grind (arith, clear (causes o.capacity o.counts lacking (all_by o.counts vs) clash more) e)

    pub operands_there : AllThere o.counts vs
    operands_there = all_there o.counts vs passed.1

    pub fits : Within (sum o.counts more) o.capacity
    fits = grind (arith, clear (causes o.capacity o.counts lacking (all_by o.counts vs) clash more) e)

    pub room : (t : Draft E) → t.counts ≡ o.counts → t.constants.now ≡ cs → t.nodes.now ≡ ns → t.assertions.now ≡ qs → Room t more
    room t is_n is_cs is_ns is_qs = grind (arith, long passed.0, o.small, fits)

module _ {E M : Type 0} (R : RingOn M) (means : E → M) (o : Builder) (f : Bool) (cs : List E) (ns : List CircuitNode) (qs : List (CircuitIdx × CircuitIdx)) where
  abbrev cap : Counts
  cap = o.capacity

  abbrev n : Counts
  n = o.counts

  abbrev S : Sheet M
  S = sheet_in means n cs ns qs

  abbrev lacks : Bool
  lacks = lacking o f cs ns qs

  sizes_are : lacks ≡ false → sizes S ≡ n
  sizes_are h = grind (arith, length-map, length-take-le, long o f cs ns qs h, o.below)

  known_one : lacks ≡ false → (v : Var E) → known_by n v ≡ known S (var_means means v)
  known_one h v = grind (arith, sizes_are h)

  known_all : lacks ≡ false → (vs : List (Var E)) → all_by n vs ≡ all_known S (map (var_means means) vs)
  known_all h [] = refl
  known_all h (v ∷ vs) = grind (arith, known_one h v, known_all h vs)

  module _ (c : Call R verifier) (vs : List (Var E)) (clash : Bool) (more : Counts) (A : Answered M) (show : Var M → Option (Var M)) (asked : Asked R means S c vs clash more A show) where
    abbrev tests : List (Bool × ℕ)
    tests = causes cap n lacks (all_by n vs) clash more

    total : lacks ≡ false → sizes (perform R S c).0 ≡ sum n more
    total h = grind (arith, sizes_are h)

    known_operands : lacks ≡ false → all_by n vs ≡ all_known S (operands c)
    known_operands h = grind (arith, known_all h vs)

    same_causes : lacks ≡ false → tests ≡ (false, 2) ∷ call_causes R cap S c
    same_causes h = grind (arith, total h, known_operands h)

    pub refused_call : (k : ℕ) → refusal tests ≡ Some k → Called R means cap n n f cs cs ns ns qs qs c (refused k)
    refused_call k e = record {
      too_short = λ s. grind arith;
      stepped = λ s. grind (arith, same_causes s);
      unchanged = λ _ _. (refl, refl, refl, refl);
      spare = (refl, refl, refl);
    }

    -- the counts n' and the tables cs', ns' and qs' hold what the call appends, and v is its answer
    appended : lacks ≡ false → all_by n vs ≡ true → clash ≡ false → Within (sum n more) cap → (n' : Counts) (cs' : List E) (ns' : List CircuitNode) (qs' : List (CircuitIdx × CircuitIdx)) → sheet_in means n' cs' ns' qs' ≡ A.0 → (drop n'.constants cs' ≡ drop n'.constants cs) × (drop n'.nodes ns' ≡ drop n'.nodes ns) × (drop n'.assertions qs' ≡ drop n'.assertions qs) → (v : Var E) → var_means means v ≡ A.1 → Called R means cap n n' f cs cs' ns ns' qs qs' c (accepted (show (var_means means v)))
    appended s known calm within n' cs' ns' qs' sheet spare v answer =
        let W : Worksheet M verifier = worksheet_in means n cs ns qs in
        let done = accepts_step R verifier cap W c (sym (known_operands s) ∙ known) (sym asked.clash_is ∙ calm) (subst (λ (m : Counts). Within m cap) (sym (total s)) within) in
        record {
          too_short = λ s'. grind arith;
          stepped = λ _. grind arith;
          unchanged = λ j e'. grind arith;
          spare = spare;
        }

    -- t and t' are the tables before and after, of which the caller's are cs', ns' and qs'
    pub accepted_call : refusal tests ≡ None → (t t' : Draft E) (v : Var E) → t.constants.now ≡ cs → t.nodes.now ≡ ns → t.assertions.now ≡ qs → Grew means t t' more A.0 → var_means means v ≡ A.1 → (cs' : List E) (ns' : List CircuitNode) (qs' : List (CircuitIdx × CircuitIdx)) → cs' ≡ t'.constants.now → ns' ≡ t'.nodes.now → qs' ≡ t'.assertions.now → Called R means cap n t'.counts f cs cs' ns ns' qs qs' c (accepted (show (var_means means v)))
    accepted_call e t t' v is_cs is_ns is_qs grew answer cs' ns' qs' to_cs to_ns to_qs =
        let h = passed o f cs ns qs vs clash more e in
        let kept = grew.kept in
        appended h.0 h.1 h.2 (fits o f cs ns qs vs clash more e) t'.counts cs' ns' qs' (rw (to_cs, to_ns, to_qs) grew.sheet) ((cc), (cc), (cc)) v answer

  -- a call of natives that appends nothing, and answers v
  pub answered_call : (c : Call R verifier) (A : Answered M) (show : Var M → Option (Var M)) → (vs : List (Var E)) → all_by n vs ≡ true → Asked R means S c vs false (counts 0 0 0 0) A show → A.0 ≡ S → (v : Var E) → var_means means v ≡ A.1 → (r : Result (Var E) Refusal) → r ≡ cond lacks (Err ShortTable) (Ok v) → Called R means cap n n f cs cs ns ns qs qs c (outcome (λ u. show (var_means means u)) r)
  answered_call c A show vs known asked same v answer r is =
      elim (cases_Bool lacks) [
        | inl s ↦ rw (is, s) (refused_call c vs false (counts 0 0 0 0) A show asked 2 (grind arith))
        | inr s ↦ rw (is, s) (appended c vs false (counts 0 0 0 0) A show asked s known refl (grind (arith, o.below)) n cs ns qs (sym same) (refl, refl, refl) v answer)
      ]
