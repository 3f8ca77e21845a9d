-- A call whose structure is written, and then its values, is the step of its definition, and so is one that is refused.
use Rattle.std.proofs.Common.{◌≡◌, ℕ, ◌+◌, ◌≤◌, false, cond, ltb, ◌⊎◌, List, [], ◌∷◌, ◌++◌, map, length, take, drop, set, Some, None, Option, sym, refl, ap, ◌∙◌, inl, inr, arith}
use Rattle.std.proofs.lemmas.List.{append-nil, length-take-le, take_more_set, map_push, drop-set-lt}
use Rattle.std.proofs.lemmas.Bool.Decides.{nat_tests}
use Rattle.std.proofs.lemmas.Bool.{cond-true, cond-false, le-ltb, lt-ltb}
use Rattle.refusal.specs.Outcome.{accepted, refused}
use Rattle.ring.specs.Algebra.{RingOn}
use Rattle.worksheet.specs.declared.CircuitIdx.{CircuitIdx}
use Rattle.worksheet.specs.declared.CircuitNode.{CircuitNode}
use Rattle.worksheet.specs.declared.Counts.{Counts}
use Rattle.worksheet.specs.declared.Var.{Var}
use Rattle.worksheet.specs.Sheet.{Sheet}
use Rattle.worksheet.specs.Calls.{Answered}
use Rattle.worksheet.specs.Law.{Stepped}
use Rattle.worksheet.specs.Runs.{
  prover,
  verifier,
  Call,
  erase,
  constant,
  witness,
  add,
  multiply,
  negate,
  subtract,
  divide,
  invert,
  assert_equal,
  boolean_constant,
  boolean_witness,
  boolean_assert,
  boolean_not,
  boolean_and,
  boolean_or,
  select,
  perform,
  reply,
  Reply,
  fresh,
  refusal,
  call_causes,
  Worksheet,
  values_of,
  work_out,
  step_by,
  step,
}
use Rattle.worksheet.proofs.Witnesses.{appends}
use Rattle.builder.specs.Called.{Called as Structured, worksheet_in as structure_in}
use Rattle.prover.specs.Book.{Book, book, lacks, short, sheet_of, worksheet_in}
use Rattle.prover.specs.Called.{Called}
use Rattle.prover.specs.Filled.{Filled}
use Rattle.prover.proofs.Entries.{works_by}

-- a call and the verifier's are refused for the same causes, append the same and answer the same
pub record Erased {M : Type 0} (R : RingOn M) (cap : Counts) (S : Sheet M) (c : Call R prover) : Type 0 where
  pub causes : call_causes R cap S (erase c) ≡ call_causes R cap S c
  pub performs : perform R S (erase c) ≡ perform R S c
  pub replies : (v : Var M) → reply (erase c) v ≡ reply c v
  pub answers : (v : Var M) → (o : Option (Var M)) × (reply c v ≡ accepted o)

erased : {M : Type 0} (R : RingOn M) (cap : Counts) (S : Sheet M) (c : Call R prover) → Erased R cap S c
erased R cap S (constant x) = record { causes = refl; performs = refl; replies = λ v. refl; answers = λ v. (_, refl) }
erased R cap S (witness x) = record { causes = refl; performs = refl; replies = λ v. refl; answers = λ v. (_, refl) }
erased R cap S (add x y) = record { causes = refl; performs = refl; replies = λ v. refl; answers = λ v. (_, refl) }
erased R cap S (multiply x y) = record { causes = refl; performs = refl; replies = λ v. refl; answers = λ v. (_, refl) }
erased R cap S (negate x) = record { causes = refl; performs = refl; replies = λ v. refl; answers = λ v. (_, refl) }
erased R cap S (subtract x y) = record { causes = refl; performs = refl; replies = λ v. refl; answers = λ v. (_, refl) }
erased R cap S (divide F x y) = record { causes = refl; performs = refl; replies = λ v. refl; answers = λ v. (_, refl) }
erased R cap S (invert F x) = record { causes = refl; performs = refl; replies = λ v. refl; answers = λ v. (_, refl) }
erased R cap S (assert_equal x y d) = record { causes = refl; performs = refl; replies = λ v. refl; answers = λ v. (_, refl) }
erased R cap S (boolean_constant b) = record { causes = refl; performs = refl; replies = λ v. refl; answers = λ v. (_, refl) }
erased R cap S (boolean_witness b) = record { causes = refl; performs = refl; replies = λ v. refl; answers = λ v. (_, refl) }
erased R cap S (boolean_assert x d) = record { causes = refl; performs = refl; replies = λ v. refl; answers = λ v. (_, refl) }
erased R cap S (boolean_not x) = record { causes = refl; performs = refl; replies = λ v. refl; answers = λ v. (_, refl) }
erased R cap S (boolean_and x y) = record { causes = refl; performs = refl; replies = λ v. refl; answers = λ v. (_, refl) }
erased R cap S (boolean_or x y) = record { causes = refl; performs = refl; replies = λ v. refl; answers = λ v. (_, refl) }
erased R cap S (select b t f) = record { causes = refl; performs = refl; replies = λ v. refl; answers = λ v. (_, refl) }

-- no witness is new, or one, whose value is x
abbrev pub Handed : {M : Type 0} → M → List M → Type 0
Handed x xs = (xs ≡ []) ⊎ (xs ≡ x ∷ [])

-- tables that are long enough
pub record Long {E : Type 0} (cap : Counts) (t : Book E) : Type 0 where
  pub values : cap.witnesses ≤ length t.values
  pub worked : cap.nodes ≤ length t.worked
  pub constants : cap.constants ≤ length t.constants
  pub nodes : cap.nodes ≤ length t.nodes
  pub assertions : cap.assertions ≤ length t.assertions

pub long : {E : Type 0} (cap : Counts) (t : Book E) → short cap t ≡ false → Long cap t
long cap t h = grind (arith, nat_tests)

-- the witnesses' values, with one more where one is new
pub handed : {E M : Type 0} (means : E → M) (vs vs' : List E) (n n' : ℕ) (x : E) (xs : List M) → n' ≤ length vs → n' ≡ n + length xs → Handed (means x) xs → vs' ≡ cond (ltb n n') (set vs n x) vs → map means (take n' vs') ≡ map means (take n vs) ++ xs
handed means vs vs' n n' x xs le count (inl none) is =
    let nil = ap length none in
    let same : n' ≡ n = omega arith in
    let kept = is ∙ cond-false (ltb n n') _ _ (le-ltb n n' (omega arith)) in
    let ends = append-nil (map means (take n vs)) in
    cc
handed means vs vs' n n' x xs le count (inr one) is =
    let sole = ap length one in
    let more : n' ≡ n + 1 = omega arith in
    let written = is ∙ cond-true (ltb n n') _ _ (lt-ltb n n' (omega arith)) in
    let grown = take_more_set vs n x (omega arith) in
    let pushed = map_push means (take n vs) x in
    cc

-- and what stands past them
pub past_handed : {E : Type 0} (vs vs' : List E) (n n' : ℕ) (x : E) → vs' ≡ cond (ltb n n') (set vs n x) vs → drop n' vs' ≡ drop n' vs
past_handed vs vs' n n' x is = grind (arith, nat_tests, drop-set-lt)

-- a step that is found to be x
pub stepped_by : {M : Type 0} (R : RingOn M) (cap : Counts) (W : Worksheet M prover) (c : Call R prover) {W' : Worksheet M prover} {p : Reply M} {x : Worksheet M prover × Reply M} → step R prover cap W c ≡ x → W' ≡ x.0 → p ≡ x.1 → Stepped R prover cap W W' c p
stepped_by R cap W c done is_worksheet is_reply = record {
  worksheet = is_worksheet ∙ sym (ap (λ (y : Worksheet _ prover × Reply _). y.0) done);
  reply = is_reply ∙ sym (ap (λ (y : Worksheet _ prover × Reply _). y.1) done);
}

module _ {E M : Type 0} (R : RingOn M) (means : E → M) (cap n : Counts) (t : Book E) (c : Call R prover) where
  abbrev S : Sheet M
  S = sheet_of means n t

  abbrev W : Worksheet M prover
  W = worksheet_in means n t

  abbrev V : Worksheet M verifier
  V = structure_in means n t.constants t.nodes t.assertions

  abbrev causes : Option ℕ
  causes = refusal (call_causes R cap S c)

  -- the verifier's step goes by the same causes
  by_causes : step R verifier cap V (erase c) ≡ step_by R verifier causes V (erase c)
  by_causes = ap (λ o. step_by R verifier (refusal o) V (erase c)) (erased R cap S c).causes

  module _ (n' : Counts) (cs' : List E) (ns' : List CircuitNode) (qs' : List (CircuitIdx × CircuitIdx)) (p : Reply M) (made : Structured R means cap n n' (lacks cap t) t.constants cs' t.nodes ns' t.assertions qs' (erase c) p) where
    abbrev V' : Worksheet M verifier
    V' = structure_in means n' cs' ns' qs'

    replied : short cap t ≡ false → p ≡ (step_by R verifier causes V (erase c)).1
    replied s = (made.stepped s).reply ∙ ap (λ (x : Worksheet M verifier × Reply M). x.1) by_causes

    left : short cap t ≡ false → V' ≡ (step_by R verifier causes V (erase c)).0
    left s = (made.stepped s).worksheet ∙ ap (λ (x : Worksheet M verifier × Reply M). x.0) by_causes

    -- a refusal of the structure
    pub refused_so : (k : ℕ) → p ≡ refused k → Called R means cap n n' t (book cs' ns' qs' t.values t.worked) c p
    refused_so k is =
        let same = made.unchanged k is in
        let tables : book cs' ns' qs' t.values t.worked ≡ book t.constants t.nodes t.assertions t.values t.worked = cc in
        let worksheet : worksheet_in means n' (book cs' ns' qs' t.values t.worked) ≡ W = cc in
        record {
          too_short = made.too_short;
          stepped = λ s. stepped_by R cap W c (go causes (replied s)) worksheet refl;
          unchanged = λ _ _. (same.0, tables);
          spare_constants = ap (drop n'.constants) same.1;
          spare_nodes = ap (drop n'.nodes) same.2;
          spare_assertions = ap (drop n'.assertions) same.3;
          spare_values = refl;
          spare_worked = refl;
        }
      where
        go : (o : Option ℕ) → p ≡ (step_by R verifier o V (erase c)).1 → step_by R prover o W c ≡ (W, p)
        go (Some j) e = cc
        go None e =
            let v = (perform R S (erase c)).1 in
            let a = (erased R cap S c).answers v in
            let r = (erased R cap S c).replies v in
            absurd (cc (e, is, r, a.1))

    -- the structure is written, and then the values
    module _ (vs' ws' : List E) (x : E) (o : Option (Var M)) (is : p ≡ accepted o) (below : (n.nodes ≤ cap.nodes) × (n'.witnesses ≤ cap.witnesses)) (new : Handed (means x) (fresh R (values_of R W) c)) (filled : Filled R means n n' x (book cs' ns' qs' t.values t.worked) (book cs' ns' qs' vs' ws')) where
      abbrev W' : Worksheet M prover
      W' = worksheet_in means n' (book cs' ns' qs' vs' ws')

      grown : short cap t ≡ false → V' ≡ (step_by R verifier None V (erase c)).0 → W' ≡ (step_by R prover None W c).0
      grown s e =
          let T = (perform R S c).0 in
          let T' = V'.sheet in
          let sheet : T' ≡ T = ap (λ (U : Worksheet M verifier). U.sheet) e ∙ ap (λ (A : Answered M). A.0) (erased R cap S c).performs in
          let new_values = fresh R (values_of R W) c in
          let counted : n'.witnesses ≡ n.witnesses + length new_values = ap (λ (U : Sheet M). U.witnesses) sheet ∙ appends R (values_of R W) S c in
          let ok = long cap t s in
          let given : map means (take n'.witnesses vs') ≡ W.given ++ new_values = handed means t.values vs' n.witnesses n'.witnesses x new_values (omega arith) counted new filled.hands in
          let first : n.nodes ≡ length S.nodes = sym (length-take-le n.nodes t.nodes (omega arith)) in
          let ρ' = map means (take n'.witnesses vs') in
          let worked : map means (take n'.nodes ws') ≡ work_out R T (W.given ++ new_values) W.worked (drop (length S.nodes) T.nodes) =
          filled.works
          ∙ works_by R T' ρ' (drop n.nodes T'.nodes) W.worked
          ∙ ap (λ (U : Sheet M). work_out R U ρ' W.worked (drop n.nodes U.nodes)) sheet
          ∙ ap (λ (ρ : List M). work_out R T ρ W.worked (drop n.nodes T.nodes)) given
          ∙ ap (λ k. work_out R T (W.given ++ new_values) W.worked (drop k T.nodes)) first in
          cc

      pub accepted_so : Called R means cap n n' t (book cs' ns' qs' vs' ws') c p
      accepted_so = record {
        too_short = λ s. absurd (cc (is, made.too_short s));
        stepped = λ s. let done = go s causes (replied s) (left s) in record { worksheet = done.0; reply = done.1 };
        unchanged = λ k e. absurd (cc (is, e));
        spare_constants = made.spare.0;
        spare_nodes = made.spare.1;
        spare_assertions = made.spare.2;
        spare_values = past_handed t.values vs' n.witnesses n'.witnesses x filled.hands;
        spare_worked = filled.past;
      }
        where
          go : short cap t ≡ false → (b : Option ℕ) → p ≡ (step_by R verifier b V (erase c)).1 → V' ≡ (step_by R verifier b V (erase c)).0 → (W' ≡ (step_by R prover b W c).0) × (p ≡ (step_by R prover b W c).1)
          go s (Some j) e q = absurd (cc (is, e))
          go s None e q = (grown s q, e ∙ (erased R cap S c).replies _ ∙ ap (λ (A : Answered M). reply c A.1) (erased R cap S c).performs)
