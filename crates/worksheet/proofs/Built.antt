-- A run of builder calls leaves a well-formed worksheet, within its capacities.
use Rattle.std.proofs.Common.{◌≡◌, ℕ, true, List, [], ◌∷◌, length, Some, None, Option, refl, arith}
use Rattle.std.proofs.lemmas.Bool.{ltb-true, ltb-false, and_parts, not-false}
use Rattle.ring.specs.Algebra.{RingOn}
use Rattle.worksheet.specs.declared.CircuitIdx.{CircuitIdx}
use Rattle.worksheet.specs.declared.CircuitIdx.TheVariants.{Constant, Witness, Node}
use Rattle.worksheet.specs.declared.Var.{Var}
use Rattle.worksheet.specs.declared.Var.TheVariants.{Native, Circuit}
use Rattle.worksheet.specs.Sheet.{Sheet, empty_sheet, WellFormed, Present}
use Rattle.worksheet.specs.Runs.{Role, prover, verifier, Call, operands, present, known, all_known, refusal, call_causes, Capacities, Worksheet, opened, step_by, step, run_from, run}
use Rattle.worksheet.specs.Law.{Within}
use Rattle.worksheet.proofs.Stepping.{clear}
use Rattle.worksheet.proofs.Growing.{KnownVar}
use Rattle.worksheet.proofs.Performed.{AllKnown, performs}

pub is_present : {M : Type 0} (S : Sheet M) (a : CircuitIdx) → present S a ≡ true → Present S a
is_present S (Constant k) e = ltb-true k (length S.constants) e
is_present S (Witness w) e = ltb-true w S.witnesses e
is_present S (Node n) e = ltb-true n (length S.nodes) e

is_known : {M : Type 0} (S : Sheet M) (x : Var M) → known S x ≡ true → KnownVar S x
is_known S (Native x) e = tt
is_known S (Circuit a) e = is_present S a e

are_known : {M : Type 0} (S : Sheet M) (xs : List (Var M)) → all_known S xs ≡ true → AllKnown S xs
are_known S [] e = tt
are_known S (x ∷ xs) e = let p = and_parts (known S x) (all_known S xs) e in (is_known S x p.0, are_known S xs p.1)

module _ {M : Type 0} (R : RingOn M) where
  -- the operands of an accepted call are known
  pub operands_known : {r : Role} (cap : Capacities) (S : Sheet M) (c : Call R r) → refusal (call_causes R cap S c) ≡ None → AllKnown S (operands c)
  operands_known cap S c e = are_known S (operands c) (not-false (all_known S (operands c)) (clear (call_causes R cap S c) e).0)

  -- what each call keeps holds after all of them
  module _ (r : Role) (cap : Capacities) (P : Worksheet M r → Type 0) (keeps : (W : Worksheet M r) (c : Call R r) (o : Option ℕ) → refusal (call_causes R cap W.sheet c) ≡ o → P W → P (step_by R r o W c).0) where
    pub kept_along : (cs : List (Call R r)) (W : Worksheet M r) → P W → P (run_from R r cap cs W).0
    kept_along [] W p = p
    kept_along (c ∷ cs) W p = kept_along cs (step R r cap W c).0 (keeps W c (refusal (call_causes R cap W.sheet c)) refl p)

  at_opening : (P : Sheet M → Type 0) (r : Role) → P empty_sheet → P (opened r).sheet
  at_opening P prover p = p
  at_opening P verifier p = p

  pub empty_wf : WellFormed {M = M} empty_sheet
  empty_wf = record {
    asserted_left = λ j h. absurd (omega arith);
    asserted_right = λ j h. absurd (omega arith);
    earlier_left = λ n h. absurd (omega arith);
    earlier_right = λ n h. absurd (omega arith);
    mixed = λ n h t. omega arith;
  }

  pub built : (r : Role) (cap : Capacities) (cs : List (Call R r)) → WellFormed (run R r cap cs).0.sheet
  built r cap cs = kept_along r cap (λ W. WellFormed W.sheet) keeps cs (opened r) (at_opening WellFormed r empty_wf)
    where
      keeps : (W : Worksheet M r) (c : Call R r) (o : Option ℕ) → refusal (call_causes R cap W.sheet c) ≡ o → WellFormed W.sheet → WellFormed (step_by R r o W c).0.sheet
      keeps W c (Some n) e wf = wf
      keeps W c None e wf = (performs R W.sheet c wf (operands_known cap W.sheet c e)).wf

  pub within : (r : Role) (cap : Capacities) (cs : List (Call R r)) → Within cap (run R r cap cs).0.sheet
  within r cap cs =
      kept_along r cap (λ W. Within cap W.sheet) keeps cs (opened r)
      (at_opening (Within cap) r (record { constants = omega arith; witnesses = omega arith; nodes = omega arith; assertions = omega arith }))
    where
      keeps : (W : Worksheet M r) (c : Call R r) (o : Option ℕ) → refusal (call_causes R cap W.sheet c) ≡ o → Within cap W.sheet → Within cap (step_by R r o W c).0.sheet
      keeps W c (Some n) e h = h
      keeps W c None e h =
          let k = clear (call_causes R cap W.sheet c) e in
          record { constants = ltb-false _ _ k.1.1.0; witnesses = ltb-false _ _ k.1.1.1.0; nodes = ltb-false _ _ k.1.1.1.1.0; assertions = ltb-false _ _ k.1.1.1.1.1.0 }
