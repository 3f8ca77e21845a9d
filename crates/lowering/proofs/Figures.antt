-- The worked figures, by computation and by the law.
use Rattle.std.proofs.Common.{◌≡◌, ℕ, zero, suc, ◌+◌, ◌*◌, Bool, false, cond, not, List, [], ◌∷◌, map, Some, None, sym, refl, ap, ◌∙◌, inl, inr, arith}
use Rattle.std.proofs.lemmas.Bool.{cases_Bool}
use Rattle.refusal.specs.Outcome.{refused}
use Rattle.ring.specs.Algebra.{FieldOf}
use Rattle.ring.specs.Modular.{same_class}
use Rattle.ring.proofs.Laws.{times_nought}
use Rattle.worksheet.specs.declared.CircuitIdx.TheVariants.{Witness}
use Rattle.worksheet.specs.declared.Var.TheVariants.{Native, Circuit}
use Rattle.worksheet.specs.Sheet.{Holds}
use Rattle.worksheet.specs.Runs.{prover, Decided, witness, multiply, assert_equal, opened, step_by, run, values_of}
use Rattle.lowering.specs.Figures.{Residue, residues, residue, Calls, w0, w1, n0, room, ran, tables, lowered, Passes, fifteen, nine, divided, w0_committed, w0_twice, Figures}
use Rattle.lowering.proofs.Law.{law}

value_of : {x y : Residue} → x ≡ y → x.value ≡ y.value
value_of e = ap (λ (x : Residue). x.value) e

two_values : (l r : List ℕ) → Passes (witness (residue 3) ∷ []) w0_twice (3 ∷ (4 ∷ [])) l r → ⊥
two_values l r s =
    let t = (law residues).satisfying_bind prover room (witness (residue 3) ∷ []) (tables 99) w0_twice (lowered (witness (residue 3) ∷ []) w0_twice) 0 0 (map residue (3 ∷ (4 ∷ []))) (map residue l) (map residue r) refl s in
    let e : ◌≡◌ {A = ℕ} 3 4 = value_of (sym (t.3 0 (omega arith)) ∙ t.3 1 (omega arith)) in
    omega arith

holds_nine : Holds (ran nine).sheet (values_of residues (ran nine))
holds_nine zero h = same_class _ _ refl
holds_nine (suc j) h = absurd (omega arith)

root : Passes nine [] [] (8188 ∷ []) (8188 ∷ [])
root = ((law residues).written_satisfy room nine (tables 99) [] (lowered nine []) None 0 0 refl (omega arith)).0.1 holds_nine

no_root : Passes nine [] [] (3 ∷ []) (4 ∷ []) → ⊥
no_root s = let e : ◌≡◌ {A = ℕ} 8188 0 = value_of (s.rows 0) in omega arith

-- the same worksheet as the division's, with any quotient
abbrev with_quotient : ℕ → Calls
with_quotient q =
    witness (residue 0) ∷ (witness (residue 0) ∷ (witness (residue q) ∷ (multiply (Circuit (Witness 2)) w1 ∷ (assert_equal n0 w0 tt ∷ []))))

holds_any : (q : ℕ) → Holds (ran (with_quotient q)).sheet (values_of residues (ran (with_quotient q)))
holds_any q zero h = times_nought residues (residue q)
holds_any q (suc j) h = absurd (omega arith)

zero_by_zero : (F : FieldOf residues) (q : ℕ) → Passes (divided F 0 0) [] [] (q ∷ (0 ∷ [])) (0 ∷ (0 ∷ []))
zero_by_zero F q =
    ((law residues).written_satisfy room (with_quotient q) (tables 99) [] (lowered (with_quotient q) []) None 0 0 refl (omega arith)).0.1 (holds_any q)

one_by_zero : (F : FieldOf residues) (q x : ℕ) → Passes (divided F 1 0) [] [] (q ∷ (1 ∷ [])) (0 ∷ (x ∷ [])) → ⊥
one_by_zero F q x s =
    let t = (law residues).satisfying_bind prover room (divided F 1 0) (tables 99) [] (lowered (divided F 1 0) []) 0 0 [] (map residue (q ∷ (1 ∷ []))) (map residue (0 ∷ (x ∷ []))) refl s in
    residues.distinct (sym (times_nought residues (residue q)) ∙ t.2 0 (omega arith))

unequal : (d : Decided (residue 3) (residue 4)) → (run residues prover room (assert_equal (Native (residue 3)) (Native (residue 4)) d ∷ [])).1 ≡ refused 4 ∷ []
unequal d =
    ap (λ (b : Bool). (step_by residues prover (cond (not b) (Some 4) None) (opened prover) (assert_equal (Native (residue 3)) (Native (residue 4)) d)).1 ∷ []) no
  where
    no : d.yes? ≡ false
    no = elim (cases_Bool d.yes?) [
      | inl y ↦ (let e : ◌≡◌ {A = ℕ} 3 4 = value_of (d.if_yes y) in absurd (omega arith))
      | inr n ↦ n
    ]

not_a_circuit : (n : ℕ) → (lowered fifteen w0_committed).matrix.width ≡ 1 + 1 + 3 * n → ⊥
not_a_circuit n e = let q : 7 ≡ 1 + 1 + 3 * n = e in omega arith

pub figures : Figures
figures = record {
  fifteen_accepted = refl;
  fifteen_gates = refl;
  fifteen_height = refl;
  fifteen_width = refl;
  fifteen_cells = refl;
  fifteen_left = refl;
  fifteen_right = refl;
  not_a_circuit = not_a_circuit;
  padded_circuit = refl;
  two_slots = refl;
  two_values = two_values;
  nothing = refl;
  nothing_height = refl;
  nothing_width = refl;
  nothing_passes = record { v_size = refl; left_size = refl; right_size = refl; fits = omega arith; rows = λ i. refl };
  root = root;
  no_root = no_root;
  quotient_gates = λ F. refl;
  zero_by_zero = zero_by_zero;
  one_by_zero = one_by_zero;
  sum_refused = refl;
  product_accepted = refl;
  walk_of_three = refl;
  walk_of_two = refl;
  unequal = unequal;
}
