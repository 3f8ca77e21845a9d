-- What a value depends on.
use Rattle.std.proofs.Common.{◌≡◌, List, [], ◌∷◌, ◌++◌, refl, ap, ◌∙◌, ap₂}
use Rattle.ring.specs.Algebra.{RingOn}
use Rattle.worksheet.specs.declared.CircuitIdx.{CircuitIdx}
use Rattle.worksheet.specs.declared.CircuitIdx.TheVariants.{Constant, Witness, Node}
use Rattle.worksheet.specs.declared.CircuitNode.{CircuitNode}
use Rattle.worksheet.specs.Sheet.{Sheet, combine, left_of, right_of}
use Rattle.worksheet.specs.Runs.{look, work_out}
use Rattle.prover.specs.Book.{of_constants}

module _ {M : Type 0} (R : RingOn M) (S : Sheet M) (ρ : List M) where
  pub look_by : (ws : List M) (a : CircuitIdx) → look R (of_constants S.constants) ρ ws a ≡ look R S ρ ws a
  look_by ws (Constant k) = refl
  look_by ws (Witness k) = refl
  look_by ws (Node k) = refl

  -- the nodes' values depend on the constants alone of a worksheet
  pub works_by : (nds : List CircuitNode) (ws : List M) → work_out R (of_constants S.constants) ρ ws nds ≡ work_out R S ρ ws nds
  works_by [] ws = refl
  works_by (nd ∷ nds) ws =
      ap (λ (x : M). work_out R (of_constants S.constants) ρ (ws ++ (x ∷ [])) nds) (ap₂ (combine R nd) (look_by ws (left_of nd)) (look_by ws (right_of nd)))
      ∙ works_by nds (ws ++ (combine R nd (look R S ρ ws (left_of nd)) (look R S ρ ws (right_of nd)) ∷ []))
