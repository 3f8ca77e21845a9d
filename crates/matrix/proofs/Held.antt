-- What holds of every matrix that code holds.
use Rattle.std.proofs.Common.{◌≡◌, ℕ, ◌<◌, true, get_or, take, get_or-take, length-take-le, sym, ap, ◌∙◌, arith}
use Rattle.ring.specs.Algebra.{RingOn}
use Rattle.matrix.specs.declared.Cell.{Cell}
use Rattle.matrix.specs.declared.SparseMatrix.{SparseMatrix}
use Rattle.matrix.specs.Cells.{in_order, covers, weight_at}
use Rattle.matrix.specs.Places.{IsAt, IsGap}
use Rattle.matrix.specs.Table.{matrix}
use Rattle.matrix.proofs.Order.{order_holds, order_meant, covers_meant}
use Rattle.matrix.proofs.Placed.{at_cell, at_gap}

module _ {E M : Type 0} (means : E → M) (m : SparseMatrix E) where
  pub ordered_cells : in_order (matrix means m).cells ≡ true
  ordered_cells = order_meant means (take m.count m.cells.now) ∙ m.ordered

  pub covered_cells : covers m.height m.width (matrix means m).cells ≡ true
  covered_cells = covers_meant means m.height m.width (take m.count m.cells.now) ∙ m.covered

  -- the weight of a cell that a search found, and of none
  pub weight_found : (R : RingOn M) (r c at : ℕ) (d : Cell E) → IsAt (take m.count m.cells.now) r c at → means (get_or m.cells.now at d).weight ≡ weight_at R r c (matrix means m).cells
  weight_found R r c at d found =
      let under : at < m.count = omega (arith, found.within, length-take-le m.count m.cells.now m.fits) in
      ap (λ (y : Cell E). means y.weight) (sym (get_or-take m.count m.cells.now at d under)) ∙ sym (at_cell R means r c _ at d d.weight (order_holds _ m.ordered) found).weight

  pub weight_absent : (R : RingOn M) (r c at : ℕ) (v : E) → IsGap (take m.count m.cells.now) r c at → R.nought ≡ weight_at R r c (matrix means m).cells
  weight_absent R r c at v gap = sym (at_gap R means r c _ at v gap).weight
