use Rattle.std.proofs.Common.{◌&&◌, ◌==◌, sym, ap, ◌∙◌, arith, rules}
use Rattle.std.proofs.lemmas.Grind.{common_steps}
use Rattle.std.proofs.lemmas.List.{get_or_default}
use Rattle.std.proofs.lemmas.Fn.{always_returns_same}
use Rattle.matrix.specs.declared.Cell.{Cell}
use Rattle.matrix.specs.Cells.{before}
use Rattle.matrix.proofs.Placed.{gap_at}
use Rattle.matrix.proofs.SparseMatrix.find.Goals as goal

pub returns-in_default : goal.returns-in_default
returns-in_default g c =
    let a = c.args in
    let cells = c.cells-cells in
    let ends = c.partition_point-at.ensures in
    let parts = ends.partitioned (λ y. before y.row y.column a.row a.column) (always_returns_same _ _ _ (λ b r f called. search rules)) in
    rw (← cells.ensures) (gap_at a.row a.column cells.result.now (rw cells.ensures a.self.now.ordered) c.partition_point-at.result ends.bound parts
    (λ lt d. ap (λ (y : Cell _). (y.row == a.row) && (y.column == a.column)) (get_or_default _ _ d c.in-Some.cell.now lt ∙ sym c.in-Some.ensures.lookup.1) ∙ sym c.eq.ensures ∙ c.if-eq.false))

pub returns-in_default-2 : goal.returns-in_default-2
returns-in_default-2 g c =
    let a = c.args in
    let cells = c.cells-cells in
    let ends = c.partition_point-at.ensures in
    let parts = ends.partitioned (λ y. before y.row y.column a.row a.column) (always_returns_same _ _ _ (λ b r f called. search rules)) in
    rw (← cells.ensures) (gap_at a.row a.column cells.result.now (rw cells.ensures a.self.now.ordered) c.partition_point-at.result ends.bound parts
    (λ lt d. absurd (grind (arith, common_steps, c.get.ensures.lookup.0))))
