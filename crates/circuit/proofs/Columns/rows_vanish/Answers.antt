use Rattle.std.proofs.Common.{◌≡◌, map, take, length, sym, ap, ◌∙◌, arith}
use Rattle.std.proofs.lemmas.Bool.{both_ways, false≢true}
use Rattle.matrix.specs.declared.Cell.{Cell}
use Rattle.matrix.specs.Cells.{cell, entry}
use Rattle.matrix.specs.Table.{matrix}
use Rattle.matrix.proofs.Order.{order_holds}
use Rattle.matrix.proofs.Held.{ordered_cells}
use Rattle.circuit.specs.Verdict.{filled}
use Rattle.circuit.proofs.Running.{start, same_row, new_row, fails, cell_at}
use Rattle.circuit.proofs.Columns.rows_vanish.Goals as goal
use Rattle.circuit.proofs.Columns.rows_vanish.Goals.{then-cell-row+else-not-equal, else-cell-row}

pub loop-cell-init : goal.loop-cell-init
loop-cell-init g c = start g.E.Ring.algebra _ _ _ c.zero-zero.ensures

pub loop-cell-preserved : goal.loop-cell-preserved
loop-cell-preserved g c =
    let m = g.E.Ring in
    let a = c.args in
    let A = m.algebra in
    let list = filled A (map m.means a.self.now.values.now) (map m.means a.self.now.left.now) (map m.means a.self.now.right.now) in
    let xs = (matrix m.means a.weights.now).cells in
    let order = order_holds xs (ordered_cells m.means a.weights.now) in
    let x = c.cell-item.result in
    let e : Cell m.Member = cell x.row x.column (m.means x.weight) in
    let at = cell_at m.means (take a.weights.now.count a.weights.now.cells.now) c.loop-cell.cell-index x (omega (arith, ap length c.cells-cell-items.ensures)) cc in
    let term = A.times (m.means x.weight) (entry A list x.column) in
    let added : m.means c.add-sum.result ≡ A.plus (m.means c.if-cell-row.sum) term =
    c.add-sum.ensures ∙ ap (A.plus (m.means c.if-cell-row.sum)) (c.multiply.ensures ∙ ap (A.times (m.means x.weight)) c.entry-x.ensures) in
    let z = c.zero-zero.ensures in
    elim c.if-cell-row.branch [
      | then-cell-row+else-not-equal w ↦
          let none = w.equal.ensures.yes w.if-not-equal.false ∙ z in
          rw (w.row-is, added, w.sum-is) (new_row A list xs order c.loop-cell.cell-index c.loop-cell.row _ c.loop-cell.invariant e at.0 at.1 w.if-cell-row.true none (m.means c.zero-zero.result) z)
      | else-cell-row w ↦ rw (w.row-is, added, w.sum-is) (same_row A list xs order c.loop-cell.cell-index c.loop-cell.row _ c.loop-cell.invariant e at.0 at.1 w.if-cell-row.false)
    ]

pub returns-then-not-equal : goal.returns-then-not-equal
returns-then-not-equal g c =
    let m = g.E.Ring in
    let a = c.args in
    let A = m.algebra in
    let list = filled A (map m.means a.self.now.values.now) (map m.means a.self.now.left.now) (map m.means a.self.now.right.now) in
    let xs = (matrix m.means a.weights.now).cells in
    let order = order_holds xs (ordered_cells m.means a.weights.now) in
    let x = c.cell-item.result in
    let at = cell_at m.means (take a.weights.now.count a.weights.now.cells.now) c.loop-cell.cell-index x (omega (arith, ap length c.cells-cell-items.ensures)) cc in (
      λ no'. absurd (false≢true no'),
      λ all. absurd (fails A list _ order c.loop-cell.cell-index c.loop-cell.row _ c.loop-cell.invariant (cell x.row x.column (m.means x.weight)) at.0 at.1 c.if-cell-row.true
          (λ none. both_ways _ c.if-not-equal.true (c.equal.ensures.no (none ∙ sym c.zero-zero.ensures))) all),
    )
