use Rattle.std.proofs.Common.{map}
use Rattle.matrix.specs.Table.{matrix}
use Rattle.circuit.specs.Verdict.{filled}
use Rattle.circuit.proofs.Running.{Progress}
use Rattle.circuit.proofs.Columns.rows_vanish.Given as goal

abbrev pub invariant-loop-cell : goal.invariant-loop-cell
invariant-loop-cell g l =
    let m = g.E.Ring in
    Progress m.algebra (filled m.algebra (map m.means l.self.values.now) (map m.means l.self.left.now) (map m.means l.self.right.now)) (matrix m.means l.weights).cells l.cell-index l.row (m.means l.sum)
