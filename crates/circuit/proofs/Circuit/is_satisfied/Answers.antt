use Rattle.std.proofs.Common.{map, arith}
use Rattle.std.proofs.lemmas.Grind.{common_steps}
use Rattle.matrix.specs.Table.{matrix}
use Rattle.matrix.proofs.Held.{ordered_cells, covered_cells}
use Rattle.circuit.proofs.Form.{decides_filled}
use Rattle.circuit.proofs.Circuit.is_satisfied.Goals as goal

pub returns-then-fits-clause-paper : goal.returns-then-fits-clause-paper
returns-then-fits-clause-paper g c =
    let r = g.E.Ring in
    let a = c.args in
    let m = a.weights.now in
    let xs = a.columns.now in
    decides_filled r.algebra (matrix r.means m) a.committed a.gates (map r.means xs.values.now) (map r.means xs.left.now) (map r.means xs.right.now) (ordered_cells r.means m) (covered_cells r.means m) c.rows_vanish.result (grind (arith, common_steps))
