use Rattle.matrix.specs.Table.{matrix, room}
use Rattle.matrix.proofs.Held.{ordered_cells}
use Rattle.matrix.proofs.Order.{order_holds}
use Rattle.matrix.proofs.Outcomes.{weights_of}
use Rattle.matrix.proofs.SparseMatrix.set.Goals as goal

pub returns-clause-weights : goal.returns-clause-weights
returns-clause-weights g c =
    let r = g.E.Ring in
    let a = c.args in
    let m = a.self.now in
    weights_of r.algebra (room m) a.row a.column (λ _. r.means a.weight) (matrix r.means m) c.put.result (matrix r.means c.put.new.self) (order_holds _ (ordered_cells r.means m)) c.put.ensures.answer
