use Rattle.std.proofs.Common.{◌≡◌, ap, ◌∙◌}
use Rattle.matrix.specs.Cells.{weight_at}
use Rattle.matrix.specs.Table.{matrix, room}
use Rattle.matrix.proofs.Held.{ordered_cells, weight_found, weight_absent}
use Rattle.matrix.proofs.Order.{order_holds}
use Rattle.matrix.proofs.Outcomes.{touched_as, weights_of, sums_of}
use Rattle.matrix.proofs.SparseMatrix.add.Goals as goal
use Rattle.matrix.proofs.SparseMatrix.add.Goals.{in-Ok, in-Err}

pub returns : goal.returns
returns g c =
    let r = g.E.Ring in
    let a = c.args in
    let m = a.self.now in
    let f = λ (u : r.Member). r.algebra.plus u (r.means a.weight) in
    let order = order_holds _ (ordered_cells r.means m) in
    let there : r.means c.match-place.there ≡ weight_at r.algebra a.row a.column (matrix r.means m).cells =
    elim c.match-place.branch [
      | in-Ok w ↦ ap r.means w.there-is ∙ weight_found r.means m r.algebra a.row a.column w.in-Ok.at w.index-self-at.result w.in-Ok.ensures
      | in-Err w ↦ ap r.means w.there-is ∙ w.zero-there.ensures ∙ weight_absent r.means m r.algebra a.row a.column w.in-Err.field-0 a.weight w.in-Err.ensures
    ] in
    let sum = c.add-sum.ensures ∙ ap f there in
    let is = c.put.ensures.answer ∙ touched_as r.algebra (room m) a.row a.column f (r.means c.add-sum.result) (matrix r.means m) order sum in
    record {
      answer = is;
      weights = weights_of r.algebra (room m) a.row a.column f (matrix r.means m) c.put.result (matrix r.means c.put.new.self) order is;
      sums = sums_of r.algebra (room m) a.row a.column (r.means a.weight) (matrix r.means m) c.put.result (matrix r.means c.put.new.self) is;
      refused = c.put.ensures.refused;
      spare = c.put.ensures.spare;
      lent = c.put.ensures.lent;
    }
