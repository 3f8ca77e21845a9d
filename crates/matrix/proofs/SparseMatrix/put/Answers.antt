use Rattle.std.proofs.Common.{take}
use Rattle.matrix.proofs.Placed.{cover_kept}
use Rattle.matrix.proofs.SparseMatrix.put.Goals as goal

pub invariant_of-self-2 : goal.invariant_of-self-2
invariant_of-self-2 g c =
    let r = g.E.Ring in
    let a = c.args in
    let m = a.self.now in
    let written = c.in_ok-self.ensures.done in
    record {
      fits = written.fits;
      ordered = written.ordered;
      covered = cover_kept r.algebra r.means a.row a.column m.height m.width _ _ (λ _. r.means a.weight) (take m.count m.cells.now) _ m.covered written.cells c.max-self.ensures c.max-self-2.ensures;
    }
