use Rattle.std.proofs.Common.{◌∙◌}
use Rattle.matrix.proofs.Held.{weight_absent}
use Rattle.matrix.proofs.SparseMatrix.get.Goals as goal

pub returns-in-Err : goal.returns-in-Err
returns-in-Err g c = c.zero.ensures ∙ weight_absent g.E.Ring.means c.args.self.now g.E.Ring.algebra _ _ _ c.zero.result c.in-Err.ensures
