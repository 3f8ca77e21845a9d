use Rattle.matrix.proofs.Filled.{filled_alike}
use Rattle.std.proofs.Common.{◌≡◌, rules}
use Rattle.matrix.specs.declared.Cell.{Cell}
use Rattle.matrix.proofs.SparseMatrix.new.Goals as goal

pub returns-clause-blank : goal.returns-clause-blank
returns-clause-blank g c =
    let r = g.E.Ring in
    filled_alike _ (λ (x : Cell _). (x.row ≡ 0) × (x.column ≡ 0) × (r.means x.weight ≡ r.algebra.nought)) _ (λ x q called. search rules) _ _ c.fill_with.ensures.ran.1
