use Rattle.std.proofs.lemmas.Result.{err_from_is_err_and}
use Rattle.builder.proofs.Open.bit_witness.Goals as goal

pub returns-in_err-var-clause-shaped : goal.returns-in_err-var-clause-shaped
returns-in_err-var-clause-shaped g c =
    let p = err_from_is_err_and c.from_residual.result c.from_residual.ensures.1 in
    rw (p.1, p.2) c.in_err-var.ensures.shaped
