use Rattle.builder.proofs.Growth.{wrote_then}
use Rattle.builder.proofs.Draft.subtract.Goals as goal

pub returns : goal.returns
returns g c =
    let negated = c.negate-negated.ensures in
    let rest = rw (negated.grew.sheet, negated.answer, negated.kind) at c.operate.ensures in
    wrote_then negated rest
