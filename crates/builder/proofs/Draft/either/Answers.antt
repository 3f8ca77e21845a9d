use Rattle.builder.proofs.Growth.{wrote_then}
use Rattle.builder.proofs.Draft.either.Goals as goal

pub returns : goal.returns
returns g c =
    let sum = c.operate-sum.ensures in
    let product = rw sum.grew.sheet at c.operate-product.ensures in
    let rest = rw (product.grew.sheet, sum.answer, product.answer, sum.kind, product.kind) at c.subtract.ensures in
    wrote_then sum (wrote_then product rest)
