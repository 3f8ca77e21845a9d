use Rattle.builder.proofs.Growth.{wrote_then}
use Rattle.builder.proofs.Draft.select.Goals as goal

pub returns : goal.returns
returns g c =
    let difference = c.subtract-difference.ensures in
    let product = rw (difference.grew.sheet, difference.answer, difference.kind) at c.operate-product.ensures in
    let rest = rw (product.grew.sheet, product.answer, product.kind) at c.operate.ensures in
    wrote_then difference (wrote_then product rest)
