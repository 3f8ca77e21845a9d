use Rattle.std.proofs.Common.{◌-◌, length, ap, sym, ◌∙◌, arith}
use Rattle.std.proofs.lemmas.Grind.{common_steps}
use Rattle.std.proofs.lemmas.List.{get_or-map}
use Rattle.ring.proofs.Laws.{nought_times, times_nought}
use Rattle.circuit.proofs.Filled.{out_at}
use Rattle.circuit.proofs.Columns.entry.Goals as goal

pub returns-then-k-right-2 : goal.returns-then-k-right-2
returns-then-k-right-2 g c =
    let m = g.E.Ring in
    let a = c.args in
    let self = a.self.now in
    let out = out_at m.algebra m.means self.values.now self.left.now self.right.now a.k (omega arith) in
    let x = c.index-left-k-then-k-right-2.result in
    let y = c.index-right-k-then-k-right-2.result in
    let j = a.k - 1 - length self.values.now - length self.left.now - length self.right.now in
    let l = get_or-map m.means self.left.now j x m.algebra.nought (omega arith) ∙ ap m.means (sym c.index-left-k-then-k-right-2.is) in
    let r = get_or-map m.means self.right.now j y m.algebra.nought (omega arith) ∙ ap m.means (sym c.index-right-k-then-k-right-2.is) in
    let p = c.multiply.ensures in
    cc

pub returns : goal.returns
returns g c =
    let m = g.E.Ring in
    let a = c.args in
    let self = a.self.now in
    let out = out_at m.algebra m.means self.values.now self.left.now self.right.now a.k (omega arith) in
    grind (arith, common_steps, out, c.else-k-left-2.either, nought_times, times_nought)
