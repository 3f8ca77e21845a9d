use Rattle.std.proofs.Common.{arith, rules}
use Rattle.worksheet.specs.Calls.{var_means, push_witness, times_op, operate}
use Rattle.builder.specs.Cost.{kind_of, witness_cost, operate_cost}
use Rattle.builder.specs.Tables.{sheet_of, Wrote}
use Rattle.builder.proofs.Growth.{grew_on, wrote_then}
use Rattle.builder.proofs.Draft.quotient.Goals as goal

pub returns : goal.returns
returns g c =
    let r = g.E.Ring in
    let q = c.push_witness.ensures in
    let W = push_witness (sheet_of r.means c.args.self.now) in
    let product : Wrote r.means c.push_witness.new.self c.operate-product.new.self (operate_cost witness_cost.kind (kind_of c.args.b)) (operate r.algebra times_op W.0 W.1 (var_means r.means c.args.b)) c.operate-product.result = grind arith in
    let asserted = rw (product.grew.sheet, product.answer, product.kind) at c.assert_equal.ensures in
    record { grew = grew_on (wrote_then q product).grew asserted; answer = q.answer; kind = q.kind; there = search rules }
