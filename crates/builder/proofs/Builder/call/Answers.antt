use Rattle.std.proofs.Common.{sym, refl, subst, rules, arith}
use Rattle.std.proofs.lemmas.Grind.{common_steps}
use Rattle.std.proofs.lemmas.Result.{err_from_is_err_and}
use Rattle.builder.specs.Within.{Within}
use Rattle.builder.specs.Requests.{vars, request_cost}
use Rattle.builder.proofs.Calling.{operands_there, fits, room}
use Rattle.builder.proofs.Asking.{refused_request, accepted_request}
use Rattle.builder.proofs.Builder.call.Goals as goal

pub returns-in_err-admit-clause-called : goal.returns-in_err-admit-clause-called
returns-in_err-admit-clause-called g c =
    let r = g.E.Ring in
    let a = c.args in
    let p = err_from_is_err_and c.from_residual.result c.from_residual.ensures.1 in
    let refused = rw (c.lacks-short.ensures, c.knows_operands-known.ensures, c.cost_of-cost.ensures.cost) at c.in_err-admit.ensures in
    rw (p.1, p.2) (refused_request r.algebra r.means a.self.now a.lacking a.tables.now a.request _ c.clashes-clash.ensures _ refused)

pub make-answer-requires : goal.make-answer-requires
make-answer-requires g c =
    let a = c.args in
    let t = a.tables.now in
    let more = (request_cost a.request).counts in
    let admitted = rw (c.lacks-short.ensures, c.knows_operands-known.ensures, c.cost_of-cost.ensures.cost) at c.in_ok-admit.ensures in
    record {
      room = room a.self.now a.lacking t.constants.now t.nodes.now t.assertions.now (vars a.request) c.clashes-clash.result more admitted _ refl refl refl refl;
      operands = operands_there a.self.now a.lacking t.constants.now t.nodes.now t.assertions.now (vars a.request) c.clashes-clash.result more admitted;
    }

pub invariant_of-self : goal.invariant_of-self
invariant_of-self g c =
    let a = c.args in
    let o = a.self.now in
    let t = a.tables.now in
    let admitted = rw (c.lacks-short.ensures, c.knows_operands-known.ensures, c.cost_of-cost.ensures.cost) at c.in_ok-admit.ensures in
    let within = fits o a.lacking t.constants.now t.nodes.now t.assertions.now (vars a.request) c.clashes-clash.result (request_cost a.request).counts admitted in
    record { small = o.small; below = subst (λ n. Within n o.capacity) (sym c.make-answer.ensures.grew.counts) within }

pub returns-clause-called : goal.returns-clause-called
returns-clause-called g c =
    let r = g.E.Ring in
    let a = c.args in
    let admitted = rw (c.lacks-short.ensures, c.knows_operands-known.ensures, c.cost_of-cost.ensures.cost) at c.in_ok-admit.ensures in
    accepted_request r.algebra r.means a.self.now a.lacking a.tables.now a.request _ c.clashes-clash.ensures admitted _ _ c.make-answer.result refl refl refl c.make-answer.ensures _ _ refl (search rules) (search rules) (search rules) (grind (arith, common_steps))
