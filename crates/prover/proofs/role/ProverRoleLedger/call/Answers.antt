use Rattle.std.proofs.Common.{refl}
use Rattle.std.proofs.lemmas.Result.{err_from_is_err_and}
use Rattle.prover.proofs.Asking.{refused_request, accepted_request, shaped_request}
use Rattle.prover.proofs.role.ProverRoleLedger.call.Goals as goal

pub returns-in_err-answer-clause-called : goal.returns-in_err-answer-clause-called
returns-in_err-answer-clause-called g c =
    let r = g.E.Ring in
    let a = c.args in
    let p = err_from_is_err_and c.from_residual.result c.from_residual.ensures.1 in
    rw (p.1, p.2) (refused_request r.algebra r.means a.builder.now _ a.ledger.now _ a.fresh a.request.now c.capacity.ensures c.lacks-lacking.ensures _ refl refl (record { structure = c.in_err-answer.ensures.stays; lent_values = refl; lent_worked = refl; long_values = refl; long_worked = refl }) c.in_err-answer.ensures.called)

pub returns-clause-called : goal.returns-clause-called
returns-clause-called g c =
    let r = g.E.Ring in
    let a = c.args in
    let made = c.in_ok-answer.ensures in
    accepted_request r.algebra r.means a.builder.now _ a.ledger.now _ a.fresh a.request.now c.capacity.ensures c.lacks-lacking.ensures c.call.new.tables _ _ _ c.fill.ensures.structure c.counts-before.ensures c.counts-after.ensures made.stays c.fill.ensures.lent.0 c.fill.ensures.lent.1 c.fill.ensures.long.0 c.fill.ensures.long.1 c.fill.ensures.filled made.called

pub returns-in_err-answer-clause-shaped : goal.returns-in_err-answer-clause-shaped
returns-in_err-answer-clause-shaped g c =
    let r = g.E.Ring in
    let a = c.args in
    let p = err_from_is_err_and c.from_residual.result c.from_residual.ensures.1 in
    rw (p.1, p.2) (shaped_request r.algebra r.means a.builder.now _ a.ledger.now (record { tables = c.call.new.tables; values = a.ledger.now.values; worked = a.ledger.now.worked }) a.fresh a.request.now c.capacity.ensures c.lacks-lacking.ensures _ _ refl c.in_err-answer.ensures.called)

pub returns-clause-shaped : goal.returns-clause-shaped
returns-clause-shaped g c =
    let r = g.E.Ring in
    let a = c.args in
    shaped_request r.algebra r.means a.builder.now _ a.ledger.now c.fill.new.self a.fresh a.request.now c.capacity.ensures c.lacks-lacking.ensures c.call.new.tables _ c.fill.ensures.structure c.in_ok-answer.ensures.called
