use Rattle.prover.proofs.Natives.{native_inverse, inverted}
use Rattle.prover.proofs.witnesses.OpenProverWitnesses.invert.Goals as goal

pub returns-in-Native : goal.returns-in-Native
returns-in-Native g c =
    let r = g.E.Ring in
    let o = c.args.self.now.builder in
    let t = c.args.ledger.now in
    let seen = c.view.ensures in
    let made = native_inverse r.algebra r.means o t _ _ c.answer.ensures _ in
    inverted r.algebra r.means o t c.view.result c.counts.ensures seen.counts seen.constants seen.values seen.worked c.inverse-inverse.ensures.0
    c.in-Native.is c.worth.ensures c.inverse-inverse.ensures.1 made

pub returns-in-Circuit : goal.returns-in-Circuit
returns-in-Circuit g c =
    let r = g.E.Ring in
    let seen = c.view.ensures in
    inverted r.algebra r.means c.args.self.now.builder c.args.ledger.now c.view.result c.counts.ensures seen.counts seen.constants seen.values seen.worked c.inverse-inverse.ensures.0
    c.in-Circuit.is c.worth.ensures c.inverse-inverse.ensures.1 c.call.ensures.called
