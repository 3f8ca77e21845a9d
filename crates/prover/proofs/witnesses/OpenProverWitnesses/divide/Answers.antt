use Rattle.prover.proofs.Natives.{native_quotient, divided}
use Rattle.prover.proofs.witnesses.OpenProverWitnesses.divide.Goals as goal

pub returns-in-Native-Native : goal.returns-in-Native-Native
returns-in-Native-Native g c =
    let r = g.E.Ring in
    let o = c.args.self.now.builder in
    let t = c.args.ledger.now in
    let seen = c.view-values.ensures in
    let made = native_quotient r.algebra r.means o t _ _ c.answer.ensures _ _ in
    divided r.algebra r.means o t c.view-values.result c.counts.ensures seen.counts seen.constants seen.values seen.worked c.inverse.ensures.0
    c.in-Native-Native.is-0 c.in-Native-Native.is-1 c.worth.ensures c.worth-2.ensures c.inverse.ensures.1 c.multiply-quotient.ensures made

pub returns-in-Native-Circuit : goal.returns-in-Native-Circuit
returns-in-Native-Circuit g c =
    let r = g.E.Ring in
    let seen = c.view-values.ensures in
    divided r.algebra r.means c.args.self.now.builder c.args.ledger.now c.view-values.result c.counts.ensures seen.counts seen.constants seen.values seen.worked c.inverse.ensures.0
    c.in-Native-Circuit.is-0 c.in-Native-Circuit.is-1 c.worth.ensures c.worth-2.ensures c.inverse.ensures.1 c.multiply-quotient.ensures c.call.ensures.called

pub returns-in-Circuit-Native : goal.returns-in-Circuit-Native
returns-in-Circuit-Native g c =
    let r = g.E.Ring in
    let seen = c.view-values.ensures in
    divided r.algebra r.means c.args.self.now.builder c.args.ledger.now c.view-values.result c.counts.ensures seen.counts seen.constants seen.values seen.worked c.inverse.ensures.0
    c.in-Circuit-Native.is-0 c.in-Circuit-Native.is-1 c.worth.ensures c.worth-2.ensures c.inverse.ensures.1 c.multiply-quotient.ensures c.call-in-Circuit-Native.ensures.called

pub returns-in-Circuit-Circuit : goal.returns-in-Circuit-Circuit
returns-in-Circuit-Circuit g c =
    let r = g.E.Ring in
    let seen = c.view-values.ensures in
    divided r.algebra r.means c.args.self.now.builder c.args.ledger.now c.view-values.result c.counts.ensures seen.counts seen.constants seen.values seen.worked c.inverse.ensures.0
    c.in-Circuit-Circuit.is-0 c.in-Circuit-Circuit.is-1 c.worth.ensures c.worth-2.ensures c.inverse.ensures.1 c.multiply-quotient.ensures c.call-in-Circuit-Circuit.ensures.called
