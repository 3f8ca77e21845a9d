use Rattle.std.proofs.Common.{false, [], ◌∷◌, Some, refl, ap}
use Rattle.worksheet.specs.declared.Var.TheVariants.{Native}
use Rattle.worksheet.specs.Runs.{invert}
use Rattle.builder.specs.Tables.{sheet_in}
use Rattle.builder.proofs.Asking.{unmoved}
use Rattle.builder.proofs.Calling.{answered_call}
use Rattle.builder.proofs.Sizes.{zero_sized}
use Rattle.verifier.proofs.witnesses.OpenVerifierWitnesses.invert.Goals as goal

pub returns-in-Native : goal.returns-in-Native
returns-in-Native g c =
    let r = g.E.Ring in
    let a = c.args in
    let o = a.self.now.builder in
    let t = a.tables.now in
    let F = c.inverse.ensures.0 in
    let S = sheet_in r.means o.counts t.constants.now t.nodes.now t.assertions.now in
    let x = r.means c.in-Native.x in
    rw c.in-Native.is (
      F,
      record {
        called = answered_call r.algebra r.means o false t.constants.now t.nodes.now t.assertions.now (invert F (Native x)) (S, Native (F.inverse x)) Some (Native c.in-Native.x ∷ []) refl (record { named = refl; clash_is = refl; sized = zero_sized S; performs = refl; replies = λ _. refl }) refl (Native c.inverse.result) (ap Native c.inverse.ensures.1) c.answer.result c.answer.ensures;
        stays = unmoved o t;
      },
    )

pub returns-in-Circuit : goal.returns-in-Circuit
returns-in-Circuit g c = rw c.in-Circuit.is (λ F. c.call.ensures.called F tt)
