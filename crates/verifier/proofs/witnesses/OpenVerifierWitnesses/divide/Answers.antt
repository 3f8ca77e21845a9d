use Rattle.std.proofs.Common.{false, [], ◌∷◌, Some, refl, ap, ◌∙◌}
use Rattle.worksheet.specs.declared.Var.TheVariants.{Native}
use Rattle.worksheet.specs.Runs.{divide}
use Rattle.builder.specs.Tables.{sheet_in}
use Rattle.builder.proofs.Asking.{unmoved}
use Rattle.builder.proofs.Calling.{answered_call}
use Rattle.builder.proofs.Sizes.{zero_sized}
use Rattle.verifier.proofs.witnesses.OpenVerifierWitnesses.divide.Goals as goal

pub returns-in-Native-Native : goal.returns-in-Native-Native
returns-in-Native-Native g c =
    let r = g.E.Ring in
    let a = c.args in
    let o = a.self.now.builder in
    let t = a.tables.now in
    let F = c.inverse.ensures.0 in
    let S = sheet_in r.means o.counts t.constants.now t.nodes.now t.assertions.now in
    let x = r.means c.in-Native-Native.x in
    let y = r.means c.in-Native-Native.y in
    let product = c.multiply.ensures ∙ ap (r.algebra.times x) c.inverse.ensures.1 in
    rw (c.in-Native-Native.is-0, c.in-Native-Native.is-1) (
      F,
      record {
        called = answered_call r.algebra r.means o false t.constants.now t.nodes.now t.assertions.now (divide F (Native x) (Native y)) (S, Native (r.algebra.times x (F.inverse y))) Some (Native c.in-Native-Native.x ∷ (Native c.in-Native-Native.y ∷ [])) refl (record { named = refl; clash_is = refl; sized = zero_sized S; performs = refl; replies = λ _. refl }) refl (Native c.multiply.result) (ap Native product) c.answer.result c.answer.ensures;
        stays = unmoved o t;
      },
    )

pub returns-in-Native-Circuit : goal.returns-in-Native-Circuit
returns-in-Native-Circuit g c = rw (c.in-Native-Circuit.is-0, c.in-Native-Circuit.is-1) (λ F. c.call.ensures.called F tt)

pub returns-in-Circuit-Native : goal.returns-in-Circuit-Native
returns-in-Circuit-Native g c = rw (c.in-Circuit-Native.is-0, c.in-Circuit-Native.is-1) (λ F. c.call-in-Circuit-Native.ensures.called F tt)

pub returns-in-Circuit-Circuit : goal.returns-in-Circuit-Circuit
returns-in-Circuit-Circuit g c = rw (c.in-Circuit-Circuit.is-0, c.in-Circuit-Circuit.is-1) (λ F. c.call-in-Circuit-Circuit.ensures.called F tt)
