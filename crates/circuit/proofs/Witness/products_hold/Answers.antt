use Rattle.std.proofs.Common.{rules, tests, arith}
use Rattle.std.proofs.lemmas.Grind.{common_steps}
use Rattle.std.proofs.lemmas.Iterator.{cases_from_all, YieldsList-from_slice, YieldsList-from_zip}
use Rattle.circuit.proofs.Filled.{Agrees, decided}
use Rattle.circuit.proofs.Witness.products_hold.Goals as goal

pub returns : goal.returns
returns g c =
    let r = g.E.Ring in
    let w = c.args.self.now in
    let xs = w.columns in
    let cases = cases_from_all c.all.new.self _ _ (Agrees r.algebra r.means) (λ p. Agrees r.algebra r.means p → ⊥) c.all.ensures.ran
    (YieldsList-from_zip (YieldsList-from_zip (YieldsList-from_slice xs.left.now (grind (arith, common_steps))) (YieldsList-from_slice xs.right.now (grind (arith, common_steps)))) (YieldsList-from_slice w.out.now (grind (arith, common_steps))))
    (λ x q k. search (rules, tests)) (λ x q k agrees. search (rules, tests)) in
    decided r.algebra r.means xs.left.now xs.right.now w.out.now w.paired w.gated c.all.result cases
