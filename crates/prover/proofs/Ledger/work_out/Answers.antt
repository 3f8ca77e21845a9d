use Rattle.std.proofs.Common.{map, take, ◌∙◌, arith, length-set}
use Rattle.std.proofs.lemmas.List.{drop-set-lt}
use Rattle.prover.specs.Book.{of_constants}
use Rattle.prover.proofs.WorkingOut.{one_more}
use Rattle.prover.proofs.Ledger.work_out.Goals as goal

pub loop-k-preserved : goal.loop-k-preserved
loop-k-preserved g c =
    let r = g.E.Ring in
    let a = c.args in
    let n = a.counts in
    let was = a.self.now in
    let S = of_constants (map r.means (take n.constants was.tables.constants.now)) in
    let ρ = map r.means (take n.witnesses was.values.now) in
    let ws = c.loop-k.self.worked.now in
    let k = c.loop-k.k in
    let x = c.work-value.result in
    let same = c.loop-k.invariant.structure in
    let seen = c.view.ensures in
    let long = c.loop-k.invariant.long in
    record {
      values = one_more r.algebra r.means S ρ was.tables.nodes.now n.nodes (omega arith) ws k (omega arith) (omega arith) x _ (rw (seen.counts, seen.constants, seen.values, seen.worked, same, c.loop-k.invariant.handed) at c.work-value.ensures) ∙ c.loop-k.invariant.values;
      spare = drop-set-lt n.nodes ws k x (omega arith) ∙ c.loop-k.invariant.spare;
      structure = same;
      handed = c.loop-k.invariant.handed;
      lent = c.loop-k.invariant.lent;
      long = length-set ws k x ∙ long;
    }
