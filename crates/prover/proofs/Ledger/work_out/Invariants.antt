use Rattle.std.proofs.Common.{◌≡◌, map, take, drop, length}
use Rattle.worksheet.specs.Runs.{work_out}
use Rattle.prover.specs.Book.{of_constants}
use Rattle.prover.proofs.Ledger.work_out.Given as goal

abbrev pub invariant-loop-k : goal.invariant-loop-k
invariant-loop-k g l =
    let r = g.E.Ring in
    let n = l.counts in
    let was = l.initial.self in
    let S = of_constants (map r.means (take n.constants was.tables.constants.now)) in
    let ρ = map r.means (take n.witnesses was.values.now) in
    let nds = take n.nodes was.tables.nodes.now in
    record {
      values : work_out r.algebra S ρ (map r.means (take l.k l.self.worked.now)) (drop l.k nds) ≡ work_out r.algebra S ρ (map r.means (take l.first was.worked.now)) (drop l.first nds);
      spare : drop n.nodes l.self.worked.now ≡ drop n.nodes was.worked.now;
      structure : l.self.tables ≡ was.tables;
      handed : l.self.values ≡ was.values;
      lent : l.self.worked.ghost_name ≡ was.worked.ghost_name;
      long : length l.self.worked.now ≡ length was.worked.now;
    }
