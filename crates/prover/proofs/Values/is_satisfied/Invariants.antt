use Rattle.std.proofs.Common.{◌≡◌, ℕ, ◌<◌, get_or, take}
use Rattle.worksheet.specs.declared.CircuitIdx.TheVariants.{Constant}
use Rattle.prover.specs.Book.{read}
use Rattle.prover.proofs.Values.is_satisfied.Given as goal

-- the assertions so far hold
abbrev pub invariant-loop-pair : goal.invariant-loop-pair
invariant-loop-pair g l =
    let v = l.self in
    let val = read g.E.Ring.algebra g.E.Ring.means v.counts v.constants.now v.values.now v.worked.now in
    let at = λ (j : ℕ). get_or (take v.counts.assertions v.assertions.now) j (Constant 0, Constant 0) in
    (j : ℕ) → j < l.pair-index → val (at j).0 ≡ val (at j).1
