-- The law on runs of builder calls, and what a single call has to say for a chain of them to be a run.
use Rattle.std.specs.Prelude.{◌≡◌, ◌≤◌, List, [], ◌∷◌, ◌++◌, map, length}
use Rattle.ring.specs.Algebra.{RingOn}
use Rattle.worksheet.specs.declared.CircuitIdx.{CircuitIdx}
use Rattle.worksheet.specs.Sheet.{Sheet, WellFormed, Present, value}
use Rattle.worksheet.specs.Runs.{Role, prover, verifier, Call, erase, SameCalls, Capacities, Reply, Worksheet, opened, values_of, step, run_from, run}

-- the call c takes the worksheet W to V and returns p
pub record Stepped {M : Type 0} (R : RingOn M) (r : Role) (cap : Capacities) (W V : Worksheet M r) (c : Call R r) (p : Reply M) : Type 0 where
  pub worksheet : V ≡ (step R r cap W c).0
  pub reply : p ≡ (step R r cap W c).1

-- calls made one after another on a worksheet newly opened
pub data Ran {M : Type 0} (R : RingOn M) (r : Role) (cap : Capacities) : List (Call R r) → Worksheet M r → List (Reply M) → Type 0 where
  begun : Ran R r cap [] (opened r) []
  called : {cs : List (Call R r)} {W : Worksheet M r} {ps : List (Reply M)} → Ran R r cap cs W ps →
      (V : Worksheet M r) (c : Call R r) (p : Reply M) → Stepped R r cap W V c p → Ran R r cap (cs ++ (c ∷ [])) V (ps ++ (p ∷ []))

-- no more of anything than there is room for
pub record Within {M : Type 0} (cap : Capacities) (S : Sheet M) : Type 0 where
  pub constants : length S.constants ≤ cap.constants
  pub witnesses : S.witnesses ≤ cap.witnesses
  pub nodes : length S.nodes ≤ cap.nodes
  pub assertions : length S.assertions ≤ cap.assertions

-- two runs look alike: the same answers and refusals, and the same worksheet but for stored values
abbrev pub Alike : {M : Type 0} {r s : Role} → Worksheet M r × List (Reply M) → Worksheet M s × List (Reply M) → Type 0
Alike x y = (x.1 ≡ y.1) × (x.0.sheet ≡ y.0.sheet)

-- What is said of every run holds after each call, accepted or refused, since a beginning of a run is a run.
pub record LawOfRuns {M : Type 0} (R : RingOn M) : Type 0 where
  -- the run of more calls goes on from the run of the first ones
  pub beginning : (r : Role) (cap : Capacities) (cs ds : List (Call R r)) →
      let first = run R r cap cs in
      let rest = run_from R r cap ds first.0 in
      run R r cap (cs ++ ds) ≡ (rest.0, first.1 ++ rest.1)
  -- a chain of calls, each of which takes its step, is the run of those calls
  pub ran_is : (r : Role) (cap : Capacities) (cs : List (Call R r)) (W : Worksheet M r) (ps : List (Reply M)) →
      Ran R r cap cs W ps → run R r cap cs ≡ (W, ps)
  pub well_formed : (r : Role) (cap : Capacities) (cs : List (Call R r)) → WellFormed (run R r cap cs).0.sheet
  pub within : (r : Role) (cap : Capacities) (cs : List (Call R r)) → Within cap (run R r cap cs).0.sheet
  -- whatever values witness calls are handed, runs of the same calls look alike, a prover's or a verifier's
  pub same_for_all : (r s : Role) (cap : Capacities) (cs : List (Call R r)) (ds : List (Call R s)) → SameCalls cs ds →
      Alike (run R r cap cs) (run R s cap ds)
  pub same_for_verifier : (cap : Capacities) (ps : List (Call R prover)) →
      Alike (run R prover cap ps) (run R verifier cap (map erase ps))
  -- a prover's worksheet stores a value for each witness and node: the value under its witness values
  pub stored_all : (cap : Capacities) (ps : List (Call R prover)) →
      let W = (run R prover cap ps).0 in
      (length W.given ≡ W.sheet.witnesses) × (length W.worked ≡ length W.sheet.nodes)
  pub stored : (cap : Capacities) (ps : List (Call R prover)) (a : CircuitIdx) →
      let W = (run R prover cap ps).0 in
      Present W.sheet a → values_of R W a ≡ value R W.sheet W.given a
