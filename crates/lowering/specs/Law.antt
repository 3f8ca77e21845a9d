-- The law on lowered worksheets: rows say what the worksheet says, and nothing of the values.
use Rattle.std.specs.Prelude.{◌≡◌, ℕ, ◌+◌, ◌*◌, ◌<◌, ◌≤◌, ◌↔◌, List, map, length, Option}
use Rattle.refusal.specs.Outcome.{Outcome, accepted}
use Rattle.ring.specs.Algebra.{RingOn}
use Rattle.matrix.specs.Cells.{entry}
use Rattle.matrix.specs.Matrix.{raised}
use Rattle.circuit.specs.Bulletproofs.{hadamard}
use Rattle.circuit.specs.Verdict.{Satisfied}
use Rattle.worksheet.specs.declared.CircuitIdx.{CircuitIdx}
use Rattle.worksheet.specs.Sheet.{value, Holds}
use Rattle.worksheet.specs.Runs.{Role, prover, verifier, Call, erase, SameCalls, Capacities, Reply, Worksheet, run, values_of}
use Rattle.worksheet.specs.Law.{Alike}
use Rattle.lowering.specs.Committed.{entry_at}
use Rattle.lowering.specs.Outcome.{Lengths, Lowered, lower}
use Rattle.lowering.specs.Columns.{written, read, ReadsBack}

-- two runs look alike, and so does what they are lowered to, for every committed list and all lengths of tables
pub record AlikeLowered {M : Type 0} (R : RingOn M) {r s : Role} (x : Worksheet M r × List (Reply M)) (y : Worksheet M s × List (Reply M)) : Type 0 where
  pub runs : Alike x y
  pub outcomes : (L : Lengths) (C : List CircuitIdx) → lower R L x.0.sheet C ≡ lower R L y.0.sheet C

-- the columns v, l, r satisfy the rows of m for the committed list C, in a matrix padded to h rows and w columns
abbrev pub Satisfies : {M : Type 0} → RingOn M → Lowered M → List CircuitIdx → ℕ → ℕ → List M → List M → List M → Type 0
Satisfies R m C h w v l r = Satisfied R (raised h w m.matrix) (length C) (length m.gates) v l r

-- Every list of calls is a run, and so is each of its beginnings: what is said here of every run holds after
-- each call on the way, accepted or refused.
pub record Faithful {M : Type 0} (R : RingOn M) : Type 0 where
  -- whatever values witness calls are handed, runs of the same calls look alike, a prover's or a verifier's
  pub same_for_all : (r s : Role) (cap : Capacities) (cs : List (Call R r)) (ds : List (Call R s)) → SameCalls cs ds →
      AlikeLowered R (run R r cap cs) (run R s cap ds)
  pub same_for_verifier : (cap : Capacities) (ps : List (Call R prover)) →
      AlikeLowered R (run R prover cap ps) (run R verifier cap (map erase ps))
  -- the columns written from a prover's worksheet satisfy the rows exactly if every assertion holds on its
  -- values, in a matrix that is padded or not; and each out is its left times its right
  pub written_satisfy : (cap : Capacities) (ps : List (Call R prover)) (L : Lengths) (C : List CircuitIdx) (m : Lowered M) (bs : Option (List M)) (h w : ℕ) →
      let W = (run R prover cap ps).0 in
      let cols = written R (values_of R W) C m.gates bs in
      lower R L W.sheet C ≡ accepted m → w ≤ 1 + length C + 3 * length m.gates →
      (Satisfies R m C h w cols.values cols.left cols.right ↔ Holds W.sheet (values_of R W))
      × (hadamard R cols.left cols.right ≡ cols.out)
  -- columns that satisfy the rows are read back, and only so: as witness values ρ under which every assertion
  -- holds and each committed entry, a repeated one too, has its committed value
  pub satisfying_bind : (r : Role) (cap : Capacities) (cs : List (Call R r)) (L : Lengths) (C : List CircuitIdx) (m : Lowered M) (h w : ℕ) (v left right : List M) →
      let S = (run R r cap cs).0.sheet in
      let ρ = read R m.places v left right in
      lower R L S C ≡ accepted m → Satisfies R m C h w v left right →
      ((b : Outcome (List M)) → ReadsBack R (raised h w m.matrix) (length C) (length m.gates) m.places v left right b ↔ (b ≡ accepted ρ))
      × (length ρ ≡ S.witnesses)
      × Holds S (value R S ρ)
      × ((i : ℕ) → i < length C → value R S ρ (entry_at C i) ≡ entry R v i)
