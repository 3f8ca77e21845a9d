-- What the value of a node is, under any witness values and in a prover's worksheet.
use Rattle.std.proofs.Common.{◌≡◌, ℕ, zero, suc, ◌<◌, ◌≤◌, List, length, get_or, sym, refl, ◌∙◌, ap₂, arith}
use Rattle.ring.specs.Algebra.{RingOn}
use Rattle.worksheet.specs.declared.CircuitIdx.{CircuitIdx}
use Rattle.worksheet.specs.declared.CircuitIdx.TheVariants.{Constant, Witness, Node}
use Rattle.worksheet.specs.Sheet.{Sheet, WellFormed, Below, node_at, left_of, right_of, combine, value_within, value}
use Rattle.worksheet.specs.Runs.{prover, Call, Capacities, run, values_of}
use Rattle.worksheet.proofs.Law.{law}
use Rattle.lowering.proofs.Along.{operand_left, operand_right}

-- val gives constants and nodes their values
pub record Valued {M : Type 0} (R : RingOn M) (S : Sheet M) (val : CircuitIdx → M) : Type 0 where
  pub constant : (k : ℕ) → val (Constant k) ≡ get_or S.constants k R.nought
  pub node : (n : ℕ) → n < length S.nodes → val (Node n) ≡ combine R (node_at S n) (val (left_of (node_at S n))) (val (right_of (node_at S n)))

module _ {M : Type 0} (R : RingOn M) (S : Sheet M) (ρ : List M) (wf : WellFormed S) where
  -- more depth changes no value
  stable : (n N K : ℕ) (a : CircuitIdx) → Below S n a → n ≤ N → n ≤ K → n ≤ length S.nodes → value_within R S ρ N a ≡ value_within R S ρ K a
  stable n N K (Constant k) b h l w = refl
  stable n N K (Witness k) b h l w = refl
  stable n zero K (Node m) b h l w = absurd (omega arith)
  stable n (suc N) zero (Node m) b h l w = absurd (omega arith)
  stable n (suc N) (suc K) (Node m) b h l w =
      let i : m < length S.nodes = omega arith in
      ap₂ (combine R (node_at S m)) (stable m N K (left_of (node_at S m)) (wf.earlier_left m i) (omega arith) (omega arith) (omega arith))
      (stable m N K (right_of (node_at S m)) (wf.earlier_right m i) (omega arith) (omega arith) (omega arith))

  at_node : (N n : ℕ) → n < N → N ≤ length S.nodes → value_within R S ρ N (Node n) ≡ combine R (node_at S n) (value_within R S ρ N (left_of (node_at S n))) (value_within R S ρ N (right_of (node_at S n)))
  at_node zero n h l = absurd (omega arith)
  at_node (suc N) n h l =
      let i : n < length S.nodes = omega arith in
      ap₂ (combine R (node_at S n)) (stable n N (suc N) (left_of (node_at S n)) (wf.earlier_left n i) (omega arith) (omega arith) (omega arith))
      (stable n N (suc N) (right_of (node_at S n)) (wf.earlier_right n i) (omega arith) (omega arith) (omega arith))

  pub valued : Valued R S (value R S ρ)
  valued = record { constant = λ k. refl; node = λ n h. at_node (length S.nodes) n h (omega arith) }

-- a prover's stored values are such values
pub stored_valued : {M : Type 0} (R : RingOn M) (cap : Capacities) (ps : List (Call R prover)) →
    let W = (run R prover cap ps).0 in Valued R W.sheet (values_of R W)
stored_valued R cap ps =
    let W = (run R prover cap ps).0 in
    let S = W.sheet in
    let wf = (law R).well_formed prover cap ps in
    let stored = (law R).stored cap ps in
    let v = valued R S W.given wf in
    record {
      constant = λ k. refl;
      node = λ n h. stored (Node n) h ∙ v.node n h
          ∙ ap₂ (combine R (node_at S n)) (sym (stored (left_of (node_at S n)) (operand_left S wf n h))) (sym (stored (right_of (node_at S n)) (operand_right S wf n h)));
    }
