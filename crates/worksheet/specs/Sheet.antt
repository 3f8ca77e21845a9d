-- A worksheet, when it is well formed, and what its ids are worth.
use Rattle.std.specs.Prelude.{◌≡◌, ℕ, zero, suc, ◌<◌, List, [], length, slice_index_or}
use Rattle.ring.specs.Algebra.{RingOn}
use Rattle.worksheet.specs.declared.CircuitIdx.{CircuitIdx}
use Rattle.worksheet.specs.declared.CircuitIdx.TheVariants.{Constant, Witness, Node}
use Rattle.worksheet.specs.declared.CircuitNode.{CircuitNode}
use Rattle.worksheet.specs.declared.CircuitNode.TheVariants.{Add, Mul}

pub record Sheet (M : Type 0) : Type 0 where
  pub constants : List M
  pub witnesses : ℕ
  pub nodes : List CircuitNode
  pub assertions : List (CircuitIdx × CircuitIdx)

abbrev pub empty_sheet : {M : Type 0} → Sheet M
empty_sheet = record { constants = []; witnesses = 0; nodes = []; assertions = [] }

abbrev pub node_at : {M : Type 0} → Sheet M → ℕ → CircuitNode
node_at S n = slice_index_or S.nodes n (Add (Constant 0) (Constant 0))

abbrev pub assertion_at : {M : Type 0} → Sheet M → ℕ → CircuitIdx × CircuitIdx
assertion_at S j = slice_index_or S.assertions j (Constant 0, Constant 0)

abbrev pub left_of : CircuitNode → CircuitIdx
left_of (Add a b) = a
left_of (Mul a b) = a

abbrev pub right_of : CircuitNode → CircuitIdx
right_of (Add a b) = b
right_of (Mul a b) = b

-- an id of the worksheet that stands before node n
abbrev pub Below : {M : Type 0} → Sheet M → ℕ → CircuitIdx → Type 0
Below S n (Constant k) = k < length S.constants
Below S n (Witness w) = w < S.witnesses
Below S n (Node m) = m < n

abbrev pub Present : {M : Type 0} → Sheet M → CircuitIdx → Type 0
Present S a = Below S (length S.nodes) a

abbrev pub BothConstant : CircuitIdx → CircuitIdx → Type 0
BothConstant a b = (k : ℕ) × (m : ℕ) × (a ≡ Constant k) × (b ≡ Constant m)

-- each id named is there, each node's operands stand earlier, and no node is of two constants
pub record WellFormed {M : Type 0} (S : Sheet M) : Type 0 where
  pub asserted_left : (j : ℕ) → j < length S.assertions → Present S (assertion_at S j).0
  pub asserted_right : (j : ℕ) → j < length S.assertions → Present S (assertion_at S j).1
  pub earlier_left : (n : ℕ) → n < length S.nodes → Below S n (left_of (node_at S n))
  pub earlier_right : (n : ℕ) → n < length S.nodes → Below S n (right_of (node_at S n))
  pub mixed : (n : ℕ) → n < length S.nodes → BothConstant (left_of (node_at S n)) (right_of (node_at S n)) → ⊥

abbrev pub combine : {M : Type 0} → RingOn M → CircuitNode → M → M → M
combine R (Add a b) x y = R.plus x y
combine R (Mul a b) x y = R.times x y

-- under the witness values ρ a constant has its element, a witness its entry, and a node the sum or
-- product of its operands' values; N bounds the depth of nodes
abbrev pub value_within : {M : Type 0} → RingOn M → Sheet M → List M → ℕ → CircuitIdx → M
value_within R S ρ N (Constant k) = slice_index_or S.constants k R.nought
value_within R S ρ N (Witness w) = slice_index_or ρ w R.nought
value_within R S ρ zero (Node n) = R.nought
value_within R S ρ (suc N) (Node n) =
    combine R (node_at S n) (value_within R S ρ N (left_of (node_at S n))) (value_within R S ρ N (right_of (node_at S n)))

abbrev pub value : {M : Type 0} → RingOn M → Sheet M → List M → CircuitIdx → M
value R S ρ a = value_within R S ρ (length S.nodes) a

-- every assertion holds
abbrev pub Holds : {M : Type 0} → Sheet M → (CircuitIdx → M) → Type 0
Holds S val = (j : ℕ) → j < length S.assertions → val (assertion_at S j).0 ≡ val (assertion_at S j).1
