-- What lowering keeps on its way, and what it is at its end, for its rows to say what the worksheet says.
use Rattle.std.proofs.Common.{◌≡◌, ℕ, ◌<◌, false, ◌⊎◌, List, length, get_or, Some, None, Option}
use Rattle.ring.specs.Algebra.{RingOn}
use Rattle.worksheet.specs.declared.CircuitIdx.{CircuitIdx}
use Rattle.worksheet.specs.declared.CircuitIdx.TheVariants.{Constant, Witness, Node}
use Rattle.worksheet.specs.declared.CircuitNode.{CircuitNode}
use Rattle.worksheet.specs.declared.CircuitNode.TheVariants.{Add, Mul}
use Rattle.worksheet.specs.Sheet.{Sheet, node_at, assertion_at}
use Rattle.worksheet.specs.Calls.{element}
use Rattle.lowering.specs.declared.Location.{Location}
use Rattle.lowering.specs.declared.Location.TheVariants.{One, Left, Right, Output, Committed}
use Rattle.lowering.specs.declared.Gate.{Gate}
use Rattle.lowering.specs.Committed.{entry_at, first}
use Rattle.lowering.specs.Combination.{Comb, single, at_one, scale, merge}
use Rattle.lowering.specs.Lowering.{State, home, homeless, gate_of}

abbrev pub gate_at : {M : Type 0} → State M → ℕ → Gate
gate_at s k = get_or s.gates k (gate_of (Constant 0) None)

abbrev pub note_at : {M : Type 0} → State M → ℕ → CircuitIdx × Location
note_at s j = get_or s.notes j (Constant 0, One)

-- c is the combination of a, or the slot that a stood for before it got a gate
pub data Stood {M : Type 0} (R : RingOn M) (C : List CircuitIdx) (s : State M) (a : CircuitIdx) (c : Comb M) : Type 0 where
  as_worked : s.comb a ≡ Some c → Stood R C s a c
  as_slot : (w i : ℕ) → a ≡ Witness w → first C w ≡ Some i → c ≡ single R (Committed i) → (d : Comb M) → s.comb a ≡ Some d → Stood R C s a c

abbrev pub Worked : {M : Type 0} → RingOn M → List CircuitIdx → State M → CircuitIdx → Type 0
Worked {M} R C s a = (c : Comb M) × Stood R C s a c

-- c is the gate that the committed witness w was given
abbrev pub Anchored : {M : Type 0} → RingOn M → List CircuitIdx → State M → ℕ → Comb M → Type 0
Anchored R C s w c = (k : ℕ) × (c ≡ single R (Left k)) × (k < length s.gates) × ((gate_at s k).left ≡ Witness w) × ((i : ℕ) × (first C w ≡ Some i))

abbrev pub IsNoted : {M : Type 0} → State M → CircuitIdx → Location → Type 0
IsNoted s a p = (j : ℕ) × (j < length s.notes) × (note_at s j ≡ (a, p))

abbrev pub IsGate : {M : Type 0} → State M → ℕ → CircuitIdx → Option CircuitIdx → Type 0
IsGate s k a o = (k < length s.gates) × ((gate_at s k).left ≡ a) × ((gate_at s k).right ≡ o)

-- how a node came to its combination
pub data Explained {M : Type 0} (R : RingOn M) (S : Sheet M) (C : List CircuitIdx) (s : State M) (nd : CircuitNode) (c : Comb M) : Type 0 where
  by_sum : (a b : CircuitIdx) (d e : Comb M) → nd ≡ Add a b → Stood R C s a d → Stood R C s b e → c ≡ merge R d e → Explained R S C s nd c
  by_left : (k : ℕ) (b : CircuitIdx) (e : Comb M) → nd ≡ Mul (Constant k) b → Stood R C s b e → c ≡ scale R (element R S k) e → Explained R S C s nd c
  by_right : (a : CircuitIdx) (k : ℕ) (d : Comb M) → nd ≡ Mul a (Constant k) → Stood R C s a d → c ≡ scale R (element R S k) d → Explained R S C s nd c
  by_gate : (a b : CircuitIdx) (k : ℕ) (d e : Comb M) → nd ≡ Mul a b → Stood R C s a d → Stood R C s b e → c ≡ single R (Output k) → IsGate s k a (Some b) → IsNoted s a (Left k) → IsNoted s b (Right k) → Explained R S C s nd c

-- what a witness's place says of the gates and the committed list
pub data Placed {M : Type 0} (C : List CircuitIdx) (s : State M) (w : ℕ) (p : Location) : Type 0 where
  nowhere : p ≡ One → Placed C s w p
  on_left : (k : ℕ) → p ≡ Left k → k < length s.gates → (gate_at s k).left ≡ Witness w → Placed C s w p
  on_right : (k : ℕ) → p ≡ Right k → k < length s.gates → (gate_at s k).right ≡ Some (Witness w) → Placed C s w p
  on_slot : (i : ℕ) → p ≡ Committed i → first C w ≡ Some i → Placed C s w p

-- what a noted row says of them
pub data Noted {M : Type 0} (C : List CircuitIdx) (s : State M) (a : CircuitIdx) (p : Location) : Type 0 where
  of_left : (k : ℕ) → p ≡ Left k → k < length s.gates → (gate_at s k).left ≡ a → Noted C s a p
  of_right : (k : ℕ) → p ≡ Right k → k < length s.gates → (gate_at s k).right ≡ Some a → Noted C s a p
  of_slot : (i : ℕ) → p ≡ Committed i → i < length C → entry_at C i ≡ a → Noted C s a p

-- what holds at every moment of lowering
pub record Explains {M : Type 0} (R : RingOn M) (S : Sheet M) (C : List CircuitIdx) (s : State M) : Type 0 where
  pub constant : (k : ℕ) (c : Comb M) → s.comb (Constant k) ≡ Some c → c ≡ at_one (element R S k)
  pub witness : (w : ℕ) (c : Comb M) → s.comb (Witness w) ≡ Some c → ((c ≡ single R (home C w)) ⊎ Anchored R C s w c) × (w < S.witnesses)
  pub node : (n : ℕ) (c : Comb M) → s.comb (Node n) ≡ Some c → (n < length S.nodes) × Explained R S C s (node_at S n) c
  pub place : (w : ℕ) → Placed C s w (s.place w)
  pub slots : (w i : ℕ) → first C w ≡ Some i → s.place w ≡ Committed i
  pub noted : (j : ℕ) → j < length s.notes → Noted C s (note_at s j).0 (note_at s j).1 × Worked R C s (note_at s j).0

-- what holds at the end
pub record Complete {M : Type 0} (R : RingOn M) (S : Sheet M) (C : List CircuitIdx) (s : State M) : Type 0 where
  pub explains : Explains R S C s
  pub asserted_left : (j : ℕ) → j < length S.assertions → Worked R C s (assertion_at S j).0
  pub asserted_right : (j : ℕ) → j < length S.assertions → Worked R C s (assertion_at S j).1
  pub tied : (i : ℕ) → i < length C → IsNoted s (entry_at C i) (Committed i)
  pub settled : (w : ℕ) → w < S.witnesses → homeless s w ≡ false
