-- The columns that a prover writes, and the witness values that columns are read back as.
use Rattle.std.specs.Prelude.{◌≡◌, ℕ, Bool, true, false, ◌&&◌, List, [], ◌∷◌, map, length, Some, None, Option, nat_lt}
use Rattle.refusal.specs.Outcome.{Outcome, accepted, refused}
use Rattle.ring.specs.Algebra.{RingOn}
use Rattle.matrix.specs.Cells.{entry}
use Rattle.matrix.specs.Matrix.{Matrix}
use Rattle.circuit.specs.Verdict.{Satisfied}
use Rattle.worksheet.specs.declared.CircuitIdx.{CircuitIdx}
use Rattle.lowering.specs.declared.Location.{Location}
use Rattle.lowering.specs.declared.Location.TheVariants.{One, Witness, Left, Right, Output, Committed}
use Rattle.lowering.specs.declared.Gate.{Gate}

pub record Columns (M : Type 0) : Type 0 where
  pub values : List M
  pub blinding : List M
  pub left : List M
  pub right : List M
  pub out : List M

abbrev pub value_or_zero : {M : Type 0} → RingOn M → (CircuitIdx → M) → Option CircuitIdx → M
value_or_zero R val None = R.nought
value_or_zero R val (Some a) = val a

-- without a right factor zero; without a product, left times right
abbrev pub out_of : {M : Type 0} → RingOn M → (CircuitIdx → M) → CircuitIdx → Option CircuitIdx → Option CircuitIdx → M
out_of R val a None o = R.nought
out_of R val a (Some b) None = R.times (val a) (val b)
out_of R val a (Some b) (Some p) = val p

abbrev pub blinding_of : {M : Type 0} → RingOn M → List CircuitIdx → Option (List M) → List M
blinding_of R C None = map (λ _. R.nought) C
blinding_of R C (Some bs) = bs

-- from the values of the worksheet's ids
abbrev pub written : {M : Type 0} → RingOn M → (CircuitIdx → M) → List CircuitIdx → List Gate → Option (List M) → Columns M
written R val C gs bs = record {
  values = map val C;
  blinding = blinding_of R C bs;
  left = map (λ g. val g.left) gs;
  right = map (λ g. value_or_zero R val g.right) gs;
  out = map (λ g. out_of R val g.left g.right g.product) gs;
}

-- what stands at a place of the columns; a witness without a place is read as zero
abbrev pub at_place : {M : Type 0} → RingOn M → List M → List M → List M → Location → M
at_place R v l r One = R.nought
at_place R v l r (Witness w) = R.nought
at_place R v l r (Left k) = entry R l k
at_place R v l r (Right k) = entry R r k
at_place R v l r (Output k) = R.times (entry R l k) (entry R r k)
at_place R v l r (Committed i) = entry R v i

abbrev pub read : {M : Type 0} → RingOn M → List Location → List M → List M → List M → List M
read R places v l r = map (at_place R v l r) places

-- the gate or slot of the place is there, among c slots and n gates
abbrev pub there : ℕ → ℕ → Location → Bool
there c n One = true
there c n (Witness w) = false
there c n (Left k) = nat_lt k n
there c n (Right k) = nat_lt k n
there c n (Output k) = nat_lt k n
there c n (Committed i) = nat_lt i c

abbrev pub all_there : ℕ → ℕ → List Location → Bool
all_there c n [] = true
all_there c n (p ∷ ps) = there c n p && all_there c n ps

-- c values, n left and n right
abbrev pub Sized : {M : Type 0} → ℕ → ℕ → List M → List M → List M → Type 0
Sized c n v l r = (length v ≡ c) × (length l ≡ n) × (length r ≡ n)

-- what reading columns back comes to, with c slots and n gates: witness values exactly if the columns satisfy the rows
pub data ReadsBack {M : Type 0} (R : RingOn M) (m : Matrix M) (c n : ℕ) (places : List Location) (v l r : List M) : Outcome (List M) → Type 0 where
  absent : all_there c n places ≡ false → ReadsBack R m c n places v l r (refused 3)
  missized : all_there c n places ≡ true → (Sized c n v l r → ⊥) → ReadsBack R m c n places v l r (refused 18)
  unsatisfied : all_there c n places ≡ true → Sized c n v l r → (Satisfied R m c n v l r → ⊥) → ReadsBack R m c n places v l r (refused 19)
  reads : all_there c n places ≡ true → Satisfied R m c n v l r → ReadsBack R m c n places v l r (accepted (read R places v l r))
