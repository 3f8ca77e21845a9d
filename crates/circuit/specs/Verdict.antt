-- When columns satisfy the rows of a matrix, and the paper's constraint system of that matrix.
use Rattle.std.specs.Prelude.{◌≡◌, ℕ, ◌+◌, ◌*◌, ◌≤◌, List, ◌∷◌, ◌++◌, map, length}
use Rattle.std.specs.List.{range_with_len}
use Rattle.ring.specs.Algebra.{RingOn}
use Rattle.matrix.specs.Cells.{weight_at, row_sum}
use Rattle.matrix.specs.Matrix.{Matrix}
use Rattle.circuit.specs.Bulletproofs.{System, hadamard}

-- one, committed, left, right, out
abbrev pub columns : {M : Type 0} → RingOn M → List M → List M → List M → List M → List M
columns R v l r o = R.unit ∷ (v ++ (l ++ (r ++ o)))

-- out k is left k times right k
abbrev pub filled : {M : Type 0} → RingOn M → List M → List M → List M → List M
filled R v l r = columns R v l r (hadamard R l r)

-- every row's sum of weight times column is zero
abbrev pub RowsVanish : {M : Type 0} → RingOn M → Matrix M → List M → Type 0
RowsVanish R m xs = (i : ℕ) → row_sum R xs i m.cells ≡ R.nought

-- with c committed values and n gates
pub record Satisfied {M : Type 0} (R : RingOn M) (m : Matrix M) (c n : ℕ) (v l r : List M) : Type 0 where
  pub v_size : length v ≡ c
  pub left_size : length l ≡ n
  pub right_size : length r ≡ n
  pub fits : m.width ≤ 1 + c + 3 * n
  pub rows : RowsVanish R m (filled R v l r)

-- the weights in n columns of every row, from the column `from` on
abbrev pub block : {M : Type 0} → RingOn M → Matrix M → ℕ → ℕ → List (List M)
block R m from n = map (λ q. map (λ j. weight_at R q j m.cells) (range_with_len from n)) (range_with_len 0 m.height)

-- the committed and one columns stand on the other side of the equation, negated
abbrev pub system_of : {M : Type 0} → RingOn M → Matrix M → ℕ → ℕ → System M
system_of R m c n = record {
  n = n;
  m = c;
  W_L = block R m (1 + c) n;
  W_R = block R m (1 + c + n) n;
  W_O = block R m (1 + c + n + n) n;
  W_V = map (map R.minus) (block R m 1 c);
  c = map (λ q. R.minus (weight_at R q 0 m.cells)) (range_with_len 0 m.height);
}
