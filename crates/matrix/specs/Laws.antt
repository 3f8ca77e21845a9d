-- What a change of one weight is to the other weights and to the sums of rows.
use Rattle.std.specs.Prelude.{◌≡◌, ℕ, cond, List, ◌==◌}
use Rattle.ring.specs.Algebra.{RingOn}
use Rattle.matrix.specs.Cells.{same_place, weight_at, entry, row_sum}
use Rattle.matrix.specs.Matrix.{Matrix}

-- the weight at row r, column c went through f, and every other stands
abbrev pub WeightThrough : {M : Type 0} → RingOn M → ℕ → ℕ → (M → M) → Matrix M → Matrix M → Type 0
WeightThrough R r c f was is =
    (i j : ℕ) → weight_at R i j is.cells ≡ cond (same_place r c i j) (f (weight_at R i j was.cells)) (weight_at R i j was.cells)

-- the sum of row r grew by w times the list's entry at column c, and every other stands
abbrev pub SumsGrow : {M : Type 0} → RingOn M → ℕ → ℕ → M → Matrix M → Matrix M → Type 0
SumsGrow R r c w was is =
    (list : List _) (i : ℕ) → row_sum R list i is.cells ≡ R.plus (row_sum R list i was.cells) (cond (r == i) (R.times w (entry R list c)) R.nought)
