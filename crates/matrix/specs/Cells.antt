-- The cells of a sparse matrix, in rising row, then column, over any commutative ring.
use Rattle.std.specs.Prelude.{ℕ, Bool, true, false, cond, ◌&&◌, ◌||◌, List, [], ◌∷◌, map, ◌==◌, nat_lt, slice_index_or}
use Rattle.std.specs.List.{range_with_len}
use Rattle.ring.specs.Algebra.{RingOn}
use Rattle.matrix.specs.declared.Cell.{Cell}

abbrev pub cell : {M : Type 0} → ℕ → ℕ → M → Cell M
cell r c w = record { row = r; column = c; weight = w }

-- cells by what their weights mean
abbrev pub meant : {E M : Type 0} → (E → M) → List (Cell E) → List (Cell M)
meant means cs = map (λ x. cell x.row x.column (means x.weight)) cs

-- whether row i, column j comes before row r, column c
abbrev pub before : ℕ → ℕ → ℕ → ℕ → Bool
before i j r c = cond (nat_lt i r) true (cond (i == r) (nat_lt j c) false)

abbrev pub same_place : ℕ → ℕ → ℕ → ℕ → Bool
same_place i j r c = cond (i == r) (j == c) false

-- whether each cell comes before the next
abbrev pub rises_from : {E : Type 0} → ℕ → ℕ → List (Cell E) → Bool
rises_from r c [] = true
rises_from r c (x ∷ xs) = before r c x.row x.column && rises_from x.row x.column xs

abbrev pub in_order : {E : Type 0} → List (Cell E) → Bool
in_order [] = true
in_order (x ∷ xs) = rises_from x.row x.column xs

-- whether each cell stands within a height and a width
abbrev pub covers : {E : Type 0} → ℕ → ℕ → List (Cell E) → Bool
covers h w [] = true
covers h w (x ∷ xs) = (nat_lt x.row h && nat_lt x.column w) && covers h w xs

-- whether there is a cell at row r, column c
abbrev pub present : {M : Type 0} → ℕ → ℕ → List (Cell M) → Bool
present r c [] = false
present r c (x ∷ xs) = same_place x.row x.column r c || present r c xs

-- the weight at row r, column c, zero where there is no cell
abbrev pub weight_at : {M : Type 0} → RingOn M → ℕ → ℕ → List (Cell M) → M
weight_at R r c [] = R.nought
weight_at R r c (x ∷ xs) = cond (same_place x.row x.column r c) x.weight (weight_at R r c xs)

-- the cells once the weight at row r, column c went through f, an absent cell being made from zero
abbrev pub changed : {M : Type 0} → RingOn M → ℕ → ℕ → (M → M) → List (Cell M) → List (Cell M)
changed R r c f [] = cell r c (f R.nought) ∷ []
changed R r c f (x ∷ xs) =
    cond (before x.row x.column r c)
    (x ∷ changed R r c f xs)
    (cond (same_place x.row x.column r c)
    (cell r c (f x.weight) ∷ xs)
    (cell r c (f R.nought) ∷ x ∷ xs))

-- what stands at place k of a list, zero past its end
abbrev pub entry : {M : Type 0} → RingOn M → List M → ℕ → M
entry R list k = slice_index_or list k R.nought

-- the sum over row i of weight times the list's entry at the column
abbrev pub row_sum : {M : Type 0} → RingOn M → List M → ℕ → List (Cell M) → M
row_sum R list i [] = R.nought
row_sum R list i (x ∷ xs) =
    R.plus (cond (x.row == i) (R.times x.weight (entry R list x.column)) R.nought) (row_sum R list i xs)

-- the sums of the rows 0 to h
abbrev pub product : {M : Type 0} → RingOn M → List M → ℕ → List (Cell M) → List M
product R list h xs = map (λ i. row_sum R list i xs) (range_with_len 0 h)
