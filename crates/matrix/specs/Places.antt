-- Where a row and a column stand among cells in order, and what a write there makes.
use Rattle.std.specs.Prelude.{◌≡◌, ℕ, ◌<◌, ◌≤◌, true, List, length, take, drop, Result, MatchResult}
use Rattle.std.specs.List.{HoldsAt}
use Rattle.std.specs.List.Sorted.{IsPartitionPoint}
use Rattle.ring.specs.Algebra.{RingOn}
use Rattle.matrix.specs.declared.Cell.{Cell}
use Rattle.matrix.specs.Cells.{meant, before, same_place, in_order, changed}

-- the cell at place `at` is that of row r, column c
pub record IsAt {E : Type 0} (cells : List (Cell E)) (r c at : ℕ) : Type 0 where
  pub within : at < length cells
  pub same : HoldsAt (λ x. same_place x.row x.column r c ≡ true) cells at

-- no cell is that of row r, column c, and one would go at place `at`
pub record IsGap {E : Type 0} (cells : List (Cell E)) (r c at : ℕ) : Type 0 where
  pub within : at ≤ length cells
  pub parts : IsPartitionPoint (λ x. before x.row x.column r c ≡ true) (λ x. before r c x.row x.column ≡ true) cells at

-- where the cell of row r, column c is, or would go
abbrev pub Place : {E : Type 0} → List (Cell E) → ℕ → ℕ → Result ℕ ℕ → Type 0
Place cells r c place = MatchResult place (IsAt cells r c) (IsGap cells r c)

-- a table once x is written to the first `count` of its cells, now n
pub record Written {E M : Type 0} (R : RingOn M) (means : E → M) (was is : List (Cell E)) (count n : ℕ) (x : Cell E) : Type 0 where
  pub fits : n ≤ length is
  pub ordered : in_order (take n is) ≡ true
  pub cells : meant means (take n is) ≡ changed R x.row x.column (λ _. means x.weight) (meant means (take count was))
  pub spare : drop n is ≡ drop n was
