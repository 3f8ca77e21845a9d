-- What a matrix that code holds over a lent table stands for.
use Rattle.std.specs.Prelude.{◌≡◌, ℕ, ◌<◌, List, length, take, slice_index_or}
use Rattle.ring.specs.Algebra.{RingOn}
use Rattle.matrix.specs.declared.Cell.{Cell}
use Rattle.matrix.specs.declared.SparseMatrix.{SparseMatrix}
use Rattle.matrix.specs.Cells.{meant}
use Rattle.matrix.specs.Matrix.{Matrix}

abbrev pub matrix : {E M : Type 0} → (E → M) → SparseMatrix E → Matrix M
matrix means m = record { cells = meant means (take m.count m.cells.now); height = m.height; width = m.width }

-- how many cells the table has room for
abbrev pub room : {E : Type 0} → SparseMatrix E → ℕ
room m = length m.cells.now

-- a table of blank cells: row 0, column 0, weight zero
abbrev pub Blank : {E M : Type 0} → RingOn M → (E → M) → List (Cell E) → Type 0
Blank R means cs = (k : ℕ) (d : Cell _) → k < length cs → ((slice_index_or cs k d).row ≡ 0) × ((slice_index_or cs k d).column ≡ 0) × (means (slice_index_or cs k d).weight ≡ R.nought)

-- the table, its cells past the count included, and all counts are as they were
pub record Unchanged {E : Type 0} (was is : SparseMatrix E) : Type 0 where
  pub table : is.cells.now ≡ was.cells.now
  pub count : is.count ≡ was.count
  pub height : is.height ≡ was.height
  pub width : is.width ≡ was.width
