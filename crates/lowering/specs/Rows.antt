-- The rows of a lowered worksheet, as a matrix over the columns one, c committed, n left, n right, n out.
use Rattle.std.specs.Prelude.{ℕ, zero, suc, ◌+◌, List, [], ◌∷◌, ◌++◌, map, length}
use Rattle.ring.specs.Algebra.{RingOn}
use Rattle.matrix.specs.Matrix.{Matrix, empty, through}
use Rattle.worksheet.specs.declared.CircuitIdx.{CircuitIdx}
use Rattle.worksheet.specs.Sheet.{Sheet}
use Rattle.lowering.specs.declared.Location.{Location}
use Rattle.lowering.specs.declared.Location.TheVariants.{One, Witness, Left, Right, Output, Committed}
use Rattle.lowering.specs.Combination.{Comb, single, opposite}
use Rattle.lowering.specs.Lowering.{State, comb_of}

-- a row says that two combinations have one sum
abbrev pub Row : Type 0 → Type 0
Row M = Comb M × Comb M

abbrev pub assertion_row : {M : Type 0} → State M → CircuitIdx × CircuitIdx → Row M
assertion_row f p = (comb_of f p.0, comb_of f p.1)

abbrev pub note_row : {M : Type 0} → RingOn M → State M → CircuitIdx × Location → Row M
note_row R f n = (comb_of f n.0, single R n.1)

abbrev pub rows : {M : Type 0} → RingOn M → Sheet M → State M → List (Row M)
rows R S f = map (assertion_row f) S.assertions ++ map (note_row R f) f.notes

-- the column of a place; that of a Witness place is the column of the place it took, with so many lookups left
abbrev pub column : ℕ → (ℕ → Location) → ℕ → ℕ → Location → ℕ
column look place c n One = 0
column look place c n (Committed i) = 1 + i
column look place c n (Left k) = 1 + c + k
column look place c n (Right k) = 1 + c + n + k
column look place c n (Output k) = 1 + c + n + n + k
column zero place c n (Witness w) = 0
column (suc look) place c n (Witness w) = column look place c n (place w)

-- the terms of a combination, added in row r
abbrev pub add_terms : {M : Type 0} → RingOn M → (Location → ℕ) → ℕ → Comb M → Matrix M → Matrix M
add_terms R at r [] m = m
add_terms R at r (t ∷ c) m = add_terms R at r c (through R r (at t.place) (λ u. R.plus u t.weight) m)

-- a row's left terms are added and its right terms subtracted
abbrev pub add_row : {M : Type 0} → RingOn M → (Location → ℕ) → ℕ → Row M → Matrix M → Matrix M
add_row R at r w m = add_terms R at r (opposite R w.1) (add_terms R at r w.0 m)

abbrev pub add_rows : {M : Type 0} → RingOn M → (Location → ℕ) → ℕ → List (Row M) → Matrix M → Matrix M
add_rows R at r [] m = m
add_rows R at r (w ∷ ws) m = add_rows R at (suc r) ws (add_row R at r w m)

-- each Witness place is looked up once, at the end
abbrev pub matrix_of : {M : Type 0} → RingOn M → Sheet M → List CircuitIdx → State M → Matrix M
matrix_of R S C f = add_rows R (column 1 f.place (length C) (length f.gates)) 0 (rows R S f) empty
