-- A sparse matrix, and what each call makes of it.
use Rattle.std.specs.Prelude.{ℕ, ◌+◌, max, cond, ◌&&◌, ◌||◌, List, [], length, nat_le, nat_lt}
use Rattle.refusal.specs.Outcome.{Outcome, accepted, refused}
use Rattle.ring.specs.Algebra.{RingOn}
use Rattle.matrix.specs.declared.Cell.{Cell}
use Rattle.matrix.specs.Cells.{present, changed}

pub record Matrix (M : Type 0) : Type 0 where
  pub cells : List (Cell M)
  pub height : ℕ
  pub width : ℕ

-- no row or column index reaches it, and no size is above it
abbrev pub limit : ℕ
limit = 1048576

abbrev pub empty : {M : Type 0} → Matrix M
empty = record { cells = []; height = 0; width = 0 }

-- height and width are raised, never lowered
abbrev pub raised : {M : Type 0} → ℕ → ℕ → Matrix M → Matrix M
raised h w m = record { cells = m.cells; height = max m.height h; width = max m.width w }

abbrev pub padded : {M : Type 0} → ℕ → ℕ → Matrix M → Outcome (Matrix M)
padded w h m = cond (nat_le w limit && nat_le h limit) (accepted (raised h w m)) (refused 15)

-- the matrix once the weight at row r, column c went through f
abbrev pub through : {M : Type 0} → RingOn M → ℕ → ℕ → (M → M) → Matrix M → Matrix M
through R r c f m = raised (r + 1) (c + 1) (record { cells = changed R r c f m.cells; height = m.height; width = m.width })

-- the weight at row r, column c goes through f, in a table with room for so many cells
abbrev pub touched : {M : Type 0} → RingOn M → ℕ → ℕ → ℕ → (M → M) → Matrix M → Outcome (Matrix M)
touched R room r c f m =
    cond (nat_lt r limit && nat_lt c limit)
    (cond (present r c m.cells || nat_lt (length m.cells) room)
    (accepted (through R r c f m))
    (refused 16))
    (refused 15)

abbrev pub added : {M : Type 0} → RingOn M → ℕ → ℕ → ℕ → M → Matrix M → Outcome (Matrix M)
added R room r c w m = touched R room r c (λ u. R.plus u w) m

abbrev pub assigned : {M : Type 0} → RingOn M → ℕ → ℕ → ℕ → M → Matrix M → Outcome (Matrix M)
assigned R room r c w m = touched R room r c (λ _. w) m
