-- The committed list: the ids that have a slot each, in the order of the slots. An id may stand in it more than once.
use Rattle.std.specs.Prelude.{ℕ, suc, Bool, false, cond, List, [], ◌∷◌, Some, None, Option, ◌==◌, slice_index_or}
use Rattle.worksheet.specs.declared.CircuitIdx.{CircuitIdx}
use Rattle.worksheet.specs.declared.CircuitIdx.TheVariants.{Constant, Witness, Node}

abbrev pub entry_at : List CircuitIdx → ℕ → CircuitIdx
entry_at C i = slice_index_or C i (Constant 0)

abbrev pub same : CircuitIdx → CircuitIdx → Bool
same (Constant k) (Constant m) = k == m
same (Constant k) (Witness m) = false
same (Constant k) (Node m) = false
same (Witness k) (Constant m) = false
same (Witness k) (Witness m) = k == m
same (Witness k) (Node m) = false
same (Node k) (Constant m) = false
same (Node k) (Witness m) = false
same (Node k) (Node m) = k == m

-- the first position of witness w, counted from i
abbrev pub first_from : ℕ → List CircuitIdx → ℕ → Option ℕ
first_from i [] w = None
first_from i (a ∷ C) w = cond (same a (Witness w)) (Some i) (first_from (suc i) C w)

abbrev pub first : List CircuitIdx → ℕ → Option ℕ
first C w = first_from 0 C w

abbrev pub at_position : Option ℕ → ℕ → Bool
at_position None i = false
at_position (Some j) i = j == i
