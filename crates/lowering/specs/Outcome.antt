-- What lowering comes to, for tables of given lengths: gates, places and rows, or the number of a refusal.
use Rattle.std.specs.Prelude.{ℕ, zero, suc, ◌+◌, ◌*◌, Bool, true, false, not, ◌&&◌, ◌||◌, List, [], ◌∷◌, map, length, Some, None, Option, nat_lt}
use Rattle.std.specs.List.{range_with_len}
use Rattle.refusal.specs.Outcome.{Outcome, accepted, refused}
use Rattle.ring.specs.Algebra.{RingOn}
use Rattle.matrix.specs.Matrix.{Matrix}
use Rattle.worksheet.specs.declared.CircuitIdx.{CircuitIdx}
use Rattle.worksheet.specs.declared.CircuitIdx.TheVariants.{Constant, Witness, Node}
use Rattle.worksheet.specs.declared.CircuitNode.{CircuitNode}
use Rattle.worksheet.specs.Sheet.{Sheet, left_of, right_of}
use Rattle.worksheet.specs.Runs.{present, refusal}
use Rattle.lowering.specs.declared.Location.{Location}
use Rattle.lowering.specs.declared.Gate.{Gate}
use Rattle.lowering.specs.Lowering.{State, comb_of, homeless, finished}
use Rattle.lowering.specs.Rows.{matrix_of}

-- lengths of the tables that lowering works in and fills
pub record Lengths : Type 0 where
  pub walk : ℕ
  pub index : ℕ
  pub places : ℕ
  pub terms : ℕ
  pub gates : ℕ
  pub rows : ℕ
  pub cells : ℕ

-- a lowered worksheet; `places` has the place of each witness
pub record Lowered (M : Type 0) : Type 0 where
  pub gates : List Gate
  pub places : List Location
  pub matrix : Matrix M
  pub rows : ℕ

abbrev pub rows_of : {M : Type 0} → Sheet M → State M → ℕ
rows_of S f = length S.assertions + length f.notes

abbrev pub made : {M : Type 0} → RingOn M → Sheet M → List CircuitIdx → Lowered M
made R S C =
    let f = finished R S C in
    record { gates = f.gates; places = map f.place (range_with_len 0 S.witnesses); matrix = matrix_of R S C f; rows = rows_of S f }

abbrev pub all_present : {M : Type 0} → Sheet M → List CircuitIdx → Bool
all_present S [] = true
all_present S (a ∷ C) = present S a && all_present S C

-- an id of the worksheet that stands before node n
abbrev pub stands_before : {M : Type 0} → Sheet M → ℕ → CircuitIdx → Bool
stands_before S n (Constant k) = nat_lt k (length S.constants)
stands_before S n (Witness w) = nat_lt w S.witnesses
stands_before S n (Node m) = nat_lt m n

abbrev pub is_constant : CircuitIdx → Bool
is_constant (Constant k) = true
is_constant (Witness w) = false
is_constant (Node n) = false

-- operands stand earlier, and not both are constants, from node n on
abbrev pub nodes_sound : {M : Type 0} → Sheet M → ℕ → List CircuitNode → Bool
nodes_sound S n [] = true
nodes_sound S n (nd ∷ nds) =
    stands_before S n (left_of nd) && (stands_before S n (right_of nd) && (not (is_constant (left_of nd) && is_constant (right_of nd)) && nodes_sound S (suc n) nds))

abbrev pub assertions_sound : {M : Type 0} → Sheet M → List (CircuitIdx × CircuitIdx) → Bool
assertions_sound S [] = true
assertions_sound S (p ∷ ps) = present S p.0 && (present S p.1 && assertions_sound S ps)

abbrev pub sound : {M : Type 0} → Sheet M → Bool
sound S = nodes_sound S 0 S.nodes && assertions_sound S S.assertions

-- the terms of the first n ids of a kind
abbrev pub terms_of : {M : Type 0} → State M → (ℕ → CircuitIdx) → ℕ → ℕ
terms_of f id zero = 0
terms_of f id (suc n) = terms_of f id n + length (comb_of f (id n))

-- the terms of all worked ids
abbrev pub all_terms : {M : Type 0} → Sheet M → State M → ℕ
all_terms S f = terms_of f Constant (length S.constants) + terms_of f Witness S.witnesses + terms_of f Node (length S.nodes)

abbrev pub some_homeless : {M : Type 0} → State M → ℕ → Bool
some_homeless f zero = false
some_homeless f (suc n) = homeless f n || some_homeless f n

-- the walk, index or place table is too short
abbrev pub cramped : {M : Type 0} → Lengths → Sheet M → Bool
cramped L S =
    nat_lt L.walk (2 * length S.nodes + 1) || (nat_lt L.index (length S.constants + S.witnesses + length S.nodes) || nat_lt L.places S.witnesses)

-- causes of refusal with their numbers, tried in order, each by the total that lowering would need
abbrev pub lower_causes : {M : Type 0} → RingOn M → Lengths → Sheet M → List CircuitIdx → List (Bool × ℕ)
lower_causes R L S C =
    let f = finished R S C in
    (not (sound S), 3)
    ∷ ((not (all_present S C) || nat_lt 65536 (length C), 9)
    ∷ ((cramped L S, 10)
    ∷ ((nat_lt L.terms (all_terms S f), 11)
    ∷ ((nat_lt L.gates (length f.gates), 12)
    ∷ ((nat_lt L.rows (rows_of S f), 13)
    ∷ ((some_homeless f S.witnesses, 14)
    ∷ ((nat_lt L.cells (length (matrix_of R S C f).cells), 16) ∷ [])))))))

abbrev pub outcome_by : {A : Type 0} → Option ℕ → A → Outcome A
outcome_by (Some n) m = refused n
outcome_by None m = accepted m

abbrev pub lower : {M : Type 0} → RingOn M → Lengths → Sheet M → List CircuitIdx → Outcome (Lowered M)
lower R L S C = outcome_by (refusal (lower_causes R L S C)) (made R S C)
