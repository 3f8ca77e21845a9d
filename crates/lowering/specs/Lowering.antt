-- Lowering: each id that is worked gets its combination, each product its gate, each witness its place.
use Rattle.std.specs.Prelude.{ℕ, zero, suc, Bool, true, false, cond, ◌&&◌, List, [], ◌∷◌, ◌++◌, length, Some, None, Option}
use Rattle.ring.specs.Algebra.{RingOn}
use Rattle.worksheet.specs.declared.CircuitIdx.{CircuitIdx}
use Rattle.worksheet.specs.declared.CircuitIdx.TheVariants.{Constant, Witness, Node}
use Rattle.worksheet.specs.declared.CircuitNode.{CircuitNode}
use Rattle.worksheet.specs.declared.CircuitNode.TheVariants.{Add, Mul}
use Rattle.worksheet.specs.Sheet.{Sheet, node_at, left_of, right_of}
use Rattle.worksheet.specs.Calls.{constant_of, element}
use Rattle.lowering.specs.declared.Location.{Location}
use Rattle.lowering.specs.declared.Location.TheVariants.{One, Left, Right, Output}
use Rattle.lowering.specs.declared.Gate.{Gate}
use Rattle.lowering.specs.Committed.{same, first, at_position}
use Rattle.lowering.specs.Combination.{Comb, single, at_one, scale, merge}

-- what lowering has made so far
pub record State (M : Type 0) : Type 0 where
  -- the combination of each id that is worked
  pub comb : CircuitIdx → Option (Comb M)
  -- the place of each witness, One while it has none
  pub place : ℕ → Location
  pub gates : List Gate
  -- rows to come: the id equals the place
  pub notes : List (CircuitIdx × Location)

abbrev pub put : {M : Type 0} → CircuitIdx → Comb M → State M → State M
put a c s = record { comb = λ b. cond (same b a) (Some c) (s.comb b); place = s.place; gates = s.gates; notes = s.notes }

abbrev pub add_gate : {M : Type 0} → Gate → State M → State M
add_gate g s = record { comb = s.comb; place = s.place; gates = s.gates ++ (g ∷ []); notes = s.notes }

abbrev pub add_note : {M : Type 0} → CircuitIdx → Location → State M → State M
add_note a p s = record { comb = s.comb; place = s.place; gates = s.gates; notes = s.notes ++ ((a, p) ∷ []) }

abbrev pub unplaced : Location → Bool
unplaced One = true
unplaced (Location.Witness w) = false
unplaced (Left k) = false
unplaced (Right k) = false
unplaced (Output k) = false
unplaced (Location.Committed i) = false

-- a witness without a place takes p; the first place taken stays
abbrev pub settle : {M : Type 0} → CircuitIdx → Location → State M → State M
settle a p s = record { comb = s.comb; place = λ w. cond (same (Witness w) a && unplaced (s.place w)) p (s.place w); gates = s.gates; notes = s.notes }

-- a committed witness has its first slot for a place
abbrev pub slot_or : Location → Option ℕ → Location
slot_or p None = p
slot_or p (Some i) = Location.Committed i

abbrev pub start : {M : Type 0} → List CircuitIdx → State M
start C = record { comb = λ a. None; place = λ w. slot_or One (first C w); gates = []; notes = [] }

abbrev pub home : List CircuitIdx → ℕ → Location
home C w = slot_or (Location.Witness w) (first C w)

abbrev pub or_empty : {M : Type 0} → Option (Comb M) → Comb M
or_empty None = []
or_empty (Some c) = c

abbrev pub comb_of : {M : Type 0} → State M → CircuitIdx → Comb M
comb_of s a = or_empty (s.comb a)

abbrev pub unless : {M : Type 0} → Option (Comb M) → State M → State M → State M
unless (Some c) s t = s
unless None s t = t

-- the next gate k has the factors a and b, a row each: a equals Left k, b equals Right k
abbrev pub product : {M : Type 0} → RingOn M → ℕ → CircuitIdx → CircuitIdx → State M → State M
product R n a b s =
    let k = length s.gates in
    let g : Gate = record { left = a; right = Some b; product = Some (Node n) } in
    put (Node n) (single R (Output k)) (add_note b (Right k) (add_note a (Left k) (settle b (Right k) (settle a (Left k) (add_gate g s)))))

-- a product with a constant id multiplies the other's weights; any other is a gate
abbrev pub multiply : {M : Type 0} → RingOn M → Sheet M → ℕ → CircuitIdx → CircuitIdx → Option ℕ → Option ℕ → State M → State M
multiply R S n a b (Some k) o s = put (Node n) (scale R (element R S k) (comb_of s b)) s
multiply R S n a b None (Some k) s = put (Node n) (scale R (element R S k) (comb_of s a)) s
multiply R S n a b None None s = product R n a b s

-- node n, once its operands are worked
abbrev pub work : {M : Type 0} → RingOn M → Sheet M → ℕ → CircuitNode → State M → State M
work R S n (Add a b) s = put (Node n) (merge R (comb_of s a) (comb_of s b)) s
work R S n (Mul a b) s = multiply R S n a b (constant_of a) (constant_of b) s

-- an id is worked after its operands, left first; what is worked already is passed over. N bounds the depth
abbrev pub walk : {M : Type 0} → RingOn M → Sheet M → List CircuitIdx → ℕ → CircuitIdx → State M → State M
walk R S C N (Constant k) s = unless (s.comb (Constant k)) s (put (Constant k) (at_one (element R S k)) s)
walk R S C N (Witness w) s = unless (s.comb (Witness w)) s (put (Witness w) (single R (home C w)) s)
walk R S C zero (Node n) s = s
walk R S C (suc N) (Node n) s =
    let nd = node_at S n in
    unless (s.comb (Node n)) s (work R S n nd (walk R S C N (right_of nd) (walk R S C N (left_of nd) s)))

abbrev pub walk_from : {M : Type 0} → RingOn M → Sheet M → List CircuitIdx → CircuitIdx → State M → State M
walk_from R S C a s = walk R S C (length S.nodes) a s

-- first the assertions, each its left id, then its right
abbrev pub walk_assertions : {M : Type 0} → RingOn M → Sheet M → List CircuitIdx → List (CircuitIdx × CircuitIdx) → State M → State M
walk_assertions R S C [] s = s
walk_assertions R S C (p ∷ ps) s = walk_assertions R S C ps (walk_from R S C p.1 (walk_from R S C p.0 s))

abbrev pub is_worked : {M : Type 0} → Option (Comb M) → Bool
is_worked None = false
is_worked (Some c) = true

-- witness w is worked and has no place
abbrev pub homeless : {M : Type 0} → State M → ℕ → Bool
homeless s w = is_worked (s.comb (Witness w)) && unplaced (s.place w)

-- those among the n witnesses from w on
abbrev pub homeless_from : {M : Type 0} → State M → ℕ → ℕ → List ℕ
homeless_from s w zero = []
homeless_from s w (suc n) = cond (homeless s w) (w ∷ homeless_from s (suc w) n) (homeless_from s (suc w) n)

abbrev pub gate_of : CircuitIdx → Option CircuitIdx → Gate
gate_of a o = record { left = a; right = o; product = None }

-- then these take left, then right, of fresh gates
abbrev pub house : {M : Type 0} → List ℕ → State M → State M
house [] s = s
house (w ∷ []) s = settle (Witness w) (Left (length s.gates)) (add_gate (gate_of (Witness w) None) s)
house (w ∷ (u ∷ ws)) s =
    let k = length s.gates in
    house ws (settle (Witness u) (Right k) (settle (Witness w) (Left k) (add_gate (gate_of (Witness w) (Some (Witness u))) s)))

-- a committed witness gets a gate of its own, and stands for that from now on
abbrev pub anchor : {M : Type 0} → RingOn M → ℕ → State M → State M
anchor R w s = put (Witness w) (single R (Left (length s.gates))) (add_gate (gate_of (Witness w) None) s)

abbrev pub anchor_first : {M : Type 0} → RingOn M → List CircuitIdx → ℕ → CircuitIdx → State M → State M
anchor_first R C i (Constant k) s = s
anchor_first R C i (Witness w) s = cond (at_position (first C w) i) (anchor R w s) s
anchor_first R C i (Node n) s = s

-- last the committed entries from i on: each is walked, a witness at its first position anchored, and the entry tied to its slot
abbrev pub walk_committed : {M : Type 0} → RingOn M → Sheet M → List CircuitIdx → ℕ → List CircuitIdx → State M → State M
walk_committed R S C i [] s = s
walk_committed R S C i (a ∷ D) s =
    walk_committed R S C (suc i) D (add_note a (Location.Committed i) (anchor_first R C i a (walk_from R S C a s)))

abbrev pub after_assertions : {M : Type 0} → RingOn M → Sheet M → List CircuitIdx → State M
after_assertions R S C = walk_assertions R S C S.assertions (start C)

abbrev pub housed : {M : Type 0} → RingOn M → Sheet M → List CircuitIdx → State M
housed R S C = let s = after_assertions R S C in house (homeless_from s 0 S.witnesses) s

abbrev pub finished : {M : Type 0} → RingOn M → Sheet M → List CircuitIdx → State M
finished R S C = walk_committed R S C 0 C (housed R S C)
