-- What the place of a row and a column among cells in order tells: whether the cell is there, its weight, and what a write there makes.
use Rattle.std.proofs.Common.{◌≡◌, ℕ, zero, suc, ◌+◌, ◌<◌, ◌≤◌, max, Bool, true, false, ◌&&◌, ◌==◌, List, [], ◌∷◌, length, get_or, set, sym, refl, ap, ◌∙◌, arith}
use Rattle.std.specs.List.{insert, HoldsAt}
use Rattle.std.specs.List.Sorted.{IsPartitionedBy, IsPartitionPoint}
use Rattle.std.proofs.lemmas.Bool.{cond-true, or_left}
use Rattle.std.proofs.lemmas.Bool.Decides.{nat_tests}
use Rattle.ring.specs.Algebra.{RingOn}
use Rattle.matrix.specs.declared.Cell.{Cell}
use Rattle.matrix.specs.Cells.{cell, meant, before, same_place, in_order, covers, present, weight_at, changed}
use Rattle.matrix.specs.Places.{IsAt, IsGap}
use Rattle.matrix.proofs.Order.{Later, AllLater, Ordered, later_apart, earlier_apart, order_holds, order_tested, order_meant, covers_meant}
use Rattle.matrix.proofs.Changed.{ordered_changed, covers_changed}

-- cells whose meaning is a change of cells in order are in order
pub order_kept : {E M : Type 0} (R : RingOn M) (means : E → M) (r c : ℕ) (f : M → M) (cs ds : List (Cell E)) → in_order cs ≡ true → meant means ds ≡ changed R r c f (meant means cs) → in_order ds ≡ true
order_kept R means r c f cs ds h is =
    sym (order_meant means ds) ∙ ap in_order is ∙ order_tested _ (ordered_changed R r c f (meant means cs) (order_holds _ (order_meant means cs ∙ h)))

-- and stand within a size that is raised to cover the place
pub cover_kept : {E M : Type 0} (R : RingOn M) (means : E → M) (r c h w g v : ℕ) (f : M → M) (cs ds : List (Cell E)) → covers h w cs ≡ true → meant means ds ≡ changed R r c f (meant means cs) → g ≡ max h (r + 1) → v ≡ max w (c + 1) → covers g v ds ≡ true
cover_kept R means r c h w g v f cs ds s is tall wide =
    sym (covers_meant means g v ds) ∙ ap (covers g v) is ∙ rw (tall, wide) (covers_changed R r c f h w (meant means cs) (covers_meant means h w cs ∙ s))

stops_at : (i j r c : ℕ) → same_place i j r c ≡ true → before i j r c ≡ false
stops_at i j r c h = grind (arith, nat_tests)

stops_before : (i j r c : ℕ) → Later r c i j → before i j r c ≡ false
stops_before i j r c h = grind (arith, nat_tests)

-- cells that come after a place do so one by one
later_at : {E : Type 0} (i j : ℕ) (cs : List (Cell E)) (p : ℕ) (d : Cell E) → AllLater i j cs → p < length cs → Later i j (get_or cs p d).row (get_or cs p d).column
later_at i j [] p d h lt = absurd (omega arith)
later_at i j (x ∷ cs) zero d h lt = h.0
later_at i j (x ∷ cs) (suc p) d h lt = later_at i j cs p d h.1 (omega arith)

-- nor does one come before those that stand before it
not_back : {E : Type 0} (cs : List (Cell E)) → Ordered cs → (i j : ℕ) (d : Cell E) → i ≤ j → j < length cs → before (get_or cs j d).row (get_or cs j d).column (get_or cs i d).row (get_or cs i d).column ≡ false
not_back [] order i j d le lt = absurd (omega arith)
not_back (x ∷ cs) order zero zero d le lt = stops_at x.row x.column x.row x.column (grind (arith, nat_tests))
not_back (x ∷ cs) order zero (suc j) d le lt = stops_before (get_or cs j d).row (get_or cs j d).column x.row x.column (later_at x.row x.column cs j d order.0 (omega arith))
not_back (x ∷ cs) order (suc i) zero d le lt = absurd (omega arith)
not_back (x ∷ cs) order (suc i) (suc j) d le lt = not_back cs order.1 i j d (omega arith) (omega arith)

before_too : (i j a b r c : ℕ) → before a b i j ≡ false → before a b r c ≡ true → before i j r c ≡ true
before_too i j a b r c h k = grind (arith, nat_tests)

after_too : (i j a b r c : ℕ) → before a b i j ≡ false → before r c i j ≡ true → before r c a b ≡ true
after_too i j a b r c h k = grind (arith, nat_tests)

after_if_apart : (i j r c : ℕ) → before i j r c ≡ false → (i == r) && (j == c) ≡ false → before r c i j ≡ true
after_if_apart i j r c h k = grind (arith, nat_tests)

module _ {E : Type 0} (r c : ℕ) (cs : List (Cell E)) (order : in_order cs ≡ true) where
  parted : IsPartitionedBy (λ x. before x.row x.column r c) cs
  parted i j d le lt h = before_too _ _ _ _ r c (not_back cs (order_holds cs order) i j d le lt) h

  -- where the cells before row r, column c end is a gap, unless the cell there is that of row r, column c
  pub gap_at : (at : ℕ) → at ≤ length cs → (IsPartitionedBy (λ x. before x.row x.column r c) cs → IsPartitionPoint (λ x. before x.row x.column r c ≡ true) (λ x. before x.row x.column r c ≡ false) cs at) → (at < length cs → HoldsAt (λ x. (x.row == r) && (x.column == c) ≡ false) cs at) → IsGap cs r c at
  gap_at at within ends apart =
      let point = ends parted in
      let after = λ (d : Cell E) (lt : at < length cs). after_if_apart _ _ r c (point.1 at d (omega arith) lt) (apart lt d) in
      record { within = within; parts = (point.0, λ k d le lt. after_too _ _ _ _ r c (not_back cs (order_holds cs order) at k d le lt) (after d (omega arith))) }

later_same : (i j a b r c : ℕ) → Later i j a b → same_place a b r c ≡ true → Later i j r c
later_same i j a b r c h k = grind (arith, nat_tests)

module _ {E M : Type 0} (R : RingOn M) (means : E → M) (r c : ℕ) where
  -- what is known of a place, and of the cells once v is written there
  pub record Tells (cs ds : List (Cell E)) (here : Bool) (w : M) (v : E) : Type 0 where
    pub there : present r c (meant means cs) ≡ here
    pub weight : weight_at R r c (meant means cs) ≡ w
    pub written : meant means ds ≡ changed R r c (λ _. means v) (meant means cs)

  pub at_cell : (cs : List (Cell E)) (p : ℕ) (d : Cell E) (v : E) → Ordered cs → IsAt cs r c p → Tells cs (set cs p (cell r c v)) true (means (get_or cs p d).weight) v
  at_cell [] p d v order at = absurd (omega (arith, at.within))
  at_cell (x ∷ cs) zero d v order at =
      let here = at.same d in
      let stops : before x.row x.column r c ≡ false = stops_at x.row x.column r c here in
      record { there = or_left _ _ here; weight = cond-true _ _ _ here; written = rw (stops, here) refl }
  at_cell (x ∷ cs) (suc p) d v order at =
      let rest = at_cell cs p d v order.1 (record { within = omega (arith, at.within); same = at.same }) in
      let past = later_same x.row x.column (get_or cs p d).row (get_or cs p d).column r c (later_at x.row x.column cs p d order.0 (omega (arith, at.within))) (at.same d) in
      let apart = later_apart x.row x.column r c past in
      record { there = rw apart rest.there; weight = rw apart rest.weight; written = rw past (ap (λ t. cell x.row x.column (means x.weight) ∷ t) rest.written) }

  pub at_gap : (cs : List (Cell E)) (p : ℕ) (v : E) → IsGap cs r c p → Tells cs (insert cs p (cell r c v)) false R.nought v
  at_gap [] zero v gap = record { there = refl; weight = refl; written = refl }
  at_gap [] (suc p) v gap = absurd (omega (arith, gap.within))
  at_gap (x ∷ cs) zero v gap =
      let rest = at_gap cs zero v (record { within = omega arith; parts = (λ k d le lt. absurd (omega arith), λ k d le lt. gap.parts.1 (suc k) d (omega arith) (omega arith)) }) in
      let later = gap.parts.1 0 x (omega arith) (omega arith) in
      let apart = earlier_apart x.row x.column r c later in
      let stops = stops_before x.row x.column r c later in
      record { there = rw apart rest.there; weight = rw apart rest.weight; written = rw (stops, apart) refl }
  at_gap (x ∷ cs) (suc p) v gap =
      let rest = at_gap cs p v (record { within = omega (arith, gap.within); parts = (λ k d le lt. gap.parts.0 (suc k) d (omega arith) (omega arith), λ k d le lt. gap.parts.1 (suc k) d (omega arith) (omega arith)) }) in
      let past = gap.parts.0 0 x (omega arith) (omega arith) in
      let apart = later_apart x.row x.column r c past in
      record { there = rw apart rest.there; weight = rw apart rest.weight; written = rw past (ap (λ t. cell x.row x.column (means x.weight) ∷ t) rest.written) }
