-- Combinations: weighted sums of places, one weight for each place, in rising order of the places.
use Rattle.std.specs.Prelude.{ℕ, cond, List, [], ◌∷◌, map, nat_lt}
use Rattle.std.specs.declared.cmp.Ordering.TheVariants.{Less, Equal, Greater}
use Rattle.std.specs.declared.cmp.Ordering.{Ordering}
use Rattle.ring.specs.Algebra.{RingOn}
use Rattle.lowering.specs.declared.Location.{Location}
use Rattle.lowering.specs.declared.Location.TheVariants.{One, Witness, Left, Right, Output, Committed}
use Rattle.lowering.specs.declared.Term.{Term}

abbrev pub Comb : Type 0 → Type 0
Comb M = List (Term M)

abbrev pub term : {M : Type 0} → Location → M → Term M
term p w = record { place = p; weight = w }

abbrev pub kind_of : Location → ℕ
kind_of One = 0
kind_of (Witness w) = 1
kind_of (Left k) = 2
kind_of (Right k) = 3
kind_of (Output k) = 4
kind_of (Committed i) = 5

abbrev pub number_of : Location → ℕ
number_of One = 0
number_of (Witness w) = w
number_of (Left k) = k
number_of (Right k) = k
number_of (Output k) = k
number_of (Committed i) = i

abbrev pub then : ℕ → ℕ → Ordering → Ordering
then a b o = cond (nat_lt a b) Less (cond (nat_lt b a) Greater o)

-- by kind, and within a kind by number
abbrev pub order : Location → Location → Ordering
order p q = then (kind_of p) (kind_of q) (then (number_of p) (number_of q) Equal)

-- a place alone
abbrev pub single : {M : Type 0} → RingOn M → Location → Comb M
single R p = term p R.unit ∷ []

-- a constant
abbrev pub at_one : {M : Type 0} → M → Comb M
at_one x = term One x ∷ []

abbrev pub scale : {M : Type 0} → RingOn M → M → Comb M → Comb M
scale R x c = map (λ t. term t.place (R.times t.weight x)) c

abbrev pub opposite : {M : Type 0} → RingOn M → Comb M → Comb M
opposite R c = map (λ t. term t.place (R.minus t.weight)) c

abbrev pub choose : {A : Type 0} → Ordering → A → A → A → A
choose Less x y z = x
choose Equal x y z = y
choose Greater x y z = z

-- both joined, with the sum of the weights at equal places; a weight that becomes zero stays
abbrev pub merge : {M : Type 0} → RingOn M → Comb M → Comb M → Comb M
merge R [] d = d
merge R (t ∷ c) [] = t ∷ c
merge R (t ∷ c) (u ∷ d) =
    choose (order t.place u.place) (t ∷ merge R c (u ∷ d)) (term t.place (R.plus t.weight u.weight) ∷ merge R c d) (u ∷ merge R (t ∷ c) d)
