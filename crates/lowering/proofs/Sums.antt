-- What the laws of a ring give of the sum of a combination, over any values of the places.
use Rattle.std.proofs.Common.{◌≡◌, ℕ, Bool, true, false, cond, eqb, ltb, [], ◌∷◌, Ordering, Less, Equal, Greater, sym, refl, ap, ◌∙◌, ap₂, arith}
use Rattle.std.proofs.lemmas.Bool.Decides.{nat_tests}
use Rattle.ring.specs.Algebra.{RingOn}
use Rattle.ring.proofs.Laws.{nought_plus, plus_left_comm, plus_swap, plus_times, minus_nought, minus_plus_distributes, minus_times, times_nought}
use Rattle.lowering.specs.declared.Location.{Location}
use Rattle.lowering.specs.declared.Location.TheVariants.{One, Witness, Left, Right, Output, Committed}
use Rattle.lowering.specs.Combination.{Comb, kind_of, number_of, then, order, single, at_one, scale, opposite, choose, merge}

abbrev of_number : ℕ → ℕ → Location
of_number k n = cond (eqb k 0) One (cond (eqb k 1) (Witness n) (cond (eqb k 2) (Left n) (cond (eqb k 3) (Right n) (cond (eqb k 4) (Output n) (Committed n)))))

renumber : (p : Location) → of_number (kind_of p) (number_of p) ≡ p
renumber One = refl
renumber (Witness w) = refl
renumber (Left k) = refl
renumber (Right k) = refl
renumber (Output k) = refl
renumber (Committed i) = refl

then_equal : (a b : ℕ) (o : Ordering) → then a b o ≡ Equal → (a ≡ b) × (o ≡ Equal)
then_equal a b o e = go (ltb a b) (ltb b a) refl refl e
  where
    go : (x y : Bool) → ltb a b ≡ x → ltb b a ≡ y → cond x Less (cond y Greater o) ≡ Equal → (a ≡ b) × (o ≡ Equal)
    go true y p q h = (cc, cc)
    go false true p q h = (cc, cc)
    go false false p q h = (grind (arith, nat_tests), h)

order_equal : (p q : Location) → order p q ≡ Equal → p ≡ q
order_equal p q e =
    let k = then_equal (kind_of p) (kind_of q) _ e in
    let n = then_equal (number_of p) (number_of q) Equal k.1 in
    sym (renumber p) ∙ ap (λ m. of_number m (number_of p)) k.0 ∙ ap (of_number (kind_of q)) n.0 ∙ renumber q

module _ {M : Type 0} (R : RingOn M) where
  -- weight times value, over all places
  abbrev pub sum : (Location → M) → Comb M → M
  sum at [] = R.nought
  sum at (t ∷ c) = R.plus (R.times t.weight (at t.place)) (sum at c)

  module _ (at : Location → M) where
    pub sum_single : (p : Location) → sum at (single R p) ≡ at p
    sum_single p = R.plus_nought _ ∙ R.times_comm R.unit (at p) ∙ R.times_unit (at p)

    pub sum_one : (x : M) → at One ≡ R.unit → sum at (at_one x) ≡ x
    sum_one x e = R.plus_nought _ ∙ ap (R.times x) e ∙ R.times_unit x

    pub sum_scale : (x : M) (c : Comb M) → sum at (scale R x c) ≡ R.times x (sum at c)
    sum_scale x [] = sym (times_nought R x)
    sum_scale x (t ∷ c) =
        ap₂ R.plus (ap (λ u. R.times u (at t.place)) (R.times_comm t.weight x) ∙ R.times_assoc x t.weight (at t.place)) (sum_scale x c)
        ∙ sym (R.times_plus x (R.times t.weight (at t.place)) (sum at c))

    pub sum_opposite : (c : Comb M) → sum at (opposite R c) ≡ R.minus (sum at c)
    sum_opposite [] = sym (minus_nought R)
    sum_opposite (t ∷ c) =
        ap₂ R.plus (minus_times R t.weight (at t.place)) (sum_opposite c)
        ∙ sym (minus_plus_distributes R (R.times t.weight (at t.place)) (sum at c))

    sum_choose : (o : Ordering) (x y z : Comb M) (m : M) → sum at x ≡ m → (o ≡ Equal → sum at y ≡ m) → sum at z ≡ m → sum at (choose o x y z) ≡ m
    sum_choose Less x y z m p q r = p
    sum_choose Equal x y z m p q r = q refl
    sum_choose Greater x y z m p q r = r

    -- t and u at one place, before what the rests come to
    meet : (x y k m s d : M) → k ≡ m → R.plus (R.times (R.plus x y) k) (R.plus s d) ≡ R.plus (R.plus (R.times x k) s) (R.plus (R.times y m) d)
    meet x y k m s d e = rw (← e) (ap (λ u. R.plus u (R.plus s d)) (plus_times R x y k) ∙ plus_swap R (R.times x k) (R.times y k) s d)

    pub sum_merge : (c d : Comb M) → sum at (merge R c d) ≡ R.plus (sum at c) (sum at d)
    sum_merge [] d = sym (nought_plus R (sum at d))
    sum_merge (t ∷ c) [] = sym (R.plus_nought (sum at (t ∷ c)))
    sum_merge (t ∷ c) (u ∷ d) =
        let x = R.times t.weight (at t.place) in
        let y = R.times u.weight (at u.place) in
        sum_choose (order t.place u.place) _ _ _ _
        (ap (R.plus x) (sum_merge c (u ∷ d)) ∙ sym (R.plus_assoc x (sum at c) (sum at (u ∷ d))))
        (λ e. ap (R.plus (R.times (R.plus t.weight u.weight) (at t.place))) (sum_merge c d)
        ∙ meet t.weight u.weight (at t.place) (at u.place) (sum at c) (sum at d) (ap at (order_equal t.place u.place e)))
        (ap (R.plus y) (sum_merge (t ∷ c) d) ∙ plus_left_comm R y (sum at (t ∷ c)) (sum at d))
