-- What `changed` does to the order, the cover, the weights and the sums of rows.
use Rattle.std.proofs.Common.{◌≡◌, ℕ, ◌+◌, ◌<◌, max, Bool, true, false, cond, ◌&&◌, eqb, ltb, List, [], ◌∷◌, sym, refl, ap, ◌∙◌, subst, inl, inr, arith}
use Rattle.std.proofs.Math.Nat.{le-max_left, le-max_right}
use Rattle.std.proofs.lemmas.Bool.{cases_Bool, cond_both, cond-true, cond-false, and_parts, and_from, lt-ltb, or_from}
use Rattle.std.proofs.lemmas.Bool.Decides.{nat_tests}
use Rattle.ring.specs.Algebra.{RingOn}
use Rattle.ring.proofs.Laws.{nought_plus, plus_times}
use Rattle.matrix.specs.declared.Cell.{Cell}
use Rattle.matrix.specs.Cells.{cell, before, same_place, covers, present, weight_at, changed, entry, row_sum}
use Rattle.matrix.proofs.Order.{Later, AllLater, Ordered, all_later_through, later_else, later_apart, earlier_apart, place_row, place_column, covers_more}

pub none_later : {M : Type 0} (R : RingOn M) (r c : ℕ) (xs : List (Cell M)) → AllLater r c xs → (present r c xs ≡ false) × (weight_at R r c xs ≡ R.nought)
none_later R r c [] h = (refl, refl)
none_later R r c (x ∷ xs) h =
    let apart = earlier_apart x.row x.column r c h.0 in
    let rest = none_later R r c xs h.1 in
    (or_from _ _ apart rest.0, cond-false _ _ _ apart ∙ rest.1)

-- what comes after a place has no weight at it
pub none_at : {M : Type 0} (R : RingOn M) (r c i j : ℕ) (xs : List (Cell M)) → AllLater r c xs → same_place r c i j ≡ true → weight_at R i j xs ≡ R.nought
none_at R r c i j xs h s =
    let row = place_row r c i j s in
    let column = place_column r c i j s in
    subst (λ (n : ℕ). weight_at R n j xs ≡ R.nought) row (subst (λ (n : ℕ). weight_at R r n xs ≡ R.nought) column (none_later R r c xs h).1)

-- no cell is at two places
not_both : (a b r c i j : ℕ) → before a b r c ≡ true → same_place a b i j ≡ true → same_place r c i j ≡ false
not_both a b r c i j h k = grind (arith, nat_tests)

one_place : (a b r c i j : ℕ) → same_place a b r c ≡ true → same_place r c i j ≡ same_place a b i j
one_place a b r c i j h = grind (arith, nat_tests)

module _ {M : Type 0} (R : RingOn M) (r c : ℕ) (f : M → M) where
  apart_swap : (s t : Bool) (u w : M) → (s ≡ true → t ≡ false) → cond s u (cond t (f w) w) ≡ cond t (f (cond s u w)) (cond s u w)
  apart_swap true t u w h = sym (cond-false _ _ _ (h refl))
  apart_swap false t u w h = refl

  at_one : (s : Bool) (u w : M) → cond s (f u) w ≡ cond s (f (cond s u w)) (cond s u w)
  at_one true u w = refl
  at_one false u w = refl

  before_all : (s : Bool) (w : M) → (s ≡ true → w ≡ R.nought) → cond s (f R.nought) w ≡ cond s (f w) w
  before_all true w h = ap f (sym (h refl))
  before_all false w h = refl

  later_changed : (a b : ℕ) (xs : List (Cell M)) → Later a b r c → AllLater a b xs → AllLater a b (changed R r c f xs)
  later_changed a b [] h k = (h, tt)
  later_changed a b (x ∷ xs) h k =
      cond_both (before x.row x.column r c) _ _ (AllLater a b)
      (λ _. (k.0, later_changed a b xs h k.1))
      (λ _. cond_both (same_place x.row x.column r c) _ _ (AllLater a b) (λ _. (h, k.1)) (λ _. (h, (k.0, k.1))))

  pub ordered_changed : (xs : List (Cell M)) → Ordered xs → Ordered (changed R r c f xs)
  ordered_changed [] h = (tt, tt)
  ordered_changed (x ∷ xs) h =
      cond_both (before x.row x.column r c) _ _ Ordered
      (λ b. (later_changed x.row x.column xs b h.0, ordered_changed xs h.1))
      (λ nb. cond_both (same_place x.row x.column r c) _ _ Ordered
      (λ y. (subst (λ (n : ℕ). AllLater n c xs) (place_row _ _ _ _ y) (subst (λ (n : ℕ). AllLater x.row n xs) (place_column _ _ _ _ y) h.0), h.1))
      (λ n. let l = later_else x.row x.column r c nb n in ((l, all_later_through r c x.row x.column xs l h.0), (h.0, h.1))))

  covers_changed_in : (h w : ℕ) (xs : List (Cell M)) → r < h → c < w → covers h w xs ≡ true → covers h w (changed R r c f xs) ≡ true
  covers_changed_in h w [] p q s = and_from _ _ (and_from _ _ (lt-ltb _ _ p) (lt-ltb _ _ q)) refl
  covers_changed_in h w (x ∷ xs) p q s =
      let both = and_parts (ltb x.row h && ltb x.column w) (covers h w xs) s in
      let new : (ltb r h && ltb c w) ≡ true = and_from _ _ (lt-ltb _ _ p) (lt-ltb _ _ q) in
      let P : List (Cell M) → Type 0 = λ ys. covers h w ys ≡ true in
      cond_both (before x.row x.column r c) _ _ P
      (λ _. and_from _ _ both.0 (covers_changed_in h w xs p q both.1))
      (λ _. cond_both (same_place x.row x.column r c) _ _ P (λ _. and_from _ _ new both.1) (λ _. and_from _ _ new s))

  -- raised to cover the place, a size covers the changed cells
  pub covers_changed : (h w : ℕ) (xs : List (Cell M)) → covers h w xs ≡ true → covers (max h (r + 1)) (max w (c + 1)) (changed R r c f xs) ≡ true
  covers_changed h w xs s =
      let low = le-max_right h (r + 1) in
      let near = le-max_right w (c + 1) in
      covers_changed_in (max h (r + 1)) (max w (c + 1)) xs (omega arith) (omega arith) (covers_more h w _ _ xs (le-max_left h (r + 1)) (le-max_left w (c + 1)) s)

  -- the weight at the place may be worked out beforehand
  pub changed_as : (w : M) (xs : List (Cell M)) → Ordered xs → w ≡ f (weight_at R r c xs) → changed R r c (λ _. w) xs ≡ changed R r c f xs
  changed_as w [] order is = ap (λ m. cell r c m ∷ []) is
  changed_as w (x ∷ xs) order is =
      elim (cases_Bool (before x.row x.column r c)) [
        | inl b ↦ rw b (ap (λ t. x ∷ t) (changed_as w xs order.1 (is ∙ ap f (cond-false _ _ _ (later_apart x.row x.column r c b)))))
        | inr nb ↦ elim (cases_Bool (same_place x.row x.column r c)) [
          | inl y ↦ rw (nb, y) (ap (λ m. cell r c m ∷ xs) (is ∙ ap f (cond-true _ _ _ y)))
          | inr n ↦
              let l = later_else x.row x.column r c nb n in
              let none = (none_later R r c xs (all_later_through r c x.row x.column xs l order.0)).1 in
              rw (nb, n) (ap (λ m. cell r c m ∷ x ∷ xs) (is ∙ ap f (cond-false _ _ _ n ∙ none)))
        ]
      ]

  -- the weight at the place went through f, and every other stands
  pub weight_changed : (i j : ℕ) (xs : List (Cell M)) → Ordered xs → weight_at R i j (changed R r c f xs) ≡ cond (same_place r c i j) (f (weight_at R i j xs)) (weight_at R i j xs)
  weight_changed i j [] order = refl
  weight_changed i j (x ∷ xs) order =
      let w = weight_at R i j xs in
      elim (cases_Bool (before x.row x.column r c)) [
        | inl b ↦ rw b (ap (cond (same_place x.row x.column i j) x.weight) (weight_changed i j xs order.1) ∙ apart_swap (same_place x.row x.column i j) (same_place r c i j) x.weight w (not_both x.row x.column r c i j b))
        | inr nb ↦ elim (cases_Bool (same_place x.row x.column r c)) [
          | inl y ↦ rw (nb, y) (at_one (same_place r c i j) x.weight w ∙ ap (λ s. cond (same_place r c i j) (f (cond s x.weight w)) (cond s x.weight w)) (one_place x.row x.column r c i j y))
          | inr n ↦
              let l = later_else x.row x.column r c nb n in
              rw (nb, n) (before_all (same_place r c i j) (weight_at R i j (x ∷ xs)) (λ s. none_at R r c i j (x ∷ xs) (l, all_later_through r c x.row x.column xs l order.0) s))
        ]
      ]

-- adding a weight adds its product with the list's entry to the sum of its row
module _ {M : Type 0} (R : RingOn M) (list : List M) (i r c : ℕ) (w : M) where
  abbrev part : ℕ → ℕ → M → M
  part a b u = cond (eqb a i) (R.times u (entry R list b)) R.nought

  merged : (s : Bool) (u v : M) → cond s (R.times (R.plus u w) v) R.nought ≡ R.plus (cond s (R.times u v) R.nought) (cond s (R.times w v) R.nought)
  merged true u v = plus_times R u w v
  merged false u v = sym (R.plus_nought R.nought)

  made : part r c (R.plus R.nought w) ≡ part r c w
  made = ap (part r c) (nought_plus R w)

  swap_last : (a s t : M) → R.plus (R.plus a s) t ≡ R.plus (R.plus a t) s
  swap_last a s t = let p = R.plus_assoc a s t in let q = R.plus_assoc a t s in let r = R.plus_comm s t in cc

  pub row_sum_added : (xs : List (Cell M)) → row_sum R list i (changed R r c (λ u. R.plus u w) xs) ≡ R.plus (row_sum R list i xs) (part r c w)
  row_sum_added [] = ap (λ m. R.plus m R.nought) made ∙ R.plus_comm (part r c w) R.nought
  row_sum_added (x ∷ xs) =
      let rest = row_sum R list i xs in
      let was = part x.row x.column x.weight in
      let after : List (Cell M) → Type 0 = λ ys. row_sum R list i ys ≡ R.plus (R.plus was rest) (part r c w) in
      cond_both (before x.row x.column r c) _ _ after
      (λ _. ap (R.plus was) (row_sum_added xs) ∙ sym (R.plus_assoc was rest (part r c w)))
      (λ _. cond_both (same_place x.row x.column r c) _ _ after
      (λ y.
      ap (λ m. R.plus m rest) (merged (eqb r i) x.weight (entry R list c))
      ∙ swap_last (part r c x.weight) (part r c w) rest
      ∙ sym (ap (λ n. R.plus (R.plus (part n x.column x.weight) rest) (part r c w)) (place_row _ _ _ _ y)
      ∙ ap (λ n. R.plus (R.plus (part r n x.weight) rest) (part r c w)) (place_column _ _ _ _ y)))
      (λ _. ap (λ m. R.plus m (R.plus was rest)) made ∙ R.plus_comm (part r c w) (R.plus was rest)))
