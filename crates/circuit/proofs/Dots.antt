-- The dot product with a list that is a function of the column.
use Rattle.std.proofs.Common.{◌≡◌, ℕ, zero, suc, ◌+◌, ◌<◌, ◌≤◌, cond, eqb, List, [], ◌∷◌, ◌++◌, map, length, sym, refl, ap, ◌∙◌, arith}
use Rattle.std.specs.List.{range_with_len}
use Rattle.std.proofs.lemmas.Bool.{cond-true, cond-false, eq-eqb, ne_eqb}
use Rattle.ring.specs.Algebra.{RingOn}
use Rattle.ring.proofs.Laws.{nought_plus, nought_times, times_nought, plus_times, plus_swap, minus_times, minus_nought, minus_plus_distributes}
use Rattle.matrix.specs.Cells.{entry}
use Rattle.circuit.specs.Bulletproofs.{dot}

module _ {M : Type 0} (R : RingOn M) where
  -- weights that are zero
  pub dot_nought : (f : ℕ → M) (a n : ℕ) (xs : List M)
      → ((j : ℕ) → a ≤ j → f j ≡ R.nought)
      → dot R (map f (range_with_len a n)) xs ≡ R.nought
  dot_nought f a zero xs h = refl
  dot_nought f a (suc n) [] h = refl
  dot_nought f a (suc n) (x ∷ xs) h =
      let first : R.times (f a) x ≡ R.nought = ap (λ (w : M). R.times w x) (h a (omega arith)) ∙ nought_times R x in
      let rest = dot_nought f (a + 1) n xs (λ j le. h j (omega arith)) in
      let none = R.plus_nought R.nought in
      cc

  -- one weight, in the column k, which is i after the first
  pub dot_single : (k : ℕ) (w : M) (a n i : ℕ) (xs : List M)
      → a + i ≡ k → i < n
      → dot R (map (λ j. cond (eqb k j) w R.nought) (range_with_len a n)) xs ≡ R.times w (entry R xs i)
  dot_single k w a zero i xs e lt = absurd (omega arith)
  dot_single k w a (suc n) i [] e lt = sym (times_nought R w)
  dot_single k w a (suc n) zero (x ∷ xs) e lt =
      let here : cond (eqb k a) w R.nought ≡ w = cond-true _ _ _ (eq-eqb k a (omega arith)) in
      let rest = dot_nought (λ j. cond (eqb k j) w R.nought) (a + 1) n xs (λ j le. cond-false _ _ _ (ne_eqb k j (λ q. omega arith))) in
      let none = R.plus_nought (R.times w x) in
      cc
  dot_single k w a (suc n) (suc i) (x ∷ xs) e lt =
      let here : cond (eqb k a) w R.nought ≡ R.nought = cond-false _ _ _ (ne_eqb k a (λ q. omega arith)) in
      let first = nought_times R x in
      let rest = dot_single k w (a + 1) n i xs (omega arith) (omega arith) in
      let none = nought_plus R (R.times w (entry R xs i)) in
      cc

  -- weights that are sums
  pub dot_plus : (f g h : ℕ → M) (js : List ℕ) (xs : List M)
      → ((j : ℕ) → f j ≡ R.plus (g j) (h j))
      → dot R (map f js) xs ≡ R.plus (dot R (map g js) xs) (dot R (map h js) xs)
  dot_plus f g h [] xs e = sym (R.plus_nought R.nought)
  dot_plus f g h (j ∷ js) [] e = sym (R.plus_nought R.nought)
  dot_plus f g h (j ∷ js) (x ∷ xs) e =
      let here = e j in
      let first = plus_times R (g j) (h j) x in
      let rest = dot_plus f g h js xs e in
      let swap = plus_swap R (R.times (g j) x) (R.times (h j) x) (dot R (map g js) xs) (dot R (map h js) xs) in
      cc

  pub dot_minus : (ws xs : List M) → dot R (map R.minus ws) xs ≡ R.minus (dot R ws xs)
  dot_minus [] xs = sym (minus_nought R)
  dot_minus (w ∷ ws) [] = sym (minus_nought R)
  dot_minus (w ∷ ws) (x ∷ xs) =
      let first = minus_times R w x in
      let rest = dot_minus ws xs in
      let both = minus_plus_distributes R (R.times w x) (dot R ws xs) in
      cc

  -- the t columns from a on are p of them, then s more from b on
  pub dot_append : (f : ℕ → M) (a b p s t : ℕ) (xs ys : List M)
      → length xs ≡ p → p + s ≡ t → a + p ≡ b
      → dot R (map f (range_with_len a t)) (xs ++ ys) ≡ R.plus (dot R (map f (range_with_len a p)) xs) (dot R (map f (range_with_len b s)) ys)
  dot_append f a b zero s t [] ys len e from =
      let count : t ≡ s = omega arith in
      let same : a ≡ b = omega arith in
      let none = nought_plus R (dot R (map f (range_with_len b s)) ys) in
      cc
  dot_append f a b (suc p) s t [] ys len e from = absurd (omega arith)
  dot_append f a b zero s t (x ∷ xs) ys len e from = absurd (omega arith)
  dot_append f a b (suc p) s zero (x ∷ xs) ys len e from = absurd (omega arith)
  dot_append f a b (suc p) s (suc t) (x ∷ xs) ys len e from =
      ap (R.plus (R.times (f a) x)) (dot_append f (a + 1) b p s t xs ys (omega arith) (omega arith) (omega arith))
      ∙ sym (R.plus_assoc (R.times (f a) x) (dot R (map f (range_with_len (a + 1) p)) xs) (dot R (map f (range_with_len b s)) ys))
