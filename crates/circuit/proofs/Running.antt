-- One running sum over cells in order decides whether each row's sum is zero.
use Rattle.std.proofs.Common.{◌≡◌, ℕ, zero, suc, ◌+◌, ◌<◌, ◌≤◌, List, [], ◌∷◌, ◌++◌, length, get_or, take, drop, sym, refl, ap, ◌∙◌, subst, inl, inr, arith}
use Rattle.std.proofs.lemmas.List.{length-map, take_more, drop_more, take-append-drop, get_or-map}
use Rattle.std.proofs.lemmas.Bool.{cases_eq}
use Rattle.std.proofs.lemmas.Bool.Decides.{nat_tests}
use Rattle.ring.specs.Algebra.{RingOn}
use Rattle.ring.proofs.Laws.{nought_plus}
use Rattle.matrix.specs.declared.Cell.{Cell}
use Rattle.matrix.specs.Cells.{cell, meant, entry, row_sum}
use Rattle.matrix.proofs.Order.{Later, AllLater, Ordered}
use Rattle.matrix.proofs.RowSums.{part, row_sum_append, row_sum_more, part_here, part_elsewhere}

later_row : (i j r c : ℕ) → Later i j r c → i ≤ r
later_row i j r c h = grind (arith, nat_tests)

-- each cell's row is r or more
abbrev From : {M : Type 0} → ℕ → List (Cell M) → Type 0
From r [] = Unit {0}
From r (x ∷ xs) = (r ≤ x.row) × From r xs

from_zero : {M : Type 0} (xs : List (Cell M)) → From 0 xs
from_zero [] = tt
from_zero (x ∷ xs) = (omega arith, from_zero xs)

from_later : {M : Type 0} (r c : ℕ) (xs : List (Cell M)) → AllLater r c xs → From r xs
from_later r c [] h = tt
from_later r c (x ∷ xs) h = (later_row r c x.row x.column h.0, from_later r c xs h.1)

from_more : {M : Type 0} (i r : ℕ) (xs : List (Cell M)) → i ≤ r → From r xs → From i xs
from_more i r [] le h = tt
from_more i r (x ∷ xs) le h = let a = h.0 in (omega arith, from_more i r xs le h.1)

ordered_drop : {M : Type 0} (k : ℕ) (xs : List (Cell M)) → Ordered xs → Ordered (drop k xs)
ordered_drop zero xs h = h
ordered_drop (suc k) [] h = tt
ordered_drop (suc k) (x ∷ xs) h = ordered_drop k xs h.1

module _ {M : Type 0} (R : RingOn M) (list : List M) where
  abbrev sum_of : ℕ → List (Cell M) → M
  sum_of i xs = row_sum R list i xs

  abbrev term : Cell M → M
  term x = R.times x.weight (entry R list x.column)

  -- no cell of the row is left
  sum_none : (i : ℕ) (xs : List (Cell M)) → From (suc i) xs → sum_of i xs ≡ R.nought
  sum_none i [] h = refl
  sum_none i (x ∷ xs) h =
      let a = h.0 in
      ap (λ m. R.plus m (sum_of i xs)) (part_elsewhere R list i x (λ q. omega arith)) ∙ nought_plus R (sum_of i xs) ∙ sum_none i xs h.1

  -- after k cells, of which those of the row `row` come to s
  pub record Progress (xs : List (Cell M)) (k row : ℕ) (s : M) : Type 0 where
    pub sum : s ≡ row_sum R list row (take k xs)
    pub others : (i : ℕ) → (i ≡ row → ⊥) → row_sum R list i (take k xs) ≡ R.nought
    pub above : From row (drop k xs)

  pub start : (xs : List (Cell M)) (s : M) → s ≡ R.nought → Progress xs 0 0 s
  start xs s h = record { sum = h; others = λ i _. refl; above = from_zero xs }

  module _ (xs : List (Cell M)) (order : Ordered xs) (k row : ℕ) (s : M) (so_far : Progress xs k row s) (x : Cell M) (lt : k < length xs) (read : x ≡ get_or xs k x) where
    more : (i : ℕ) → sum_of i (take (k + 1) xs) ≡ R.plus (sum_of i (take k xs)) (part R list i x)
    more i = ap (sum_of i) (take_more xs k x lt ∙ ap (λ y. take k xs ++ (y ∷ [])) (sym read)) ∙ row_sum_more R list i (take k xs) x

    split : drop k xs ≡ x ∷ drop (k + 1) xs
    split = drop_more xs k x lt ∙ ap (λ y. y ∷ drop (k + 1) xs) (sym read)

    here : (row ≤ x.row) × From row (drop (k + 1) xs)
    here = subst (From row) split so_far.above

    rest : From x.row (drop (k + 1) xs)
    rest = let both : Ordered (x ∷ drop (k + 1) xs) = subst Ordered split (ordered_drop k xs order) in from_later x.row x.column (drop (k + 1) xs) both.0

    pub same_row : x.row ≡ row → Progress xs (k + 1) row (R.plus s (term x))
    same_row h = record {
      sum = ap (λ m. R.plus m (term x)) so_far.sum ∙ ap (R.plus (sum_of row (take k xs))) (sym (part_here R list row x h)) ∙ sym (more row);
      others = λ i ne. more i ∙ ap (R.plus (sum_of i (take k xs))) (part_elsewhere R list i x (λ q. ne (sym q ∙ h))) ∙ R.plus_nought _ ∙ so_far.others i ne;
      above = here.1;
    }

    pub new_row : (x.row ≡ row → ⊥) → s ≡ R.nought → (z : M) → z ≡ R.nought → Progress xs (k + 1) x.row (R.plus z (term x))
    new_row ne none z is = record {
      sum = ap (λ m. R.plus m (term x)) (is ∙ sym (so_far.others x.row ne)) ∙ ap (R.plus (sum_of x.row (take k xs))) (sym (part_here R list x.row x refl)) ∙ sym (more x.row);
      others = λ i other.
          more i
          ∙ ap (R.plus (sum_of i (take k xs))) (part_elsewhere R list i x (λ q. other (sym q)))
          ∙ R.plus_nought _
          ∙ elim (cases_eq i row) [ inl q ↦ ap (λ n. sum_of n (take k xs)) q ∙ sym so_far.sum ∙ none | inr q ↦ so_far.others i q ];
      above = rest;
    }

    pub fails : (x.row ≡ row → ⊥) → (s ≡ R.nought → ⊥) → ((i : ℕ) → row_sum R list i xs ≡ R.nought) → ⊥
    fails ne bad all =
        let le = here.0 in
        let past : From (suc row) (drop k xs) = subst (From (suc row)) (sym split) (omega arith, from_more (suc row) x.row (drop (k + 1) xs) (omega arith) rest) in
        bad (so_far.sum ∙ sym (R.plus_nought _) ∙ ap (R.plus (sum_of row (take k xs))) (sym (sum_none row (drop k xs) past)) ∙ sym (row_sum_append R list row (take k xs) (drop k xs)) ∙ ap (sum_of row) (take-append-drop k xs) ∙ all row)

-- the meaning of the cell at the place k
pub cell_at : {E M : Type 0} (means : E → M) (cells : List (Cell E)) (k : ℕ) (x : Cell E) → k < length cells → x ≡ get_or cells k x → (k < length (meant means cells)) × (cell x.row x.column (means x.weight) ≡ get_or (meant means cells) k (cell x.row x.column (means x.weight)))
cell_at means cells k x lt read =
    (simp length-map lt, sym (get_or-map _ cells k x (cell x.row x.column (means x.weight)) lt ∙ ap (λ y. cell y.row y.column (means y.weight)) (sym read)))
