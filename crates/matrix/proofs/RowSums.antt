-- The sums of rows, cell by cell.
use Rattle.std.proofs.Common.{◌≡◌, ℕ, zero, suc, ◌+◌, ◌<◌, ◌≤◌, true, cond, ◌&&◌, eqb, ltb, ◌≢◌, List, [], ◌∷◌, ◌++◌, map, length, get_or, take, set, sym, refl, ap, ◌∙◌, subst, inl, inr, arith, length-set, get_or-set_other, get_or-set_same}
use Rattle.std.proofs.lemmas.List.FromFn.{fill_by_all}
use Rattle.std.proofs.lemmas.List.{length-map, map-append, take_more, take_all, get_or-map, get_or_past}
use Rattle.std.proofs.lemmas.Bool.{and_parts, ltb-true, cases_eq, cond-true, cond-false, eq-eqb, ne_eqb}
use Rattle.ring.specs.Algebra.{RingOn}
use Rattle.ring.proofs.Laws.{nought_plus, times_nought}
use Rattle.matrix.specs.declared.Cell.{Cell}
use Rattle.matrix.specs.Cells.{cell, meant, covers, entry, row_sum, product}

row_below : {E : Type 0} (h w : ℕ) (xs : List (Cell E)) (k : ℕ) (d : Cell E) → covers h w xs ≡ true → k < length xs → (get_or xs k d).row < h
row_below h w [] k d s lt = absurd (omega arith)
row_below h w (x ∷ xs) zero d s lt = ltb-true _ _ (and_parts _ _ (and_parts (ltb x.row h && ltb x.column w) (covers h w xs) s).0).0
row_below h w (x ∷ xs) (suc k) d s lt = row_below h w xs k d (and_parts (ltb x.row h && ltb x.column w) (covers h w xs) s).1 (omega arith)

pub row_within : {E : Type 0} (h w : ℕ) (xs : List (Cell E)) (k : ℕ) (x : Cell E) → covers h w xs ≡ true → k < length xs → x ≡ get_or xs k x → x.row < h
row_within h w xs k x s lt read = subst (λ (y : Cell _). y.row < h) (sym read) (row_below h w xs k x s lt)

module _ {M : Type 0} (R : RingOn M) (list : List M) where
  abbrev pub part : ℕ → Cell M → M
  part i x = cond (eqb x.row i) (R.times x.weight (entry R list x.column)) R.nought

  pub row_sum_append : (i : ℕ) (xs ys : List (Cell M)) → row_sum R list i (xs ++ ys) ≡ R.plus (row_sum R list i xs) (row_sum R list i ys)
  row_sum_append i [] ys = sym (nought_plus R (row_sum R list i ys))
  row_sum_append i (x ∷ xs) ys =
      ap (R.plus (part i x)) (row_sum_append i xs ys) ∙ sym (R.plus_assoc (part i x) (row_sum R list i xs) (row_sum R list i ys))

  pub row_sum_more : (i : ℕ) (xs : List (Cell M)) (x : Cell M) → row_sum R list i (xs ++ (x ∷ [])) ≡ R.plus (row_sum R list i xs) (part i x)
  row_sum_more i xs x = row_sum_append i xs (x ∷ []) ∙ ap (R.plus (row_sum R list i xs)) (R.plus_nought (part i x))

  pub part_here : (i : ℕ) (x : Cell M) → x.row ≡ i → part i x ≡ R.times x.weight (entry R list x.column)
  part_here i x h = cond-true _ _ _ (eq-eqb x.row i h)

  pub part_elsewhere : (i : ℕ) (x : Cell M) → (x.row ≡ i → ⊥) → part i x ≡ R.nought
  part_elsewhere i x h = cond-false _ _ _ (ne_eqb x.row i h)

  part_skipped : (i : ℕ) (x : Cell M) → length list ≤ x.column → part i x ≡ R.nought
  part_skipped i x h =
      elim (cases_eq x.row i) [
        | inl p ↦ part_here i x p ∙ ap (R.times x.weight) (get_or_past list x.column R.nought h) ∙ times_nought R x.weight
        | inr p ↦ part_elsewhere i x p
      ]

  module _ {E : Type 0} (means : E → M) (cells : List (Cell E)) where
    -- each sum after k cells
    abbrev pub Summed : ℕ → List E → Type 0
    Summed k result = (i : ℕ) (d : E) → i < length result → means (get_or result i d) ≡ row_sum R list i (meant means (take k cells))

    module _ (k : ℕ) (result : List E) (so_far : Summed k result) (x : Cell E) (lt : k < length cells) (read : x ≡ get_or cells k x) where
      abbrev here : Cell M
      here = cell x.row x.column (means x.weight)

      one_more : (i : ℕ) → row_sum R list i (meant means (take (k + 1) cells)) ≡ R.plus (row_sum R list i (meant means (take k cells))) (part i here)
      one_more i =
          ap (λ t. row_sum R list i (meant means t)) (take_more cells k x lt ∙ ap (λ y. take k cells ++ (y ∷ [])) (sym read))
          ∙ ap (row_sum R list i) (map-append _ (take k cells) (x ∷ []))
          ∙ row_sum_more i (meant means (take k cells)) here

      pub skipped : length list ≤ x.column → Summed (k + 1) result
      skipped h i d under =
          so_far i d under ∙ sym (one_more i ∙ ap (R.plus _) (part_skipped i here h) ∙ R.plus_nought _)

      pub summed : (v : E) → x.row < length result → means v ≡ R.plus (means (get_or result x.row v)) (R.times (means x.weight) (entry R list x.column)) → Summed (k + 1) (set result x.row v)
      summed v inside is i d under =
          let below : i < length result = simp length-set at under in
          elim (cases_eq x.row i) [
            | inl p ↦
                ap means (subst (λ (n : ℕ). get_or (set result n v) i d ≡ v) (sym p) (get_or-set_same result i v d below))
                ∙ is
                ∙ ap (λ m. R.plus m (R.times (means x.weight) (entry R list x.column))) (ap (λ n. means (get_or result n v)) p ∙ so_far i v below)
                ∙ ap (R.plus _) (sym (part_here i here p))
                ∙ sym (one_more i)
            | inr p ↦
                let other : i ≢ x.row = λ q. p (sym q) in
                ap means (get_or-set_other result x.row i v d other) ∙ so_far i d below ∙ sym (one_more i ∙ ap (R.plus _) (part_elsewhere i here p) ∙ R.plus_nought _)
          ]

    pub all_summed : (k : ℕ) (result : List E) → length cells ≤ k → Summed k result → map means result ≡ product R list (length result) (meant means cells)
    all_summed k [] le h = refl
    all_summed k (y ∷ ys) le h =
        fill_by_all (λ i. row_sum R list i (meant means cells)) (map means (y ∷ ys)) (length (y ∷ ys)) (means y) (length-map (y ∷ ys) means)
        (λ i lt. get_or-map means (y ∷ ys) i y (means y) lt ∙ h i y lt ∙ ap (λ t. row_sum R list i (meant means t)) (take_all k cells le))
