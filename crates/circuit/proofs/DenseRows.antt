-- A row's sum over the cells is the dot product of the row's weights with the list.
use Rattle.std.proofs.Common.{◌≡◌, ℕ, ◌<◌, ◌≤◌, Bool, true, false, cond, ◌&&◌, eqb, ltb, List, [], ◌∷◌, map, sym, refl, arith}
use Rattle.std.specs.List.{range_with_len}
use Rattle.std.proofs.lemmas.Bool.{cond_both, cond-true, cond-false, ne_eqb, ltb-true, and_parts}
use Rattle.ring.specs.Algebra.{RingOn}
use Rattle.ring.proofs.Laws.{nought_plus}
use Rattle.matrix.specs.declared.Cell.{Cell}
use Rattle.matrix.specs.Cells.{same_place, covers, weight_at, row_sum, entry}
use Rattle.matrix.proofs.Changed.{none_at}
use Rattle.matrix.proofs.Order.{AllLater, Ordered}
use Rattle.circuit.specs.Bulletproofs.{dot}
use Rattle.circuit.proofs.Dots.{dot_nought, dot_single, dot_plus}

module _ {M : Type 0} (R : RingOn M) where
  -- the weight of one cell at a place
  abbrev part : ℕ → Cell M → ℕ → M
  part q x j = cond (same_place x.row x.column q j) x.weight R.nought

  -- a cell in front adds its weight at its own place, where the later cells have none
  weight_more : (q j : ℕ) (x : Cell M) (xs : List (Cell M))
      → AllLater x.row x.column xs
      → weight_at R q j (x ∷ xs) ≡ R.plus (part q x j) (weight_at R q j xs)
  weight_more q j x xs h =
      let rest = weight_at R q j xs in
      cond_both (same_place x.row x.column q j) x.weight rest (λ (w : M). w ≡ R.plus (part q x j) rest)
      (λ e.
      let here : part q x j ≡ x.weight = cond-true _ _ _ e in
      let none = none_at R x.row x.column q j xs h e in
      let sum = R.plus_nought x.weight in
      cc)
      (λ e.
      let here : part q x j ≡ R.nought = cond-false _ _ _ e in
      let sum = nought_plus R rest in
      cc)

  -- the weights of one cell, in the column k, whether it is in the row or not
  one_dot : (here : Bool) (k n : ℕ) (w : M) (list : List M)
      → k < n
      → dot R (map (λ j. cond (cond here (eqb k j) false) w R.nought) (range_with_len 0 n)) list ≡ cond here (R.times w (entry R list k)) R.nought
  one_dot true k n w list lt = dot_single R k w 0 n k list (omega arith) lt
  one_dot false k n w list lt = dot_nought R (λ j. R.nought) 0 n list (λ j _. refl)

  pub row_sum_dot : (h w n q : ℕ) (list : List M) (xs : List (Cell M))
      → Ordered xs → covers h w xs ≡ true → w ≤ n
      → row_sum R list q xs ≡ dot R (map (λ j. weight_at R q j xs) (range_with_len 0 n)) list
  row_sum_dot h w n q list [] order cover le = sym (dot_nought R (λ j. R.nought) 0 n list (λ j _. refl))
  row_sum_dot h w n q list (x ∷ xs) order cover le =
      let both = and_parts (ltb x.row h && ltb x.column w) (covers h w xs) cover in
      let column = ltb-true x.column w (and_parts (ltb x.row h) (ltb x.column w) both.0).1 in
      let first = one_dot (eqb x.row q) x.column n x.weight list (omega arith) in
      let rest = row_sum_dot h w n q list xs order.1 both.1 le in
      let all = dot_plus R (λ j. weight_at R q j (x ∷ xs)) (part q x) (λ j. weight_at R q j xs) (range_with_len 0 n) list (λ j. weight_more q j x xs order.0) in
      cc

  -- a row from the height on has no cell
  pub row_sum_past : (h w q : ℕ) (list : List M) (xs : List (Cell M))
      → covers h w xs ≡ true → h ≤ q
      → row_sum R list q xs ≡ R.nought
  row_sum_past h w q list [] cover le = refl
  row_sum_past h w q list (x ∷ xs) cover le =
      let both = and_parts (ltb x.row h && ltb x.column w) (covers h w xs) cover in
      let row = ltb-true x.row h (and_parts (ltb x.row h) (ltb x.column w) both.0).0 in
      let first : cond (eqb x.row q) (R.times x.weight (entry R list x.column)) R.nought ≡ R.nought = cond-false _ _ _ (ne_eqb x.row q (λ e. omega arith)) in
      let rest = row_sum_past h w q list xs both.1 le in
      let none = nought_plus R R.nought in
      cc
