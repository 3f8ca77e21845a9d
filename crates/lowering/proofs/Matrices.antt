-- The rows of a matrix sum to what their combinations differ by, and its width covers their places.
use Rattle.std.proofs.Common.{◌≡◌, ℕ, suc, ◌<◌, ◌≤◌, Bool, true, false, cond, eqb, List, [], ◌∷◌, sym, refl, ap, ◌∙◌, ap₂, inl, inr, arith}
use Rattle.std.proofs.Math.Nat.{max-le}
use Rattle.std.specs.List.{All}
use Rattle.std.proofs.lemmas.List.Elements.{All-nil, All-cons, All-head, All-tail}
use Rattle.std.proofs.lemmas.Bool.{eq-eqb, ne_eqb, cond-true, cond-false, cases_eq}
use Rattle.ring.specs.Algebra.{RingOn}
use Rattle.ring.proofs.Laws.{nought_plus, difference_nought, nought_difference}
use Rattle.matrix.specs.Cells.{entry, row_sum}
use Rattle.matrix.specs.Matrix.{Matrix}
use Rattle.matrix.proofs.Changed.{row_sum_added}
use Rattle.lowering.specs.declared.Location.{Location}
use Rattle.lowering.specs.Combination.{Comb, opposite}
use Rattle.lowering.specs.Rows.{Row, add_terms, add_row, add_rows}
use Rattle.lowering.proofs.Sums.{sum, sum_opposite}

module _ {M : Type 0} (R : RingOn M) (list : List M) (at : Location → ℕ) where
  -- a combination's sum over the list
  abbrev pub over : Comb M → M
  over c = sum R (λ p. entry R list (at p)) c

  abbrev total : ℕ → Matrix M → M
  total i m = row_sum R list i m.cells

  abbrev in_row : ℕ → ℕ → M → M
  in_row r i x = cond (eqb r i) x R.nought

  nothing : (b : Bool) → R.nought ≡ cond b R.nought R.nought
  nothing true = refl
  nothing false = refl

  both : (b : Bool) (x y : M) → R.plus (cond b x R.nought) (cond b y R.nought) ≡ cond b (R.plus x y) R.nought
  both true x y = refl
  both false x y = R.plus_nought R.nought

  total_terms : (i r : ℕ) (c : Comb M) (m : Matrix M) → total i (add_terms R at r c m) ≡ R.plus (total i m) (in_row r i (over c))
  total_terms i r [] m = sym (R.plus_nought (total i m)) ∙ ap (R.plus (total i m)) (nothing (eqb r i))
  total_terms i r (t ∷ c) m =
      let x = R.times t.weight (entry R list (at t.place)) in
      total_terms i r c _
      ∙ ap (λ u. R.plus u (in_row r i (over c))) (row_sum_added R list i r (at t.place) t.weight m.cells)
      ∙ R.plus_assoc (total i m) (in_row r i x) (in_row r i (over c))
      ∙ ap (R.plus (total i m)) (both (eqb r i) x (over c))

  total_row : (i r : ℕ) (w : Row M) (m : Matrix M) → total i (add_row R at r w m) ≡ R.plus (total i m) (in_row r i (R.plus (over w.0) (R.minus (over w.1))))
  total_row i r w m =
      total_terms i r (opposite R w.1) (add_terms R at r w.0 m)
      ∙ ap₂ R.plus (total_terms i r w.0 m) (ap (in_row r i) (sum_opposite R (λ p. entry R list (at p)) w.1))
      ∙ R.plus_assoc (total i m) _ _
      ∙ ap (R.plus (total i m)) (both (eqb r i) (over w.0) (R.minus (over w.1)))

  total_elsewhere : (i r : ℕ) (w : Row M) (m : Matrix M) → (r ≡ i → ⊥) → total i (add_row R at r w m) ≡ total i m
  total_elsewhere i r w m n = total_row i r w m ∙ ap (R.plus (total i m)) (cond-false (eqb r i) _ R.nought (ne_eqb r i n)) ∙ R.plus_nought (total i m)

  total_here : (r : ℕ) (w : Row M) (m : Matrix M) → total r (add_row R at r w m) ≡ R.plus (total r m) (R.plus (over w.0) (R.minus (over w.1)))
  total_here r w m = total_row r r w m ∙ ap (R.plus (total r m)) (cond-true (eqb r r) _ R.nought (eq-eqb r r refl))

  abbrev pub Even : Row M → Type 0
  Even w = over w.0 ≡ over w.1

  kept : (r i : ℕ) (ws : List (Row M)) (m : Matrix M) → i < r → total i (add_rows R at r ws m) ≡ total i m
  kept r i [] m h = refl
  kept r i (w ∷ ws) m h = kept (suc r) i ws (add_row R at r w m) (omega arith) ∙ total_elsewhere i r w m (λ e. omega arith)

  one_even : (r : ℕ) (w : Row M) (m : Matrix M) → Even w → (i : ℕ) → total i m ≡ R.nought → total i (add_row R at r w m) ≡ R.nought
  one_even r w m e i z = elim (cases_eq r i) [
    | inl q ↦ rw (← q) (total_here r w m ∙ ap₂ R.plus (rw (← q) at z) (nought_difference R (over w.0) (over w.1) e) ∙ R.plus_nought R.nought)
    | inr n ↦ total_elsewhere i r w m n ∙ z
  ]

  pub even_vanish : (r : ℕ) (ws : List (Row M)) (m : Matrix M) → All Even ws → ((i : ℕ) → total i m ≡ R.nought) → (i : ℕ) → total i (add_rows R at r ws m) ≡ R.nought
  even_vanish r [] m a z i = z i
  even_vanish r (w ∷ ws) m a z i = even_vanish (suc r) ws (add_row R at r w m) (All-tail Even w ws a) (λ j. one_even r w m (All-head Even w ws a) j (z j)) i

  pub vanish_even : (r : ℕ) (ws : List (Row M)) (m : Matrix M) → ((i : ℕ) → total i (add_rows R at r ws m) ≡ R.nought) → ((i : ℕ) → r ≤ i → total i m ≡ R.nought) → All Even ws
  vanish_even r [] m v z = All-nil Even
  vanish_even r (w ∷ ws) m v z =
      let now = sym (kept (suc r) r ws (add_row R at r w m) (omega arith)) ∙ v r in
      let d = R.plus (over w.0) (R.minus (over w.1)) in
      let e : d ≡ R.nought = sym (nought_plus R d) ∙ ap (λ u. R.plus u d) (sym (z r (omega arith))) ∙ sym (total_here r w m) ∙ now in
      All-cons Even w ws (difference_nought R (over w.0) (over w.1) e)
      (vanish_even (suc r) ws (add_row R at r w m) v (λ i l. total_elsewhere i r w m (λ q. omega arith) ∙ z i (omega arith)))

-- every place of a combination is such
abbrev pub InAll : {M : Type 0} → (Location → Type 0) → Comb M → Type 0
InAll P [] = Unit {0}
InAll P (t ∷ c) = P t.place × InAll P c

module _ {M : Type 0} (R : RingOn M) (at : Location → ℕ) (B : ℕ) where
  abbrev Covered : Location → Type 0
  Covered p = at p < B

  abbrev pub RowCovered : Row M → Type 0
  RowCovered w = InAll Covered w.0 × InAll Covered w.1

  in_opposite : (c : Comb M) → InAll Covered c → InAll Covered (opposite R c)
  in_opposite [] h = tt
  in_opposite (t ∷ c) h = (h.0, in_opposite c h.1)

  width_terms : (r : ℕ) (c : Comb M) (m : Matrix M) → InAll Covered c → m.width ≤ B → (add_terms R at r c m).width ≤ B
  width_terms r [] m h l = l
  width_terms r (t ∷ c) m h l = let k = h.0 in width_terms r c _ h.1 (max-le l (omega arith))

  pub width_rows : (r : ℕ) (ws : List (Row M)) (m : Matrix M) → All RowCovered ws → m.width ≤ B → (add_rows R at r ws m).width ≤ B
  width_rows r [] m h l = l
  width_rows r (w ∷ ws) m h l =
      let k = All-head RowCovered w ws h in
      width_rows (suc r) ws (add_row R at r w m) (All-tail RowCovered w ws h) (width_terms r (opposite R w.1) _ (in_opposite w.1 k.1) (width_terms r w.0 m k.0 l))
