-- The verdict is yes exactly when the paper's constraint system holds.
use Rattle.std.proofs.Common.{◌≡◌, ℕ, zero, suc, ◌+◌, ◌*◌, ◌≤◌, Bool, true, List, [], ◌∷◌, ◌++◌, map, length, get_or, Decides, sym, refl, ap, ◌∙◌, inl, inr, arith}
use Rattle.std.specs.List.{range_with_len}
use Rattle.std.proofs.lemmas.List.FromFn.{get_or-map-range_with_len}
use Rattle.std.proofs.lemmas.Bool.{cases_lt}
use Rattle.std.proofs.lemmas.Bool.Decides.{Decides-like}
use Rattle.ring.specs.Algebra.{RingOn}
use Rattle.ring.proofs.Laws.{minus_plus, minus_plus_distributes, nought_sum_moves}
use Rattle.matrix.specs.Cells.{in_order, covers, weight_at, row_sum}
use Rattle.matrix.specs.Matrix.{Matrix}
use Rattle.matrix.proofs.Order.{order_holds}
use Rattle.circuit.specs.Bulletproofs.{dot, apply, sum, hadamard, Linear, Holds}
use Rattle.circuit.specs.Verdict.{columns, RowsVanish, Satisfied, system_of}
use Rattle.circuit.proofs.Dots.{dot_minus, dot_append}
use Rattle.circuit.proofs.DenseRows.{row_sum_dot, row_sum_past}

map_same : {A B : Type 0} (f g : A → B) (xs : List A) → ((x : A) → f x ≡ g x) → map f xs ≡ map g xs
map_same f g [] e = refl
map_same f g (x ∷ xs) e = let here = e x in let rest = map_same f g xs e in cc

module _ {M : Type 0} (R : RingOn M) where
  regroup : (z a l r o : M)
      → R.plus z (R.plus a (R.plus l (R.plus r o))) ≡ R.plus (R.plus (R.plus l r) o) (R.plus a z)
  regroup z a l r o =
      let p = R.plus_assoc l r o in
      let s = R.plus (R.plus l r) o in
      let q = R.plus_assoc z a s in
      let c = R.plus_comm (R.plus z a) s in
      let d = R.plus_comm z a in
      cc

  -- a sum is zero exactly when its parts z and a, on the other side and negated, equal the rest
  moves : (z a l r o : M)
      → R.plus z (R.plus a (R.plus l (R.plus r o))) ≡ R.nought
      → R.plus (R.plus l r) o ≡ R.plus (R.minus a) (R.minus z)
  moves z a l r o e =
      nought_sum_moves R (R.plus (R.plus l r) o) (R.plus a z) (sym (regroup z a l r o) ∙ e) ∙ minus_plus_distributes R a z

  moves_back : (z a l r o : M)
      → R.plus (R.plus l r) o ≡ R.plus (R.minus a) (R.minus z)
      → R.plus z (R.plus a (R.plus l (R.plus r o))) ≡ R.nought
  moves_back z a l r o e =
      let p = regroup z a l r o in
      let q = minus_plus_distributes R a z in
      let s = minus_plus R (R.plus a z) in
      cc

  -- both sides of the linear constraints, row by row
  left_by_rows : (A B C : ℕ → List M) (l r o : List M) (qs : List ℕ)
      → sum R (sum R (apply R (map A qs) l) (apply R (map B qs) r)) (apply R (map C qs) o)
      ≡ map (λ q. R.plus (R.plus (dot R (A q) l) (dot R (B q) r)) (dot R (C q) o)) qs
  left_by_rows A B C l r o [] = refl
  left_by_rows A B C l r o (q ∷ qs) =
      ap (λ (ys : List M). R.plus (R.plus (dot R (A q) l) (dot R (B q) r)) (dot R (C q) o) ∷ ys) (left_by_rows A B C l r o qs)

  right_by_rows : (A : ℕ → List M) (f : ℕ → M) (v : List M) (qs : List ℕ)
      → sum R (apply R (map (map R.minus) (map A qs)) v) (map (λ q. R.minus (f q)) qs)
      ≡ map (λ q. R.plus (R.minus (dot R (A q) v)) (R.minus (f q))) qs
  right_by_rows A f v [] = refl
  right_by_rows A f v (q ∷ qs) =
      let here = dot_minus R (A q) v in
      let rest = right_by_rows A f v qs in
      cc

  module _ (m : Matrix M) (c n : ℕ) (v l r o : List M)
      (order : in_order m.cells ≡ true) (cover : covers m.height m.width m.cells ≡ true) (fits : m.width ≤ 1 + c + 3 * n)
      (v_size : length v ≡ c) (l_size : length l ≡ n) (r_size : length r ≡ n) where
    abbrev at : ℕ → ℕ → M
    at q j = weight_at R q j m.cells

    -- row q's weights in k columns, times xs
    abbrev dots : ℕ → ℕ → ℕ → List M → M
    dots q from k xs = dot R (map (at q) (range_with_len from k)) xs

    -- the two sides of the linear constraint of row q
    abbrev left : ℕ → M
    left q = R.plus (R.plus (dots q (1 + c) n l) (dots q (1 + c + n) n r)) (dots q (1 + c + n + n) n o)

    abbrev right : ℕ → M
    right q = R.plus (R.minus (dots q 1 c v)) (R.minus (at q 0))

    row_parts : (q : ℕ)
        → row_sum R (columns R v l r o) q m.cells
        ≡ R.plus (at q 0) (R.plus (dots q 1 c v) (R.plus (dots q (1 + c) n l) (R.plus (dots q (1 + c + n) n r) (dots q (1 + c + n + n) n o))))
    row_parts q =
        let whole = row_sum_dot R m.height m.width (1 + c + 3 * n) q (columns R v l r o) m.cells (order_holds m.cells order) cover fits in
        let p1 = dot_append R (at q) 0 1 1 (c + 3 * n) (1 + c + 3 * n) (R.unit ∷ []) (v ++ (l ++ (r ++ o))) refl (omega arith) refl in
        let p2 = dot_append R (at q) 1 (1 + c) c (3 * n) (c + 3 * n) v (l ++ (r ++ o)) v_size refl refl in
        let p3 = dot_append R (at q) (1 + c) (1 + c + n) n (n + n) (3 * n) l (r ++ o) l_size (omega arith) refl in
        let p4 = dot_append R (at q) (1 + c + n) (1 + c + n + n) n n (n + n) r o r_size refl refl in
        let unit = R.times_unit (at q 0) in
        let one = R.plus_nought (at q 0) in
        cc

    left_is :
        sum R (sum R (apply R (system_of R m c n).W_L l) (apply R (system_of R m c n).W_R r)) (apply R (system_of R m c n).W_O o)
        ≡ map left (range_with_len 0 m.height)
    left_is =
        left_by_rows (λ q. map (at q) (range_with_len (1 + c) n)) (λ q. map (at q) (range_with_len (1 + c + n) n)) (λ q. map (at q) (range_with_len (1 + c + n + n) n))
        l r o (range_with_len 0 m.height)

    right_is : sum R (apply R (system_of R m c n).W_V v) (system_of R m c n).c ≡ map right (range_with_len 0 m.height)
    right_is = right_by_rows (λ q. map (at q) (range_with_len 1 c)) (λ q. at q 0) v (range_with_len 0 m.height)

    forth : RowsVanish R m (columns R v l r o) → Linear R (system_of R m c n) v l r o
    forth rows =
        left_is
        ∙ map_same left right (range_with_len 0 m.height)
        (λ q. moves (at q 0) (dots q 1 c v) (dots q (1 + c) n l) (dots q (1 + c + n) n r) (dots q (1 + c + n + n) n o) (sym (row_parts q) ∙ rows q))
        ∙ sym right_is

    back : Linear R (system_of R m c n) v l r o → RowsVanish R m (columns R v l r o)
    back linear q =
        elim (cases_lt q m.height) [
          | inl lt ↦
              let same = sym (get_or-map-range_with_len left 0 m.height q q R.nought lt (omega arith))
              ∙ ap (λ (ys : List M). get_or ys q R.nought) (sym left_is ∙ linear ∙ right_is)
              ∙ get_or-map-range_with_len right 0 m.height q q R.nought lt (omega arith) in
              row_parts q ∙ moves_back (at q 0) (dots q 1 c v) (dots q (1 + c) n l) (dots q (1 + c + n) n r) (dots q (1 + c + n + n) n o) same
          | inr le ↦ row_sum_past R m.height m.width q (columns R v l r o) m.cells cover le
        ]

length_hadamard : {M : Type 0} (R : RingOn M) (n : ℕ) (l r : List M) → length l ≡ n → length r ≡ n → length (hadamard R l r) ≡ n
length_hadamard R n [] r p q = p
length_hadamard R n (x ∷ l) [] p q = absurd (omega arith)
length_hadamard R zero (x ∷ l) (y ∷ r) p q = absurd (omega arith)
length_hadamard R (suc n) (x ∷ l) (y ∷ r) p q = ap suc (length_hadamard R n l r (omega arith) (omega arith))

-- the verdict, whose out is left times right, and the paper's constraint system say the same
module _ {M : Type 0} (R : RingOn M) (m : Matrix M) (c n : ℕ) (v l r : List M)
    (order : in_order m.cells ≡ true) (cover : covers m.height m.width m.cells ≡ true) where
  abbrev Paper : Type 0
  Paper = (m.width ≤ 1 + c + 3 * n) × Holds R (system_of R m c n) v l r (hadamard R l r)

  verdict_paper : Satisfied R m c n v l r → Paper
  verdict_paper s = (
    s.fits,
    record {
      v_size = s.v_size;
      left_size = s.left_size;
      right_size = s.right_size;
      out_size = length_hadamard R n l r s.left_size s.right_size;
      linear = forth R m c n v l r (hadamard R l r) order cover s.fits s.v_size s.left_size s.right_size s.rows;
      gates = refl;
    },
  )

  paper_verdict : Paper → Satisfied R m c n v l r
  paper_verdict (fits, h) = record {
    v_size = h.v_size;
    left_size = h.left_size;
    right_size = h.right_size;
    fits = fits;
    rows = back R m c n v l r (hadamard R l r) order cover fits h.v_size h.left_size h.right_size h.linear;
  }

  pub decides_filled : (b : Bool) → Decides b (Satisfied R m c n v l r) → Decides b Paper
  decides_filled b says = Decides-like b verdict_paper paper_verdict says
