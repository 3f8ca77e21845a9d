-- Every place of a finished lowering has a column, and the rows vanish exactly if their two sides agree.
use Rattle.std.proofs.Common.{◌≡◌, ℕ, zero, suc, ◌+◌, ◌*◌, ◌<◌, ◌≤◌, List, [], ◌∷◌, ◌++◌, map, length, get_or, Some, None, Option, Ordering, Less, Equal, Greater, sym, refl, ap, ◌∙◌, inl, inr, arith}
use Rattle.std.specs.List.{All}
use Rattle.std.proofs.Math.Seq.{take-append_seam, drop-append_seam}
use Rattle.std.proofs.lemmas.List.{get_or-map, length-map}
use Rattle.std.proofs.lemmas.List.Elements.{All-append, All-map, All-from_get_or, All-take, All-drop}
use Rattle.ring.specs.Algebra.{RingOn}
use Rattle.matrix.specs.Matrix.{empty}
use Rattle.circuit.specs.Verdict.{filled, RowsVanish}
use Rattle.worksheet.specs.declared.CircuitIdx.{CircuitIdx}
use Rattle.worksheet.specs.declared.CircuitIdx.TheVariants.{Constant, Witness, Node}
use Rattle.worksheet.specs.declared.CircuitNode.{CircuitNode}
use Rattle.worksheet.specs.Sheet.{Sheet, WellFormed, node_at, assertion_at, left_of, right_of}
use Rattle.lowering.specs.declared.Location.{Location}
use Rattle.lowering.specs.declared.Location.TheVariants.{One}
use Rattle.lowering.specs.Committed.{first}
use Rattle.lowering.specs.Combination.{Comb, single, scale, merge, choose, order}
use Rattle.lowering.specs.Lowering.{State, slot_or, comb_of, or_empty}
use Rattle.lowering.specs.Rows.{Row, assertion_row, note_row, rows, column, matrix_of}
use Rattle.lowering.proofs.Sums.{sum, sum_single}
use Rattle.lowering.proofs.Positions.{first_is}
use Rattle.lowering.proofs.Explains.{note_at, Stood, as_worked, as_slot, Worked, Explained, by_sum, by_left, by_right, by_gate, Placed, nowhere, on_left, on_right, on_slot, Noted, of_left, of_right, of_slot, Complete}
use Rattle.lowering.proofs.Grows.{stands}
use Rattle.lowering.proofs.Core.{Reach, below_reach, reach_of, worth, Agreeing}
use Rattle.lowering.proofs.Matrices.{InAll, over, Even, RowCovered, even_vanish, vanish_even, width_rows}
use Rattle.lowering.proofs.Entries.{InPlain, InRange, sum_entries, covered_all}

module _ {M : Type 0} (R : RingOn M) (P : Location → Type 0) where
  in_choose : (o : Ordering) (x y z : Comb M) → InAll P x → InAll P y → InAll P z → InAll P (choose o x y z)
  in_choose Less x y z p q r = p
  in_choose Equal x y z p q r = q
  in_choose Greater x y z p q r = r

  in_merge : (c d : Comb M) → InAll P c → InAll P d → InAll P (merge R c d)
  in_merge [] d a b = b
  in_merge (t ∷ c) [] a b = a
  in_merge (t ∷ c) (u ∷ d) a b =
      in_choose (order t.place u.place) _ _ _ (a.0, in_merge c (u ∷ d) a.1 b) (a.0, in_merge c d a.1 b.1) (b.0, in_merge (t ∷ c) d a b.1)

  in_scale : (x : M) (c : Comb M) → InAll P c → InAll P (scale R x c)
  in_scale x [] a = tt
  in_scale x (t ∷ c) a = (a.0, in_scale x c a.1)

map_each : {A B : Type 0} (P : A → Type 0) (f : B → A) (d : B) (xs : List B) → All P (map f xs) → (j : ℕ) → j < length xs → P (f (get_or xs j d))
map_each P f d xs a j l = rw (get_or-map f xs j d (f d) l) at (a j (f d) (omega (arith, length-map xs f)))

module _ {M : Type 0} (R : RingOn M) (S : Sheet M) (C : List CircuitIdx) (f : State M) (wf : WellFormed S) (done : Complete R S C f) where
  abbrev c : ℕ
  c = length C

  abbrev n : ℕ
  n = length f.gates

  abbrev In : Location → Type 0
  In p = InRange c n f.place p

  in_place : (w : ℕ) (p : Location) → Placed C f w p → InPlain c n p
  in_place w p (nowhere e) = rw e tt
  in_place w p (on_left k e l _) = rw e l
  in_place w p (on_right k e l _) = rw e l
  in_place w p (on_slot i e q) = rw e (first_is C w i q).0

  -- a witness's place is One, or there
  pub in_witness : (w : ℕ) → InPlain c n (f.place w)
  in_witness w = in_place w (f.place w) (done.explains.place w)

  in_home : (w : ℕ) (o : Option ℕ) → first C w ≡ o → In (slot_or (Location.Witness w) o)
  in_home w None e = in_witness w
  in_home w (Some i) e = (first_is C w i e).0

  abbrev Inside : CircuitIdx → Type 0
  Inside a = (d : Comb M) → Stood R C f a d → InAll In d

  in_node : (nd : CircuitNode) (d : Comb M) → Explained R S C f nd d → Inside (left_of nd) → Inside (right_of nd) → InAll In d
  in_node nd d (by_sum a b x y p sa sb q) hl hr =
      let ha : Inside a = rw p at hl in
      let hb : Inside b = rw p at hr in
      rw q (in_merge R In x y (ha x sa) (hb y sb))
  in_node nd d (by_left k b y p sb q) hl hr = let hb : Inside b = rw p at hr in rw q (in_scale R In _ y (hb y sb))
  in_node nd d (by_right a k x p sa q) hl hr = let ha : Inside a = rw p at hl in rw q (in_scale R In _ x (ha x sa))
  in_node nd d (by_gate a b k x y p sa sb q g na nb) hl hr = rw q (g.0, tt)

  inside : (N : ℕ) (a : CircuitIdx) → Reach N a → (d : Comb M) → Stood R C f a d → InAll In d
  inside N a b d (as_slot w i p h q x e) = rw q ((first_is C w i h).0, tt)
  inside N (Constant k) b d (as_worked e) = rw (done.explains.constant k d e) (tt, tt)
  inside N (Witness w) b d (as_worked e) = elim (done.explains.witness w d e).0 [
    | inl h ↦ rw h (in_home w (first C w) refl, tt)
    | inr n ↦ rw n.1 (n.2, tt)
  ]
  inside zero (Node m) b d (as_worked e) = absurd (omega arith)
  inside (suc N) (Node m) b d (as_worked e) =
      let x = done.explains.node m d e in
      in_node (node_at S m) d x.1 (inside N (left_of (node_at S m)) (below_reach S m N (left_of (node_at S m)) b (wf.earlier_left m x.0)))
      (inside N (right_of (node_at S m)) (below_reach S m N (right_of (node_at S m)) b (wf.earlier_right m x.0)))

  in_final : (a : CircuitIdx) → Worked R C f a → InAll In (comb_of f a)
  in_final a w =
      let k = stands R C f a w.0 w.1 in
      let e : comb_of f a ≡ k.0 = ap or_empty k.1 in
      let s : Stood R C f a k.0 = as_worked k.1 in
      rw e (inside (length S.nodes) a (reach_of R S C f done.explains a k.0 s) k.0 s)

  in_noted : (a : CircuitIdx) (p : Location) → Noted C f a p → In p
  in_noted a p (of_left k e l _) = rw e l
  in_noted a p (of_right k e l _) = rw e l
  in_noted a p (of_slot i e l _) = rw e l

  in_assertion : (j : ℕ) → j < length S.assertions → InAll In (comb_of f (assertion_at S j).0) × InAll In (comb_of f (assertion_at S j).1)
  in_assertion j h = (in_final (assertion_at S j).0 (done.asserted_left j h), in_final (assertion_at S j).1 (done.asserted_right j h))

  in_note : (j : ℕ) → j < length f.notes → InAll In (comb_of f (note_at f j).0) × InAll In (single R (note_at f j).1)
  in_note j h = let n = done.explains.noted j h in (in_final (note_at f j).0 n.1, (in_noted (note_at f j).0 (note_at f j).1 n.0, tt))

  -- what holds of each assertion's row and of each noted row holds of all rows, and the other way
  module _ (P : Row M → Type 0) where
    rows_all : ((j : ℕ) → j < length S.assertions → P (assertion_row f (assertion_at S j))) → ((j : ℕ) → j < length f.notes → P (note_row R f (note_at f j))) → All P (rows R S f)
    rows_all a b =
        All-append P (map (assertion_row f) S.assertions) (map (note_row R f) f.notes)
        (All-map P (assertion_row f) S.assertions (All-from_get_or (λ p. P (assertion_row f p)) S.assertions (Constant 0, Constant 0) a))
        (All-map P (note_row R f) f.notes (All-from_get_or (λ p. P (note_row R f p)) f.notes (Constant 0, One) b))

    rows_each : All P (rows R S f) → ((j : ℕ) → j < length S.assertions → P (assertion_row f (assertion_at S j))) × ((j : ℕ) → j < length f.notes → P (note_row R f (note_at f j)))
    rows_each h =
        let xs = map (assertion_row f) S.assertions in
        let ys = map (note_row R f) f.notes in
        let first : All P xs = rw (take-append_seam xs ys) at (All-take P (length xs) (xs ++ ys) h) in
        let rest : All P ys = rw (drop-append_seam xs ys) at (All-drop P (length xs) (xs ++ ys) h) in
        (map_each P (assertion_row f) (Constant 0, Constant 0) S.assertions first, map_each P (note_row R f) (Constant 0, One) f.notes rest)

  abbrev at : Location → ℕ
  at = column 1 f.place c n

  pub width_fits : (matrix_of R S C f).width ≤ 1 + c + 3 * n
  width_fits =
      width_rows R at (1 + c + 3 * n) 0 (rows R S f) empty
      (rows_all (RowCovered R at (1 + c + 3 * n))
      (λ j h. let i = in_assertion j h in (covered_all c n f.place _ i.0, covered_all c n f.place _ i.1))
      (λ j h. let i = in_note j h in (covered_all c n f.place _ i.0, covered_all c n f.place (single R (note_at f j).1) i.1)))
      (omega arith)

  module _ (v l r : List M) (v_size : length v ≡ c) (l_size : length l ≡ n) (r_size : length r ≡ n) where
    abbrev all : List M
    all = filled R v l r

    abbrev by_column : Comb M → M
    by_column d = over R all at d

    abbrev by_place : Comb M → M
    by_place d = sum R (worth R v l r f.place) d

    meets : (d : Comb M) → InAll In d → by_column d ≡ by_place d
    meets d h = sum_entries R v l r c n f.place v_size l_size r_size d h

    at_note : (j : ℕ) → j < length f.notes → by_column (single R (note_at f j).1) ≡ worth R v l r f.place (note_at f j).1
    at_note j h = meets (single R (note_at f j).1) (in_note j h).1 ∙ sum_single R (worth R v l r f.place) (note_at f j).1

    pub agreeing_vanish : Agreeing R S f v l r → RowsVanish R (matrix_of R S C f) all
    agreeing_vanish sat =
        even_vanish R all at 0 (rows R S f) empty
        (rows_all (Even R all at)
        (λ j h. let i = in_assertion j h in meets _ i.0 ∙ sat.asserted j h ∙ sym (meets _ i.1))
        (λ j h. meets _ (in_note j h).0 ∙ sat.noted j h ∙ sym (at_note j h)))
        (λ i. refl)

    pub vanish_agreeing : RowsVanish R (matrix_of R S C f) all → Agreeing R S f v l r
    vanish_agreeing z =
        let e = rows_each (Even R all at) (vanish_even R all at 0 (rows R S f) empty z (λ i l. refl)) in
        record {
          asserted = λ j h. let i = in_assertion j h in sym (meets _ i.0) ∙ e.0 j h ∙ meets _ i.1;
          noted = λ j h. sym (meets _ (in_note j h).0) ∙ e.1 j h ∙ at_note j h;
        }
