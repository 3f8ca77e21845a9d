-- The walk, and all of lowering, keep what is explained.
use Rattle.std.proofs.Common.{◌≡◌, ℕ, zero, suc, ◌+◌, ◌<◌, ◌≤◌, true, false, List, [], ◌∷◌, length, get_or, Some, None, Option, sym, refl, ap, ◌∙◌, subst, inl, inr, arith}
use Rattle.std.proofs.lemmas.Bool.{eqb-true, cond_both}
use Rattle.ring.specs.Algebra.{RingOn}
use Rattle.worksheet.specs.declared.CircuitIdx.{CircuitIdx}
use Rattle.worksheet.specs.declared.CircuitIdx.TheVariants.{Constant, Witness, Node}
use Rattle.worksheet.specs.declared.CircuitNode.{CircuitNode}
use Rattle.worksheet.specs.declared.CircuitNode.TheVariants.{Add, Mul}
use Rattle.worksheet.specs.Sheet.{Sheet, WellFormed, Below, Present, node_at, assertion_at, left_of, right_of}
use Rattle.worksheet.specs.Calls.{constant_of, element}
use Rattle.lowering.specs.declared.Location.TheVariants.{One, Left, Right, Output, Committed}
use Rattle.lowering.specs.declared.Gate.{Gate}
use Rattle.lowering.specs.Committed.{entry_at, first, at_position}
use Rattle.lowering.specs.Combination.{Comb, single, scale, merge}
use Rattle.lowering.specs.Lowering.{State, start, slot_or, comb_of, or_empty, unless, put, add_gate, add_note, settle, product, multiply, work, walk, walk_assertions, homeless, homeless_from, gate_of, house, anchor, anchor_first, walk_committed, after_assertions, finished}
use Rattle.lowering.proofs.Explains.{gate_at, Stood, as_worked, Worked, IsNoted, Explained, by_sum, by_left, by_right, by_gate, Placed, nowhere, on_left, on_right, on_slot, of_left, of_right, of_slot, Explains, Complete}
use Rattle.lowering.proofs.Grows.{
  Grows,
  grows_refl,
  grows_trans,
  grows_put,
  grows_gate,
  gate_last,
  grows_note,
  note_last,
  grows_settle,
  grows_anchor,
  put_same,
  put_new,
  stands,
  stood_up,
  worked_up,
  is_noted_up,
  explains_put,
  explains_gate,
  explains_note,
  explains_settle,
  explains_anchor,
  New,
}
use Rattle.lowering.proofs.Along.{raise, Each, Unanchored, walk_above, walk_home, assertions_home, house_home}

constant_is : (a : CircuitIdx) (k : ℕ) → constant_of a ≡ Some k → a ≡ Constant k
constant_is (Constant m) k e = cc
constant_is (Witness m) k e = cc
constant_is (Node m) k e = cc

-- from s to t only additions, all explained, and a is worked
record Went {M : Type 0} (R : RingOn M) (S : Sheet M) (C : List CircuitIdx) (s t : State M) (a : CircuitIdx) : Type 0 where
  pub grows : Grows R C s t
  pub explains : Explains R S C t
  pub worked : Worked R C t a

module _ {M : Type 0} (R : RingOn M) (S : Sheet M) (C : List CircuitIdx) where
  stood_now : (s : State M) (a : CircuitIdx) → Worked R C s a → Stood R C s a (comb_of s a)
  stood_now s a w =
      let k = stands R C s a w.0 w.1 in
      let e : comb_of s a ≡ k.0 = ap or_empty k.1 in
      rw e (as_worked k.1)

  -- a new combination is put
  put_went : (s : State M) (a : CircuitIdx) (c : Comb M) → s.comb a ≡ None → Explains R S C s → New R S C (put a c s) a c → Went R S C s (put a c s) a
  put_went s a c n ex new = record {
    grows = grows_put R C a c s n;
    explains = explains_put R S C a c s n ex new;
    worked = (c, as_worked (put_same R C a c s));
  }

  module _ (s : State M) (n : ℕ) (a b : CircuitIdx) (inside : n < length S.nodes) (fresh : s.comb (Node n) ≡ None) (ex : Explains R S C s) (wa : Worked R C s a) (wb : Worked R C s b) where
    -- what node n is put to, from combinations that stand
    node_went : (c : Comb M) → (Grows R C s (put (Node n) c s) → Explained R S C (put (Node n) c s) (node_at S n) c) → Went R S C s (put (Node n) c s) (Node n)
    node_went c how = put_went s (Node n) c fresh ex (inside, how (grows_put R C (Node n) c s fresh))

    stood_in : (x : CircuitIdx) → Worked R C s x → (c : Comb M) → Grows R C s (put (Node n) c s) → Stood R C (put (Node n) c s) x (comb_of s x)
    stood_in x w c g = stood_up R C s (put (Node n) c s) g x (comb_of s x) (stood_now s x w)

    add_went : node_at S n ≡ Add a b → Went R S C s (put (Node n) (merge R (comb_of s a) (comb_of s b)) s) (Node n)
    add_went e = let c = merge R (comb_of s a) (comb_of s b) in node_went c (λ g. by_sum a b (comb_of s a) (comb_of s b) e (stood_in a wa c g) (stood_in b wb c g) refl)

    left_went : (k : ℕ) → node_at S n ≡ Mul a b → a ≡ Constant k → Went R S C s (put (Node n) (scale R (element R S k) (comb_of s b)) s) (Node n)
    left_went k e q = let c = scale R (element R S k) (comb_of s b) in node_went c (λ g. by_left k b (comb_of s b) (e ∙ ap (λ x. Mul x b) q) (stood_in b wb c g) refl)

    right_went : (k : ℕ) → node_at S n ≡ Mul a b → b ≡ Constant k → Went R S C s (put (Node n) (scale R (element R S k) (comb_of s a)) s) (Node n)
    right_went k e q = let c = scale R (element R S k) (comb_of s a) in node_went c (λ g. by_right a k (comb_of s a) (e ∙ ap (λ x. Mul a x) q) (stood_in a wa c g) refl)

    product_went : node_at S n ≡ Mul a b → Went R S C s (product R n a b s) (Node n)
    product_went e =
        let k = length s.gates in
        let gt : Gate = record { left = a; right = Some b; product = Some (Node n) } in
        let c = single R (Output k) in
        let s1 = add_gate gt s in
        let s2 = settle a (Left k) s1 in
        let s3 = settle b (Right k) s2 in
        let s4 = add_note a (Left k) s3 in
        let s5 = add_note b (Right k) s4 in
        let s6 = put (Node n) c s5 in
        let last = gate_last R C gt s in
        let lt : k < length s1.gates = last.0 in
        let lf : (gate_at s1 k).left ≡ a = ap (λ x. x.left) last.1 in
        let rt : (gate_at s1 k).right ≡ Some b = ap (λ x. x.right) last.1 in
        let e1 = explains_gate R S C gt s ex in
        let e2 = explains_settle R S C a (Left k) s1 e1 (λ w q. on_left k refl lt (lf ∙ q)) in
        let e3 = explains_settle R S C b (Right k) s2 e2 (λ w q. on_right k refl lt (rt ∙ ap Some q)) in
        let g3 = grows_trans R C s s1 s3 (grows_gate R C gt s) (grows_trans R C s1 s2 s3 (grows_settle R C a (Left k) s1) (grows_settle R C b (Right k) s2)) in
        let e4 = explains_note R S C a (Left k) s3 e3 (of_left k refl lt lf) (worked_up R S C s s3 g3 a wa) in
        let g4 = grows_trans R C s s3 s4 g3 (grows_note R C a (Left k) s3) in
        let e5 = explains_note R S C b (Right k) s4 e4 (of_right k refl lt rt) (worked_up R S C s s4 g4 b wb) in
        let g5 = grows_trans R C s s4 s5 g4 (grows_note R C b (Right k) s4) in
        let g56 = grows_put R C (Node n) c s5 fresh in
        let g6 = grows_trans R C s s5 s6 g5 g56 in
        let g46 = grows_trans R C s4 s5 s6 (grows_note R C b (Right k) s4) g56 in
        record {
          grows = g6;
          explains = explains_put R S C (Node n) c s5 fresh e5 (
            inside,
            by_gate a b k wa.0 wb.0 e (stood_up R C s s6 g6 a wa.0 wa.1) (stood_up R C s s6 g6 b wb.0 wb.1) refl
                (lt, lf, rt) (is_noted_up R S C s4 s6 g46 a (Left k) (note_last R C a (Left k) s3)) (is_noted_up R S C s5 s6 g56 b (Right k) (note_last R C b (Right k) s4)),
          );
          worked = (c, as_worked (put_same R C (Node n) c s5));
        }

    multiply_went : (o q : Option ℕ) → constant_of a ≡ o → constant_of b ≡ q → node_at S n ≡ Mul a b → Went R S C s (multiply R S n a b o q s) (Node n)
    multiply_went (Some k) q x y e = left_went k e (constant_is a k x)
    multiply_went None (Some k) x y e = right_went k e (constant_is b k y)
    multiply_went None None x y e = product_went e

  work_went : (s : State M) (n : ℕ) (nd : CircuitNode) → node_at S n ≡ nd → n < length S.nodes → s.comb (Node n) ≡ None → Explains R S C s → Worked R C s (left_of nd) → Worked R C s (right_of nd) → Went R S C s (work R S n nd s) (Node n)
  work_went s n (Add a b) e inside fresh ex wa wb = add_went s n a b inside fresh ex wa wb e
  work_went s n (Mul a b) e inside fresh ex wa wb = multiply_went s n a b inside fresh ex wa wb (constant_of a) (constant_of b) refl refl e

  -- an id that is worked already is passed over
  unless_went : (s t : State M) (a : CircuitIdx) (o : Option (Comb M)) → s.comb a ≡ o → Explains R S C s → (s.comb a ≡ None → Went R S C s t a) → Went R S C s (unless o s t) a
  unless_went s t a (Some c) e ex h = record { grows = grows_refl R C s; explains = ex; worked = (c, as_worked e) }
  unless_went s t a None e ex h = h e

  went_on : (s u t : State M) (a : CircuitIdx) → Grows R C s u → Went R S C u t a → Went R S C s t a
  went_on s u t a g w = record { grows = grows_trans R C s u t g w.grows; explains = w.explains; worked = w.worked }

  module _ (wf : WellFormed S) where
    walk_went : (N : ℕ) (a : CircuitIdx) (s : State M) → N ≤ length S.nodes → Below S N a → Explains R S C s → Went R S C s (walk R S C N a s) a
    walk_went N (Constant k) s l b ex = unless_went s _ (Constant k) (s.comb (Constant k)) refl ex (λ e. put_went s (Constant k) _ e ex refl)
    walk_went N (Witness w) s l b ex = unless_went s _ (Witness w) (s.comb (Witness w)) refl ex (λ e. put_went s (Witness w) _ e ex (inl refl, b))
    walk_went zero (Node n) s l b ex = absurd (omega arith)
    walk_went (suc N) (Node n) s l b ex =
        let inside : n < length S.nodes = omega arith in
        let x = left_of (node_at S n) in
        let y = right_of (node_at S n) in
        let bx = wf.earlier_left n inside in
        let by = wf.earlier_right n inside in
        let s1 = walk R S C N x s in
        let s2 = walk R S C N y s1 in
        let w1 = walk_went N x s (omega arith) (raise S n N x (omega arith) bx) ex in
        let w2 = walk_went N y s1 (omega arith) (raise S n N y (omega arith) by) w1.explains in
        let g = grows_trans R C s s1 s2 w1.grows w2.grows in
        let still = walk_above R S C wf N n n y s1 by (omega arith) (omega arith) ∙ walk_above R S C wf N n n x s bx (omega arith) (omega arith) in
        unless_went s _ (Node n) (s.comb (Node n)) refl ex
        (λ e. went_on s s2 _ (Node n) g
        (work_went s2 n (node_at S n) refl inside (still ∙ e) w2.explains (worked_up R S C s1 s2 w2.grows x w1.worked) w2.worked))

    assertions_went : (ps : List (CircuitIdx × CircuitIdx)) (s : State M) → Each S ps → Explains R S C s →
        let t = walk_assertions R S C ps s in
        Grows R C s t × Explains R S C t
        × ((j : ℕ) → j < length ps → Worked R C t (get_or ps j (Constant 0, Constant 0)).0 × Worked R C t (get_or ps j (Constant 0, Constant 0)).1)
    assertions_went [] s pr ex = (grows_refl R C s, ex, λ j h. absurd (omega arith))
    assertions_went (p ∷ ps) s pr ex =
        let N = length S.nodes in
        let s1 = walk R S C N p.0 s in
        let s2 = walk R S C N p.1 s1 in
        let t = walk_assertions R S C ps s2 in
        let here = pr 0 (omega arith) in
        let w1 = walk_went N p.0 s (omega arith) here.0 ex in
        let w2 = walk_went N p.1 s1 (omega arith) here.1 w1.explains in
        let r = assertions_went ps s2 (λ j h. pr (suc j) (omega arith)) w2.explains in
        let g2 = grows_trans R C s1 s2 t w2.grows r.0 in (
          grows_trans R C s s1 t w1.grows g2,
          r.1,
          λ j. elim j as (λ j. j < length (p ∷ ps) → Worked R C t (get_or (p ∷ ps) j (Constant 0, Constant 0)).0 × Worked R C t (get_or (p ∷ ps) j (Constant 0, Constant 0)).1) [
            | zero ↦ λ h. (worked_up R S C s1 t g2 p.0 w1.worked, worked_up R S C s2 t r.0 p.1 w2.worked)
            | suc m ↦ λ h. r.2 m (omega arith)
          ],
        )

  housed_one : (w : ℕ) (o : Option CircuitIdx) (s : State M) → Explains R S C s → Explains R S C (settle (Witness w) (Left (length s.gates)) (add_gate (gate_of (Witness w) o) s))
  housed_one w o s ex =
      let gt = gate_of (Witness w) o in
      let k = length s.gates in
      let last = gate_last R C gt s in
      explains_settle R S C (Witness w) (Left k) (add_gate gt s) (explains_gate R S C gt s ex) (λ u q. on_left k refl last.0 (ap (λ x. x.left) last.1 ∙ q))

  house_went : (ws : List ℕ) (s : State M) → Explains R S C s → Grows R C s (house ws s) × Explains R S C (house ws s)
  house_went [] s ex = (grows_refl R C s, ex)
  house_went (w ∷ []) s ex =
      let gt = gate_of (Witness w) None in
      let s1 = add_gate gt s in
      let k = length s.gates in
      (grows_trans R C s s1 (settle (Witness w) (Left k) s1) (grows_gate R C gt s) (grows_settle R C (Witness w) (Left k) s1), housed_one w None s ex)
  house_went (w ∷ (u ∷ ws)) s ex =
      let gt = gate_of (Witness w) (Some (Witness u)) in
      let k = length s.gates in
      let s1 = add_gate gt s in
      let s2 = settle (Witness w) (Left k) s1 in
      let s3 = settle (Witness u) (Right k) s2 in
      let last = gate_last R C gt s in
      let e3 = explains_settle R S C (Witness u) (Right k) s2 (housed_one w (Some (Witness u)) s ex) (λ v q. on_right k refl last.0 (ap (λ x. x.right) last.1 ∙ ap Some q)) in
      let r = house_went ws s3 e3 in
      let g3 = grows_trans R C s s1 s3 (grows_gate R C gt s) (grows_trans R C s1 s2 s3 (grows_settle R C (Witness w) (Left k) s1) (grows_settle R C (Witness u) (Right k) s2)) in
      (grows_trans R C s s3 (house ws s3) g3 r.0, r.1)

  -- an entry of the committed list that is at its first position still stands for its slot
  module _ (i w : ℕ) (s : State M) (first_is : first C w ≡ Some i) (un : Unanchored R C i s) (wk : Worked R C s (Witness w)) (l : w < S.witnesses) (ex : Explains R S C s) where
    abbrev gt : Gate
    gt = gate_of (Witness w) None

    abbrev s1 : State M
    s1 = add_gate gt s

    slot : s.comb (Witness w) ≡ Some (single R (Committed i))
    slot = let y = stands R C s (Witness w) wk.0 wk.1 in y.1 ∙ ap Some (un w i y.0 first_is (omega arith) y.1)

    anchor_grows : Grows R C s (anchor R w s)
    anchor_grows = grows_trans R C s s1 (anchor R w s) (grows_gate R C gt s) (grows_anchor R C w i (single R (Left (length s.gates))) s1 slot first_is)

    anchor_explains : Explains R S C (anchor R w s)
    anchor_explains =
        let last = gate_last R C gt s in
        explains_anchor R S C w i (single R (Left (length s.gates))) s1 slot first_is (explains_gate R S C gt s ex)
        (inr (length s.gates, refl, last.0, ap (λ x. x.left) last.1, (i, first_is)), l)

    anchor_next : Unanchored R C (suc i) (anchor R w s)
    anchor_next v j c f h e = elim (put_new R C (Witness w) (single R (Left (length s.gates))) s1 (Witness v) c e) [
      | inl q ↦ (let same : v ≡ w = cc in let at : Some j ≡ Some i = sym f ∙ ap (first C) same ∙ first_is in let k : j ≡ i = cc in absurd (omega arith))
      | inr q ↦ un v j c f (omega arith) q
    ]

  -- what the anchoring of one entry comes to
  abbrev Steps : ℕ → State M → State M → Type 0
  Steps i s t = Grows R C s t × Explains R S C t × Unanchored R C (suc i) t

  -- an entry whose first position is not i leaves the later ones as they were
  passed : (i : ℕ) (s : State M) → Unanchored R C i s → Unanchored R C (suc i) s
  passed i s un w j c f h e = un w j c f (omega arith) e

  at_first : (o : Option ℕ) (i : ℕ) → at_position o i ≡ true → o ≡ Some i
  at_first None i e = cc
  at_first (Some j) i e = ap Some (eqb-true j i e)

  first_went : (i : ℕ) (a : CircuitIdx) (s : State M) → Unanchored R C i s → Worked R C s a → Present S a → Explains R S C s → Steps i s (anchor_first R C i a s)
  first_went i (Constant k) s un wk pr ex = (grows_refl R C s, ex, passed i s un)
  first_went i (Witness w) s un wk pr ex =
      cond_both (at_position (first C w) i) (anchor R w s) s (Steps i s)
      (λ e. let f = at_first (first C w) i e in (anchor_grows i w s f un wk pr ex, anchor_explains i w s f un wk pr ex, anchor_next i w s f un wk pr ex))
      (λ e. (grows_refl R C s, ex, passed i s un))
  first_went i (Node n) s un wk pr ex = (grows_refl R C s, ex, passed i s un)

  module _ (wf : WellFormed S) (present : (i : ℕ) → i < length C → Present S (entry_at C i)) where
    -- one entry of the committed list
    entry_went : (i : ℕ) (a : CircuitIdx) (s : State M) → i < length C → entry_at C i ≡ a → Unanchored R C i s → Explains R S C s →
        let t = add_note a (Committed i) (anchor_first R C i a (walk R S C (length S.nodes) a s)) in
        Grows R C s t × Explains R S C t × IsNoted t a (Committed i) × Unanchored R C (suc i) t
    entry_went i a s inside here un ex =
        let N = length S.nodes in
        let s1 = walk R S C N a s in
        let s2 = anchor_first R C i a s1 in
        let s3 = add_note a (Committed i) s2 in
        let pr : Present S a = subst (λ x. Present S x) here (present i inside) in
        let w1 = walk_went wf N a s (omega arith) pr ex in
        let w2 = first_went i a s1 (walk_home R S C wf i N a s pr un) w1.worked pr w1.explains in
        let e3 = explains_note R S C a (Committed i) s2 w2.1 (of_slot i refl inside here) (worked_up R S C s1 s2 w2.0 a w1.worked) in
        (grows_trans R C s s1 s3 w1.grows (grows_trans R C s1 s2 s3 w2.0 (grows_note R C a (Committed i) s2)), e3, note_last R C a (Committed i) s2, w2.2)

    abbrev Tied : ℕ → List CircuitIdx → State M → Type 0
    Tied i D t = (m : ℕ) → m < length D → IsNoted t (entry_at D m) (Committed (i + m))

    tied_more : (i : ℕ) (a : CircuitIdx) (D : List CircuitIdx) (s t : State M) → Grows R C s t → IsNoted s a (Committed i) → Tied (suc i) D t → Tied i (a ∷ D) t
    tied_more i a D s t g n r zero h = let q : i + 0 ≡ i = omega arith in rw q (is_noted_up R S C s t g a (Committed i) n)
    tied_more i a D s t g n r (suc m) h = let q : i + suc m ≡ suc i + m = omega arith in rw q (r m (omega arith))

    -- D is what is left of the committed list from i on
    abbrev Part : ℕ → List CircuitIdx → Type 0
    Part i D = (i + length D ≡ length C) × ((m : ℕ) → m < length D → entry_at C (i + m) ≡ entry_at D m)

    part_here : (i : ℕ) (a : CircuitIdx) (D : List CircuitIdx) → Part i (a ∷ D) → (i < length C) × (entry_at C i ≡ a)
    part_here i a D p = let l = p.0 in let q : i ≡ i + 0 = omega arith in (omega arith, ap (entry_at C) q ∙ p.1 0 (omega arith))

    part_next : (i : ℕ) (a : CircuitIdx) (D : List CircuitIdx) → Part i (a ∷ D) → Part (suc i) D
    part_next i a D p = let l = p.0 in (omega arith, λ m h. (let q : suc i + m ≡ i + suc m = omega arith in ap (entry_at C) q ∙ p.1 (suc m) (omega arith)))

    abbrev Goes : ℕ → List CircuitIdx → State M → State M → Type 0
    Goes i D s t = Grows R C s t × Explains R S C t × Tied i D t

    committed_went : (i : ℕ) (D : List CircuitIdx) (s : State M) → Part i D → Unanchored R C i s → Explains R S C s → Goes i D s (walk_committed R S C i D s)
    committed_went i [] s p un ex = (grows_refl R C s, ex, λ m h. absurd (omega arith))
    committed_went i (a ∷ D) s p un ex =
        let here = part_here i a D p in
        let e = entry_went i a s here.0 here.1 un ex in
        goes_more i a D s _ _ e (committed_went (suc i) D _ (part_next i a D p) e.3 e.1)
      where
        goes_more : (i : ℕ) (a : CircuitIdx) (D : List CircuitIdx) (s u t : State M) → Grows R C s u × Explains R S C u × IsNoted u a (Committed i) × Unanchored R C (suc i) u → Goes (suc i) D u t → Goes i (a ∷ D) s t
        goes_more i a D s u t e r = (grows_trans R C s u t e.0 r.0, r.1, tied_more i a D u t r.0 e.2 r.2)

    start_placed : (w : ℕ) (o : Option ℕ) → first C w ≡ o → Placed C (start {M = M} C) w (slot_or One o)
    start_placed w None e = nowhere refl
    start_placed w (Some i) e = on_slot i refl e

    start_explains : Explains R S C (start C)
    start_explains = record {
      constant = λ k c e. cc;
      witness = λ w c e. absurd cc;
      node = λ n c e. absurd cc;
      place = λ w. start_placed w (first C w) refl;
      slots = λ w i e. ap (slot_or One) e;
      noted = λ j h. absurd (omega arith);
    }

    start_home : Unanchored R C 0 (start C)
    start_home w j c f l e = cc

    asserted : Each S S.assertions
    asserted j l = (wf.asserted_left j l, wf.asserted_right j l)

    pub complete : ((w : ℕ) → w < S.witnesses → homeless (finished R S C) w ≡ false) → Complete R S C (finished R S C)
    complete accepts =
        let s0 : State M = start C in
        let s1 = after_assertions R S C in
        let ws = homeless_from s1 0 S.witnesses in
        let s2 = house ws s1 in
        let f = finished R S C in
        let a = assertions_went wf S.assertions s0 asserted start_explains in
        let h = house_went ws s1 a.1 in
        let un = house_home R S C wf 0 ws s1 (assertions_home R S C wf 0 S.assertions s0 asserted start_home) in
        let c = committed_went 0 C s2 (omega arith, λ m l. ap (entry_at C) (let q : 0 + m ≡ m = omega arith in q)) un h.1 in
        let g = grows_trans R C s1 s2 f h.0 c.0 in
        record {
          explains = c.1;
          asserted_left = λ j l. worked_up R S C s1 f g (assertion_at S j).0 (a.2 j l).0;
          asserted_right = λ j l. worked_up R S C s1 f g (assertion_at S j).1 (a.2 j l).1;
          tied = λ i l. (let q : 0 + i ≡ i = omega arith in rw q at (c.2 i l));
          settled = accepts;
        }
