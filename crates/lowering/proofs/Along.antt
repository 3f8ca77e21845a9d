-- What each working of an id keeps, a whole walk keeps.
use Rattle.std.proofs.Common.{◌≡◌, ℕ, zero, suc, ◌<◌, ◌≤◌, eqb, List, [], ◌∷◌, length, get_or, Some, None, Option, sym, refl, ap, ◌∙◌, inl, inr, arith}
use Rattle.std.proofs.lemmas.Bool.{cond-false, ne_eqb}
use Rattle.ring.specs.Algebra.{RingOn}
use Rattle.worksheet.specs.declared.CircuitIdx.{CircuitIdx}
use Rattle.worksheet.specs.declared.CircuitIdx.TheVariants.{Constant, Witness, Node}
use Rattle.worksheet.specs.declared.CircuitNode.{CircuitNode}
use Rattle.worksheet.specs.declared.CircuitNode.TheVariants.{Add, Mul}
use Rattle.worksheet.specs.Sheet.{Sheet, WellFormed, Below, Present, node_at, left_of, right_of}
use Rattle.worksheet.specs.Calls.{constant_of, element}
use Rattle.lowering.specs.declared.Location.{Location}
use Rattle.lowering.specs.declared.Location.TheVariants.{Committed}
use Rattle.lowering.specs.Committed.{first}
use Rattle.lowering.specs.Combination.{Comb, single, at_one}
use Rattle.lowering.specs.Lowering.{State, put, home, slot_or, unless, multiply, work, walk, walk_assertions, house}
use Rattle.lowering.proofs.Grows.{put_new}

pub raise : {M : Type 0} (S : Sheet M) (n N : ℕ) (a : CircuitIdx) → n ≤ N → Below S n a → Below S N a
raise S n N (Constant k) l b = b
raise S n N (Witness w) l b = b
raise S n N (Node m) l b = omega arith

module _ {M : Type 0} (S : Sheet M) (wf : WellFormed S) where
  pub operand_left : (n : ℕ) → n < length S.nodes → Present S (left_of (node_at S n))
  operand_left n h = raise S n (length S.nodes) (left_of (node_at S n)) (omega arith) (wf.earlier_left n h)

  pub operand_right : (n : ℕ) → n < length S.nodes → Present S (right_of (node_at S n))
  operand_right n h = raise S n (length S.nodes) (right_of (node_at S n)) (omega arith) (wf.earlier_right n h)

-- the two ids of an assertion
abbrev pub Each : {M : Type 0} → Sheet M → List (CircuitIdx × CircuitIdx) → Type 0
Each S ps = (j : ℕ) → j < length ps → Present S (get_or ps j (Constant 0, Constant 0)).0 × Present S (get_or ps j (Constant 0, Constant 0)).1

-- a committed witness whose first position is i or later stands for its slot
abbrev pub Unanchored : {M : Type 0} → RingOn M → List CircuitIdx → ℕ → State M → Type 0
Unanchored {M} R C i s = (w j : ℕ) (c : Comb M) → first C w ≡ Some j → i ≤ j → s.comb (Witness w) ≡ Some c → c ≡ single R (Committed j)

module _ {M : Type 0} (R : RingOn M) (S : Sheet M) (C : List CircuitIdx) (wf : WellFormed S) where
  module _ (P : State M → Type 0)
      (constant : (k : ℕ) (s : State M) → P s → P (put (Constant k) (at_one (element R S k)) s))
      (witness : (w : ℕ) (s : State M) → P s → P (put (Witness w) (single R (home C w)) s))
      (node : (n : ℕ) (s : State M) → n < length S.nodes → P s → P (work R S n (node_at S n) s)) where
    keeps_unless : (o : Option (Comb M)) (s t : State M) → P s → P t → P (unless o s t)
    keeps_unless None s t p q = q
    keeps_unless (Some c) s t p q = p

    pub keeps_walk : (N : ℕ) (a : CircuitIdx) (s : State M) → Present S a → P s → P (walk R S C N a s)
    keeps_walk N (Constant k) s h p = keeps_unless (s.comb (Constant k)) s _ p (constant k s p)
    keeps_walk N (Witness w) s h p = keeps_unless (s.comb (Witness w)) s _ p (witness w s p)
    keeps_walk zero (Node n) s h p = p
    keeps_walk (suc N) (Node n) s h p =
        let a = left_of (node_at S n) in
        let b = right_of (node_at S n) in
        let t = walk R S C N a s in
        let q = keeps_walk N b t (operand_right S wf n h) (keeps_walk N a s (operand_left S wf n h) p) in
        keeps_unless (s.comb (Node n)) s _ p (node n (walk R S C N b t) h q)

    pub keeps_assertions : (ps : List (CircuitIdx × CircuitIdx)) (s : State M) → Each S ps → P s → P (walk_assertions R S C ps s)
    keeps_assertions [] s h p = p
    keeps_assertions (q ∷ ps) s h p =
        let N = length S.nodes in
        let here = h 0 (omega arith) in
        keeps_assertions ps _ (λ j l. h (suc j) (omega arith)) (keeps_walk N q.1 _ here.1 (keeps_walk N q.0 s here.0 p))

  -- an id is worked before any node that stands later
  unless_above : (o : Option (Comb M)) (s t : State M) (a : CircuitIdx) → t.comb a ≡ s.comb a → (unless o s t).comb a ≡ s.comb a
  unless_above None s t a e = e
  unless_above (Some c) s t a e = refl

  put_above : (n m : ℕ) (c : Comb M) (s : State M) → n < m → (put (Node n) c s).comb (Node m) ≡ s.comb (Node m)
  put_above n m c s h = cond-false (eqb m n) (Some c) (s.comb (Node m)) (ne_eqb m n (λ e. omega arith))

  multiply_above : (n m : ℕ) (a b : CircuitIdx) (o q : Option ℕ) (s : State M) → n < m → (multiply R S n a b o q s).comb (Node m) ≡ s.comb (Node m)
  multiply_above n m a b (Some k) q s h = put_above n m _ s h
  multiply_above n m a b None (Some k) s h = put_above n m _ s h
  multiply_above n m a b None None s h = put_above n m _ s h

  work_above : (n m : ℕ) (nd : CircuitNode) (s : State M) → n < m → (work R S n nd s).comb (Node m) ≡ s.comb (Node m)
  work_above n m (Add a b) s h = put_above n m _ s h
  work_above n m (Mul a b) s h = multiply_above n m a b (constant_of a) (constant_of b) s h

  pub walk_above : (N n m : ℕ) (a : CircuitIdx) (s : State M) → Below S n a → n ≤ m → n ≤ length S.nodes → (walk R S C N a s).comb (Node m) ≡ s.comb (Node m)
  walk_above N n m (Constant k) s b h l = unless_above (s.comb (Constant k)) s _ (Node m) refl
  walk_above N n m (Witness w) s b h l = unless_above (s.comb (Witness w)) s _ (Node m) refl
  walk_above zero n m (Node j) s b h l = refl
  walk_above (suc N) n m (Node j) s b h l =
      let inside : j < length S.nodes = omega arith in
      let x = left_of (node_at S j) in
      let y = right_of (node_at S j) in
      let t = walk R S C N x s in
      unless_above (s.comb (Node j)) s _ (Node m)
      (work_above j m (node_at S j) (walk R S C N y t) (omega arith)
      ∙ walk_above N j m y t (wf.earlier_right j inside) (omega arith) (omega arith)
      ∙ walk_above N j m x s (wf.earlier_left j inside) (omega arith) (omega arith))

  module _ (i : ℕ) where
    at_home : (w : ℕ) (s : State M) → Unanchored R C i s → Unanchored R C i (put (Witness w) (single R (home C w)) s)
    at_home w s h v j c f l e = elim (put_new R C (Witness w) (single R (home C w)) s (Witness v) c e) [
      | inl q ↦ (let same : v ≡ w = cc in q.1 ∙ ap (λ u. single R (home C u)) (sym same) ∙ ap (λ o. single R (slot_or (Location.Witness v) o)) f)
      | inr q ↦ h v j c f l q
    ]

    multiply_home : (n : ℕ) (a b : CircuitIdx) (o q : Option ℕ) (s : State M) → Unanchored R C i s → Unanchored R C i (multiply R S n a b o q s)
    multiply_home n a b (Some k) q s h = h
    multiply_home n a b None (Some k) s h = h
    multiply_home n a b None None s h = h

    work_home : (n : ℕ) (nd : CircuitNode) (s : State M) → Unanchored R C i s → Unanchored R C i (work R S n nd s)
    work_home n (Add a b) s h = h
    work_home n (Mul a b) s h = multiply_home n a b (constant_of a) (constant_of b) s h

    pub walk_home : (N : ℕ) (a : CircuitIdx) (s : State M) → Present S a → Unanchored R C i s → Unanchored R C i (walk R S C N a s)
    walk_home = keeps_walk (Unanchored R C i) (λ k s h. h) at_home (λ n s l h. work_home n (node_at S n) s h)

    pub assertions_home : (ps : List (CircuitIdx × CircuitIdx)) (s : State M) → Each S ps → Unanchored R C i s → Unanchored R C i (walk_assertions R S C ps s)
    assertions_home = keeps_assertions (Unanchored R C i) (λ k s h. h) at_home (λ n s l h. work_home n (node_at S n) s h)

    pub house_home : (ws : List ℕ) (s : State M) → Unanchored R C i s → Unanchored R C i (house ws s)
    house_home [] s h = h
    house_home (w ∷ []) s h = h
    house_home (w ∷ (u ∷ ws)) s h = house_home ws _ h
