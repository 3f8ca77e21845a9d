-- Lowering only adds, and each addition keeps what is explained.
use Rattle.std.proofs.Common.{◌≡◌, ℕ, ◌<◌, ◌≤◌, Bool, true, false, cond, ◌&&◌, ◌⊎◌, List, [], ◌∷◌, length, Some, None, Option, sym, refl, ap, ◌∙◌, inl, inr, arith}
use Rattle.std.proofs.lemmas.List.{get_or_append_left, get_or_push, length_push}
use Rattle.std.proofs.lemmas.Bool.{cond-true, cond-false, and_right, and_parts, cases_eq}
use Rattle.ring.specs.Algebra.{RingOn}
use Rattle.worksheet.specs.declared.CircuitIdx.{CircuitIdx}
use Rattle.worksheet.specs.declared.CircuitIdx.TheVariants.{Constant, Witness, Node}
use Rattle.worksheet.specs.declared.CircuitNode.{CircuitNode}
use Rattle.worksheet.specs.Sheet.{Sheet, node_at}
use Rattle.worksheet.specs.Calls.{element}
use Rattle.lowering.specs.declared.Location.{Location}
use Rattle.lowering.specs.declared.Location.TheVariants.{One, Left, Right, Committed}
use Rattle.lowering.specs.declared.Gate.{Gate}
use Rattle.lowering.specs.Committed.{first, same}
use Rattle.lowering.specs.Combination.{Comb, single, at_one}
use Rattle.lowering.specs.Lowering.{State, home, unplaced, put, add_gate, add_note, settle}
use Rattle.lowering.proofs.Positions.{same_true, same_self}
use Rattle.lowering.proofs.Explains.{gate_at, note_at, Stood, as_worked, as_slot, Worked, IsNoted, IsGate, Explained, by_sum, by_left, by_right, by_gate, Placed, nowhere, on_left, on_right, on_slot, Noted, of_left, of_right, of_slot, Explains, Anchored}

module _ {M : Type 0} (R : RingOn M) (C : List CircuitIdx) where
  pub record Grows (s t : State M) : Type 0 where
    pub comb : (a : CircuitIdx) (c : Comb M) → s.comb a ≡ Some c → Stood R C t a c
    pub place : (w : ℕ) → unplaced (s.place w) ≡ false → t.place w ≡ s.place w
    pub gates : length s.gates ≤ length t.gates
    pub gate : (k : ℕ) → k < length s.gates → gate_at t k ≡ gate_at s k
    pub notes : length s.notes ≤ length t.notes
    pub note : (j : ℕ) → j < length s.notes → note_at t j ≡ note_at s j

  -- combinations and places change, gates and notes do not
  grows_by : (s t : State M) → t.gates ≡ s.gates → t.notes ≡ s.notes → ((a : CircuitIdx) (c : Comb M) → s.comb a ≡ Some c → Stood R C t a c) → ((w : ℕ) → unplaced (s.place w) ≡ false → t.place w ≡ s.place w) → Grows s t
  grows_by s t g n combs places = record {
    comb = combs;
    place = places;
    gates = rw g (omega arith);
    gate = λ k h. rw g refl;
    notes = rw n (omega arith);
    note = λ j h. rw n refl;
  }

  pub grows_refl : (s : State M) → Grows s s
  grows_refl s = grows_by s s refl refl (λ a c e. as_worked e) (λ w e. refl)

  -- what stood still has a combination
  pub stands : (s : State M) (a : CircuitIdx) (c : Comb M) → Stood R C s a c → (d : Comb M) × (s.comb a ≡ Some d)
  stands s a c (as_worked e) = (c, e)
  stands s a c (as_slot w i p h q d e) = (d, e)

  -- and goes on standing
  pub stood_up : (s t : State M) → Grows s t → (a : CircuitIdx) (c : Comb M) → Stood R C s a c → Stood R C t a c
  stood_up s t g a c (as_worked e) = g.comb a c e
  stood_up s t g a c (as_slot w i p h q d e) = let k = stands t a d (g.comb a d e) in as_slot w i p h q k.0 k.1

  pub grows_trans : (s t u : State M) → Grows s t → Grows t u → Grows s u
  grows_trans s t u g h = record {
    comb = λ a c e. stood_up t u h a c (g.comb a c e);
    place = λ w e. h.place w (ap unplaced (g.place w e) ∙ e) ∙ g.place w e;
    gates = omega (arith, g.gates, h.gates);
    gate = λ k l. h.gate k (omega (arith, g.gates)) ∙ g.gate k l;
    notes = omega (arith, g.notes, h.notes);
    note = λ j l. h.note j (omega (arith, g.notes)) ∙ g.note j l;
  }

  pub put_same : (a : CircuitIdx) (c : Comb M) (s : State M) → (put a c s).comb a ≡ Some c
  put_same a c s = cond-true (same a a) (Some c) (s.comb a) (same_self a)

  pub put_new : (a : CircuitIdx) (c : Comb M) (s : State M) (b : CircuitIdx) (d : Comb M) → (put a c s).comb b ≡ Some d → ((b ≡ a) × (d ≡ c)) ⊎ (s.comb b ≡ Some d)
  put_new a c s b d e = go (same b a) refl e
    where
      go : (q : Bool) → same b a ≡ q → cond q (Some c) (s.comb b) ≡ Some d → ((b ≡ a) × (d ≡ c)) ⊎ (s.comb b ≡ Some d)
      go true p h = inl (same_true b a p, (cc))
      go false p h = inr h

  put_old : (a : CircuitIdx) (c : Comb M) (s : State M) → s.comb a ≡ None → (b : CircuitIdx) (d : Comb M) → s.comb b ≡ Some d → (put a c s).comb b ≡ Some d
  put_old a c s n b d e = go (same b a) refl
    where
      go : (q : Bool) → same b a ≡ q → cond q (Some c) (s.comb b) ≡ Some d
      go true p = let x : s.comb b ≡ s.comb a = ap s.comb (same_true b a p) in cc
      go false p = e

  pub grows_put : (a : CircuitIdx) (c : Comb M) (s : State M) → s.comb a ≡ None → Grows s (put a c s)
  grows_put a c s n = grows_by s (put a c s) refl refl (λ b d e. as_worked (put_old a c s n b d e)) (λ w e. refl)

  pub grows_gate : (g : Gate) (s : State M) → Grows s (add_gate g s)
  grows_gate g s = record {
    comb = λ a c e. as_worked e;
    place = λ w e. refl;
    gates = omega (arith, length_push s.gates g);
    gate = λ k h. get_or_append_left s.gates (g ∷ []) _ k h;
    notes = omega arith;
    note = λ j h. refl;
  }

  -- the new gate is the last
  pub gate_last : (g : Gate) (s : State M) → (length s.gates < length (add_gate g s).gates) × (gate_at (add_gate g s) (length s.gates) ≡ g)
  gate_last g s = (omega (arith, length_push s.gates g), get_or_push s.gates g _ (length s.gates) refl)

  pub grows_note : (a : CircuitIdx) (p : Location) (s : State M) → Grows s (add_note a p s)
  grows_note a p s = record {
    comb = λ a c e. as_worked e;
    place = λ w e. refl;
    gates = omega arith;
    gate = λ k h. refl;
    notes = omega (arith, length_push s.notes (a, p));
    note = λ j h. get_or_append_left s.notes ((a, p) ∷ []) _ j h;
  }

  pub note_last : (a : CircuitIdx) (p : Location) (s : State M) → IsNoted (add_note a p s) a p
  note_last a p s = (length s.notes, omega (arith, length_push s.notes (a, p)), get_or_push s.notes (a, p) _ (length s.notes) refl)

  pub grows_settle : (a : CircuitIdx) (p : Location) (s : State M) → Grows s (settle a p s)
  grows_settle a p s =
      grows_by s (settle a p s) refl refl (λ b c e. as_worked e)
      (λ w e. cond-false (same (Witness w) a && unplaced (s.place w)) p (s.place w) (and_right (same (Witness w) a) (unplaced (s.place w)) e))

  settle_new : (a : CircuitIdx) (p : Location) (s : State M) (w : ℕ) → ((settle a p s).place w ≡ s.place w) ⊎ ((a ≡ Witness w) × ((settle a p s).place w ≡ p))
  settle_new a p s w = go (same (Witness w) a && unplaced (s.place w)) refl
    where
      go : (q : Bool) → (same (Witness w) a && unplaced (s.place w)) ≡ q → (cond q p (s.place w) ≡ s.place w) ⊎ ((a ≡ Witness w) × (cond q p (s.place w) ≡ p))
      go true e = inr (sym (same_true (Witness w) a (and_parts (same (Witness w) a) (unplaced (s.place w)) e).0), refl)
      go false e = inl refl

  -- a committed witness gives its slot up for a gate
  pub grows_anchor : (w i : ℕ) (c : Comb M) (s : State M) → s.comb (Witness w) ≡ Some (single R (Committed i)) → first C w ≡ Some i → Grows s (put (Witness w) c s)
  grows_anchor w i c s e f = grows_by s (put (Witness w) c s) refl refl (λ b d h. go b d h (same b (Witness w)) refl) (λ v k. refl)
    where
      go : (b : CircuitIdx) (d : Comb M) → s.comb b ≡ Some d → (q : Bool) → same b (Witness w) ≡ q → Stood R C (put (Witness w) c s) b d
      go b d h true p =
          let r = same_true b (Witness w) p in
          let x : s.comb b ≡ s.comb (Witness w) = ap s.comb r in
          as_slot w i r f (cc) c (rw r (put_same (Witness w) c s))
      go b d h false p = as_worked (cond-false (same b (Witness w)) (Some c) (s.comb b) p ∙ h)

-- what a new combination must be
abbrev pub New : {M : Type 0} → RingOn M → Sheet M → List CircuitIdx → State M → CircuitIdx → Comb M → Type 0
New R S C t (Constant k) c = c ≡ at_one (element R S k)
New R S C t (Witness w) c = ((c ≡ single R (home C w)) ⊎ Anchored R C t w c) × (w < S.witnesses)
New R S C t (Node n) c = (n < length S.nodes) × Explained R S C t (node_at S n) c

abbrev KeptNote : {M : Type 0} → RingOn M → List CircuitIdx → State M → ℕ → Type 0
KeptNote R C t j = Noted C t (note_at t j).0 (note_at t j).1 × Worked R C t (note_at t j).0

module _ {M : Type 0} (R : RingOn M) (S : Sheet M) (C : List CircuitIdx) where
  module _ (s t : State M) (g : Grows R C s t) where
    pub worked_up : (a : CircuitIdx) → Worked R C s a → Worked R C t a
    worked_up a w = (w.0, stood_up R C s t g a w.0 w.1)

    anchored_up : (w : ℕ) (c : Comb M) → Anchored R C s w c → Anchored R C t w c
    anchored_up w c n = let l = n.2 in (n.0, n.1, omega (arith, g.gates), ap (λ x. x.left) (g.gate n.0 l) ∙ n.3, n.4)

    homed_up : (w : ℕ) (c : Comb M) → (c ≡ single R (home C w)) ⊎ Anchored R C s w c → (c ≡ single R (home C w)) ⊎ Anchored R C t w c
    homed_up w c (inl e) = inl e
    homed_up w c (inr n) = inr (anchored_up w c n)

    pub is_noted_up : (a : CircuitIdx) (p : Location) → IsNoted s a p → IsNoted t a p
    is_noted_up a p n = let h = n.1 in (n.0, omega (arith, g.notes), g.note n.0 n.1 ∙ n.2)

    is_gate_up : (k : ℕ) (a : CircuitIdx) (o : Option CircuitIdx) → IsGate s k a o → IsGate t k a o
    is_gate_up k a o n = let h = n.0 in (omega (arith, g.gates), ap (λ x. x.left) (g.gate k h) ∙ n.1, ap (λ x. x.right) (g.gate k h) ∙ n.2)

    explained_up : (nd : CircuitNode) (c : Comb M) → Explained R S C s nd c → Explained R S C t nd c
    explained_up nd c (by_sum a b d e p sa sb q) = by_sum a b d e p (stood_up R C s t g a d sa) (stood_up R C s t g b e sb) q
    explained_up nd c (by_left k b e p sb q) = by_left k b e p (stood_up R C s t g b e sb) q
    explained_up nd c (by_right a k d p sa q) = by_right a k d p (stood_up R C s t g a d sa) q
    explained_up nd c (by_gate a b k d e p sa sb q h na nb) =
        by_gate a b k d e p (stood_up R C s t g a d sa) (stood_up R C s t g b e sb) q (is_gate_up k a (Some b) h) (is_noted_up a (Left k) na) (is_noted_up b (Right k) nb)

    placed_up : (w : ℕ) (p : Location) → Placed C s w p → Placed C t w p
    placed_up w p (nowhere e) = nowhere e
    placed_up w p (on_left k e h l) = on_left k e (omega (arith, g.gates)) (ap (λ x. x.left) (g.gate k h) ∙ l)
    placed_up w p (on_right k e h l) = on_right k e (omega (arith, g.gates)) (ap (λ x. x.right) (g.gate k h) ∙ l)
    placed_up w p (on_slot i e q) = on_slot i e q

    noted_up : (a : CircuitIdx) (p : Location) → Noted C s a p → Noted C t a p
    noted_up a p (of_left k e h l) = of_left k e (omega (arith, g.gates)) (ap (λ x. x.left) (g.gate k h) ∙ l)
    noted_up a p (of_right k e h l) = of_right k e (omega (arith, g.gates)) (ap (λ x. x.right) (g.gate k h) ∙ l)
    noted_up a p (of_slot i e l q) = of_slot i e l q

    explains_by : Explains R S C s →
        ((a : CircuitIdx) (c : Comb M) → t.comb a ≡ Some c → (s.comb a ≡ Some c) ⊎ New R S C t a c) →
        ((w : ℕ) → (t.place w ≡ s.place w) ⊎ Placed C t w (t.place w)) →
        ((j : ℕ) → j < length t.notes → (j < length s.notes) ⊎ KeptNote R C t j) →
        Explains R S C t
    explains_by ex combs places notes = record {
      constant = λ k c e. elim (combs (Constant k) c e) [ inl h ↦ ex.constant k c h | inr h ↦ h ];
      witness = λ w c e. elim (combs (Witness w) c e) [ inl h ↦ (homed_up w c (ex.witness w c h).0, (ex.witness w c h).1) | inr h ↦ h ];
      node = λ n c e. elim (combs (Node n) c e) [ inl h ↦ ((ex.node n c h).0, explained_up (node_at S n) c (ex.node n c h).1) | inr h ↦ h ];
      place = λ w. elim (places w) [ inl h ↦ rw h (placed_up w (s.place w) (ex.place w)) | inr h ↦ h ];
      slots = λ w i e. g.place w (ap unplaced (ex.slots w i e)) ∙ ex.slots w i e;
      noted = λ j l. elim (notes j l) [
        | inl h ↦ rw (g.note j h) (noted_up (note_at s j).0 (note_at s j).1 (ex.noted j h).0, worked_up (note_at s j).0 (ex.noted j h).1)
        | inr h ↦ h
      ];
    }

  pub explains_put : (a : CircuitIdx) (c : Comb M) (s : State M) → s.comb a ≡ None → Explains R S C s → New R S C (put a c s) a c → Explains R S C (put a c s)
  explains_put a c s n ex new =
      explains_by s (put a c s) (grows_put R C a c s n) ex
      (λ b d e. elim (put_new R C a c s b d e) [ inl h ↦ inr (rw (h.0, h.1) new) | inr h ↦ inl h ])
      (λ w. inl refl) (λ j l. inl l)

  pub explains_gate : (g : Gate) (s : State M) → Explains R S C s → Explains R S C (add_gate g s)
  explains_gate g s ex = explains_by s (add_gate g s) (grows_gate R C g s) ex (λ a c e. inl e) (λ w. inl refl) (λ j l. inl l)

  pub explains_note : (a : CircuitIdx) (p : Location) (s : State M) → Explains R S C s → Noted C s a p → Worked R C s a → Explains R S C (add_note a p s)
  explains_note a p s ex nt wk =
      let t = add_note a p s in
      let g = grows_note R C a p s in
      explains_by s t g ex (λ b c e. inl e) (λ w. inl refl)
      (λ j l. elim (cases_eq j (length s.notes)) [
        | inl h ↦ inr (rw (h, get_or_push s.notes (a, p) (Constant 0, One) (length s.notes) refl) (noted_up s t g a p nt, worked_up s t g a wk))
        | inr h ↦ inl (omega (arith, length_push s.notes (a, p)))
      ])

  pub explains_settle : (a : CircuitIdx) (p : Location) (s : State M) → Explains R S C s → ((w : ℕ) → a ≡ Witness w → Placed C s w p) → Explains R S C (settle a p s)
  explains_settle a p s ex pl =
      let t = settle a p s in
      let g = grows_settle R C a p s in
      explains_by s t g ex (λ b c e. inl e)
      (λ w. elim (settle_new R C a p s w) [ inl h ↦ inl h | inr h ↦ inr (rw h.1 (placed_up s t g w p (pl w h.0))) ])
      (λ j l. inl l)

  pub explains_anchor : (w i : ℕ) (c : Comb M) (s : State M) → s.comb (Witness w) ≡ Some (single R (Committed i)) → first C w ≡ Some i → Explains R S C s → New R S C (put (Witness w) c s) (Witness w) c → Explains R S C (put (Witness w) c s)
  explains_anchor w i c s e f ex new =
      explains_by s (put (Witness w) c s) (grows_anchor R C w i c s e f) ex
      (λ b d h. elim (put_new R C (Witness w) c s b d h) [ inl q ↦ inr (rw (q.0, q.1) new) | inr q ↦ inl q ])
      (λ w. inl refl) (λ j l. inl l)
