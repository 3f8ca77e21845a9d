-- What the rows of a finished lowering say of the columns, and what the columns say of the values.
use Rattle.std.proofs.Common.{◌≡◌, ℕ, zero, suc, ◌<◌, false, List, length, Some, None, Option, sym, refl, ap, ◌∙◌, subst, ap₂, inl, inr, arith}
use Rattle.ring.specs.Algebra.{RingOn}
use Rattle.matrix.specs.Cells.{entry}
use Rattle.worksheet.specs.declared.CircuitIdx.{CircuitIdx}
use Rattle.worksheet.specs.declared.CircuitIdx.TheVariants.{Constant, Witness, Node}
use Rattle.worksheet.specs.declared.CircuitNode.{CircuitNode}
use Rattle.worksheet.specs.Sheet.{Sheet, WellFormed, Below, Present, Holds, node_at, assertion_at, left_of, right_of, combine}
use Rattle.worksheet.specs.Calls.{element}
use Rattle.lowering.specs.declared.Location.{Location}
use Rattle.lowering.specs.declared.Location.TheVariants.{One, Left, Right, Output, Committed}
use Rattle.lowering.specs.Committed.{entry_at, first}
use Rattle.lowering.specs.Combination.{Comb, single}
use Rattle.lowering.specs.Lowering.{State, home, slot_or, or_empty, comb_of, homeless, unplaced}
use Rattle.lowering.specs.Columns.{value_or_zero, at_place}
use Rattle.lowering.proofs.Sums.{sum, sum_single, sum_one, sum_scale, sum_merge}
use Rattle.lowering.proofs.Positions.{first_is}
use Rattle.lowering.proofs.Explains.{gate_at, note_at, Stood, as_worked, as_slot, Worked, IsNoted, IsGate, Explained, by_sum, by_left, by_right, by_gate, Placed, nowhere, on_left, on_right, on_slot, Noted, of_left, of_right, of_slot, Explains, Complete}
use Rattle.lowering.proofs.Grows.{stands}
use Rattle.lowering.proofs.Valued.{Valued}

-- what stands at a place of the columns v, l, r, with one at One
abbrev pub plain : {M : Type 0} → RingOn M → List M → List M → List M → Location → M
plain R v l r One = R.unit
plain R v l r (Location.Witness w) = R.nought
plain R v l r (Left k) = entry R l k
plain R v l r (Right k) = entry R r k
plain R v l r (Output k) = R.times (entry R l k) (entry R r k)
plain R v l r (Committed i) = entry R v i

-- a Witness place is looked up once
abbrev pub looked_up : (ℕ → Location) → Location → Location
looked_up place One = One
looked_up place (Location.Witness w) = place w
looked_up place (Left k) = Left k
looked_up place (Right k) = Right k
looked_up place (Output k) = Output k
looked_up place (Committed i) = Committed i

abbrev pub worth : {M : Type 0} → RingOn M → List M → List M → List M → (ℕ → Location) → Location → M
worth R v l r place p = plain R v l r (looked_up place p)

-- the two sides of every row have one sum
pub record Agreeing {M : Type 0} (R : RingOn M) (S : Sheet M) (f : State M) (v l r : List M) : Type 0 where
  pub asserted : (j : ℕ) → j < length S.assertions → sum R (worth R v l r f.place) (comb_of f (assertion_at S j).0) ≡ sum R (worth R v l r f.place) (comb_of f (assertion_at S j).1)
  pub noted : (j : ℕ) → j < length f.notes → sum R (worth R v l r f.place) (comb_of f (note_at f j).0) ≡ worth R v l r f.place (note_at f j).1

-- an id whose node, if it is one, stands below N
abbrev pub Reach : ℕ → CircuitIdx → Type 0
Reach N (Constant k) = Unit {0}
Reach N (Witness w) = Unit {0}
Reach N (Node m) = m < N

pub below_reach : {M : Type 0} (S : Sheet M) (n N : ℕ) (a : CircuitIdx) → n < suc N → Below S n a → Reach N a
below_reach S n N (Constant k) h b = tt
below_reach S n N (Witness w) h b = tt
below_reach S n N (Node m) h b = omega arith

module _ {M : Type 0} (R : RingOn M) (S : Sheet M) (C : List CircuitIdx) (f : State M) where
  pub reach_of : Explains R S C f → (a : CircuitIdx) (d : Comb M) → Stood R C f a d → Reach (length S.nodes) a
  reach_of ex a d (as_slot w i p h q x e) = rw p tt
  reach_of ex (Constant k) d (as_worked e) = tt
  reach_of ex (Witness w) d (as_worked e) = tt
  reach_of ex (Node n) d (as_worked e) = (ex.node n d e).0

  module _ (v l r : List M) (val : CircuitIdx → M) where
    abbrev tot : Comb M → M
    tot d = sum R (worth R v l r f.place) d

    -- what the columns and the values must share
    record Fit : Type 0 where
      pub loose : (w : ℕ) (d : Comb M) → f.comb (Witness w) ≡ Some d → first C w ≡ None → plain R v l r (f.place w) ≡ val (Witness w)
      pub slot : (w i : ℕ) → first C w ≡ Some i → entry R v i ≡ val (Witness w)
      pub anchor : (w k i : ℕ) → f.comb (Witness w) ≡ Some (single R (Left k)) → k < length f.gates → (gate_at f k).left ≡ Witness w → first C w ≡ Some i → entry R l k ≡ val (Witness w)
      pub left : (k : ℕ) (a : CircuitIdx) (o : Option CircuitIdx) → IsGate f k a o → IsNoted f a (Left k) → tot (comb_of f a) ≡ val a → entry R l k ≡ val a
      pub right : (k : ℕ) (a b : CircuitIdx) → IsGate f k a (Some b) → IsNoted f b (Right k) → tot (comb_of f b) ≡ val b → entry R r k ≡ val b

    module _ (wf : WellFormed S) (ex : Explains R S C f) (values : Valued R S val) (fit : Fit) where
      at_home : (w : ℕ) (o : Option ℕ) (d : Comb M) → first C w ≡ o → f.comb (Witness w) ≡ Some d → worth R v l r f.place (slot_or (Location.Witness w) o) ≡ val (Witness w)
      at_home w None d e h = fit.loose w d h e
      at_home w (Some i) d e h = fit.slot w i e

      abbrev Agree : CircuitIdx → Type 0
      Agree a = (d : Comb M) → Stood R C f a d → tot d ≡ val a

      of_final : (a : CircuitIdx) (d : Comb M) → Stood R C f a d → Agree a → tot (comb_of f a) ≡ val a
      of_final a d st h = let k = stands R C f a d st in ap (λ q. tot (or_empty q)) k.1 ∙ h k.0 (as_worked k.1)

      of_node : (nd : CircuitNode) (d : Comb M) → Explained R S C f nd d → Agree (left_of nd) → Agree (right_of nd) → tot d ≡ combine R nd (val (left_of nd)) (val (right_of nd))
      of_node nd d (by_sum a b x y p sa sb q) hl hr =
          let ha : Agree a = rw p at hl in
          let hb : Agree b = rw p at hr in
          rw (p, q) (sum_merge R (worth R v l r f.place) x y ∙ ap₂ R.plus (ha x sa) (hb y sb))
      of_node nd d (by_left k b y p sb q) hl hr =
          let hb : Agree b = rw p at hr in
          rw (p, q) (sum_scale R (worth R v l r f.place) (element R S k) y ∙ ap₂ R.times (sym (values.constant k)) (hb y sb))
      of_node nd d (by_right a k x p sa q) hl hr =
          let ha : Agree a = rw p at hl in
          rw (p, q) (sum_scale R (worth R v l r f.place) (element R S k) x ∙ R.times_comm _ _ ∙ ap₂ R.times (ha x sa) (sym (values.constant k)))
      of_node nd d (by_gate a b k x y p sa sb q g na nb) hl hr =
          let ha : Agree a = rw p at hl in
          let hb : Agree b = rw p at hr in
          rw (p, q) (sum_single R (worth R v l r f.place) (Output k) ∙ ap₂ R.times (fit.left k a (Some b) g na (of_final a x sa ha)) (fit.right k a b g nb (of_final b y sb hb)))

      agrees : (N : ℕ) (a : CircuitIdx) → Reach N a → (d : Comb M) → Stood R C f a d → tot d ≡ val a
      agrees N a b d (as_slot w i p h q x e) = rw (p, q) (sum_single R (worth R v l r f.place) (Committed i) ∙ fit.slot w i h)
      agrees N (Constant k) b d (as_worked e) = rw (ex.constant k d e) (sum_one R (worth R v l r f.place) (element R S k) refl ∙ sym (values.constant k))
      agrees N (Witness w) b d (as_worked e) = elim (ex.witness w d e).0 [
        | inl h ↦ rw h (sum_single R (worth R v l r f.place) (home C w) ∙ at_home w (first C w) d refl e)
        | inr n ↦ rw n.1 (sum_single R (worth R v l r f.place) (Left n.0) ∙ fit.anchor w n.0 n.4.0 (e ∙ ap Some n.1) n.2 n.3 n.4.1)
      ]
      agrees zero (Node n) b d (as_worked e) = absurd (omega arith)
      agrees (suc N) (Node n) b d (as_worked e) =
          let x = ex.node n d e in
          of_node (node_at S n) d x.1 (agrees N (left_of (node_at S n)) (below_reach S n N (left_of (node_at S n)) b (wf.earlier_left n x.0)))
          (agrees N (right_of (node_at S n)) (below_reach S n N (right_of (node_at S n)) b (wf.earlier_right n x.0)))
          ∙ sym (values.node n x.0)

      agree_final : (a : CircuitIdx) → Worked R C f a → tot (comb_of f a) ≡ val a
      agree_final a wk = of_final a wk.0 wk.1 (agrees (length S.nodes) a (reach_of ex a wk.0 wk.1))

-- a worked witness that is not homeless has a place
pub not_homeless : {M : Type 0} (s : State M) (w : ℕ) (d : Comb M) → s.comb (Witness w) ≡ Some d → homeless s w ≡ false → unplaced (s.place w) ≡ false
not_homeless s w d e h = rw e at h

-- the columns hold the values of the committed entries and of the gates' factors
pub record Written {M : Type 0} (R : RingOn M) (C : List CircuitIdx) (f : State M) (val : CircuitIdx → M) (v l r : List M) : Type 0 where
  pub at_value : (i : ℕ) → i < length C → entry R v i ≡ val (entry_at C i)
  pub at_left : (k : ℕ) → k < length f.gates → entry R l k ≡ val (gate_at f k).left
  pub at_right : (k : ℕ) → k < length f.gates → entry R r k ≡ value_or_zero R val (gate_at f k).right

module _ {M : Type 0} (R : RingOn M) (S : Sheet M) (C : List CircuitIdx) (f : State M) (wf : WellFormed S) (done : Complete R S C f) where
  placed : (w : ℕ) (d : Comb M) → f.comb (Witness w) ≡ Some d → unplaced (f.place w) ≡ false
  placed w d e = not_homeless f w d e (done.settled w (done.explains.witness w d e).1)

  -- columns whose rows agree hold the values that they are read back as
  module _ (here : (i : ℕ) → i < length C → Present S (entry_at C i)) (v l r : List M) (sat : Agreeing R S f v l r) (val : CircuitIdx → M) (values : Valued R S val) (back : (w : ℕ) → w < S.witnesses → val (Witness w) ≡ at_place R v l r (f.place w)) where
    plain_back : (w : ℕ) (p : Location) → Placed C f w p → unplaced p ≡ false → plain R v l r p ≡ at_place R v l r p
    plain_back w p (nowhere e) h = cc
    plain_back w p (on_left k e _ _) h = rw e
    plain_back w p (on_right k e _ _) h = rw e
    plain_back w p (on_slot i e _) h = rw e

    row : (a : CircuitIdx) (p : Location) → IsNoted f a p → sum R (worth R v l r f.place) (comb_of f a) ≡ worth R v l r f.place p
    row a p n = rw n.2 at (sat.noted n.0 n.1)

    known : (w i : ℕ) → first C w ≡ Some i → w < S.witnesses
    known w i e = let at = first_is C w i e in subst (Present S) at.1 (here i at.0)

    slot_is : (w i : ℕ) → first C w ≡ Some i → entry R v i ≡ val (Witness w)
    slot_is w i e = sym (back w (known w i e) ∙ ap (at_place R v l r) (done.explains.slots w i e))

    anchor_is : (w k i : ℕ) → f.comb (Witness w) ≡ Some (single R (Left k)) → k < length f.gates → (gate_at f k).left ≡ Witness w → first C w ≡ Some i → entry R l k ≡ val (Witness w)
    anchor_is w k i e _ g q =
        let at = first_is C w i q in
        let eq : sum R (worth R v l r f.place) (single R (Left k)) ≡ entry R v i = rw (at.1, e) at (row (entry_at C i) (Committed i) (done.tied i at.0)) in
        sym (sum_single R (worth R v l r f.place) (Left k)) ∙ eq ∙ slot_is w i q

    bind_fit : Fit R S C f v l r val
    bind_fit = record {
      loose = λ w d e h. plain_back w (f.place w) (done.explains.place w) (placed w d e) ∙ sym (back w (done.explains.witness w d e).1);
      slot = slot_is;
      anchor = anchor_is;
      left = λ k a o g n t. sym (row a (Left k) n) ∙ t;
      right = λ k a b g n t. sym (row b (Right k) n) ∙ t;
    }

    bound : (a : CircuitIdx) → Worked R C f a → sum R (worth R v l r f.place) (comb_of f a) ≡ val a
    bound = agree_final R S C f v l r val wf done.explains values bind_fit

    pub binds : Holds S val × ((i : ℕ) → i < length C → val (entry_at C i) ≡ entry R v i)
    binds = (
      λ j h. sym (bound (assertion_at S j).0 (done.asserted_left j h)) ∙ sat.asserted j h ∙ bound (assertion_at S j).1 (done.asserted_right j h),
      λ i h. let n = done.tied i h in
          sym (bound (entry_at C i) (rw n.2 at (done.explains.noted n.0 n.1).1)) ∙ row (entry_at C i) (Committed i) n,
    )

  -- the rows of written columns agree exactly if every assertion holds
  module _ (val : CircuitIdx → M) (values : Valued R S val) (v l r : List M) (wr : Written R C f val v l r) where
    placed_is : (w : ℕ) (p : Location) → Placed C f w p → unplaced p ≡ false → plain R v l r p ≡ val (Witness w)
    placed_is w p (nowhere e) h = cc
    placed_is w p (on_left k e lt g) h = rw e (wr.at_left k lt ∙ ap val g)
    placed_is w p (on_right k e lt g) h = rw e (wr.at_right k lt ∙ ap (value_or_zero R val) g)
    placed_is w p (on_slot i e q) h = rw e (wr.at_value i (first_is C w i q).0 ∙ ap val (first_is C w i q).1)

    carry_fit : Fit R S C f v l r val
    carry_fit = record {
      loose = λ w d e h. placed_is w (f.place w) (done.explains.place w) (placed w d e);
      slot = λ w i e. wr.at_value i (first_is C w i e).0 ∙ ap val (first_is C w i e).1;
      anchor = λ w k i e lt g q. wr.at_left k lt ∙ ap val g;
      left = λ k a o g n t. wr.at_left k g.0 ∙ ap val g.1;
      right = λ k a b g n t. wr.at_right k g.0 ∙ ap (value_or_zero R val) g.2;
    }

    carried : (a : CircuitIdx) → Worked R C f a → sum R (worth R v l r f.place) (comb_of f a) ≡ val a
    carried = agree_final R S C f v l r val wf done.explains values carry_fit

    noted_is : (a : CircuitIdx) (p : Location) → Noted C f a p → worth R v l r f.place p ≡ val a
    noted_is a p (of_left k e lt g) = rw e (wr.at_left k lt ∙ ap val g)
    noted_is a p (of_right k e lt g) = rw e (wr.at_right k lt ∙ ap (value_or_zero R val) g)
    noted_is a p (of_slot i e lt g) = rw e (wr.at_value i lt ∙ ap val g)

    pub carries : (Agreeing R S f v l r → Holds S val) × (Holds S val → Agreeing R S f v l r)
    carries = (
      λ sat j h. sym (carried (assertion_at S j).0 (done.asserted_left j h)) ∙ sat.asserted j h ∙ carried (assertion_at S j).1 (done.asserted_right j h),
      λ holds. record {
        asserted = λ j h. carried (assertion_at S j).0 (done.asserted_left j h) ∙ holds j h ∙ sym (carried (assertion_at S j).1 (done.asserted_right j h));
        noted = λ j h. let n = done.explains.noted j h in carried (note_at f j).0 n.1 ∙ sym (noted_is (note_at f j).0 (note_at f j).1 n.0);
      },
    )
