-- A gate's product is the node of its two factors, so each out that is written is left times right.
use Rattle.std.proofs.Common.{◌≡◌, ℕ, suc, ◌<◌, List, [], ◌∷◌, length, Some, None, Option, sym, refl, ap, ◌∙◌, inl, inr, arith}
use Rattle.std.proofs.lemmas.List.{get_or_append_left, get_or_push, length_push}
use Rattle.std.proofs.lemmas.Bool.{cond_both, cases_lt}
use Rattle.ring.specs.Algebra.{RingOn}
use Rattle.ring.proofs.Laws.{times_nought}
use Rattle.worksheet.specs.declared.CircuitIdx.{CircuitIdx}
use Rattle.worksheet.specs.declared.CircuitIdx.TheVariants.{Constant, Witness, Node}
use Rattle.worksheet.specs.declared.CircuitNode.{CircuitNode}
use Rattle.worksheet.specs.declared.CircuitNode.TheVariants.{Add, Mul}
use Rattle.worksheet.specs.Sheet.{Sheet, WellFormed, Present, node_at}
use Rattle.worksheet.specs.Calls.{constant_of}
use Rattle.lowering.specs.declared.Gate.{Gate}
use Rattle.lowering.specs.Committed.{entry_at, first, at_position}
use Rattle.lowering.specs.Lowering.{State, start, add_gate, multiply, work, walk, house, homeless_from, gate_of, anchor, anchor_first, walk_committed, after_assertions, housed, finished}
use Rattle.lowering.specs.Columns.{value_or_zero, out_of}
use Rattle.lowering.proofs.Explains.{gate_at}
use Rattle.lowering.proofs.Along.{keeps_walk, keeps_assertions}
use Rattle.lowering.proofs.Valued.{Valued}

module _ {M : Type 0} (S : Sheet M) where
  pub FineGate : Gate → Type 0
  FineGate g = (p : CircuitIdx) → g.product ≡ Some p → (n : ℕ) × (b : CircuitIdx) × (p ≡ Node n) × (n < length S.nodes) × (g.right ≡ Some b) × (node_at S n ≡ Mul g.left b)

  abbrev Fine : State M → Type 0
  Fine s = (k : ℕ) → k < length s.gates → FineGate (gate_at s k)

  fine_add : (g : Gate) (s : State M) → FineGate g → Fine s → Fine (add_gate g s)
  fine_add g s q h k l = elim (cases_lt k (length s.gates)) [
    | inl b ↦ rw (get_or_append_left s.gates (g ∷ []) (gate_of (Constant 0) None) k b) (h k b)
    | inr b ↦ (let e : k ≡ length s.gates = omega (arith, length_push s.gates g) in rw (e, get_or_push s.gates g (gate_of (Constant 0) None) (length s.gates) refl) q)
  ]

  no_product : (a : CircuitIdx) (o : Option CircuitIdx) → FineGate (gate_of a o)
  unfolding FineGate
  no_product a o p e = absurd cc

  its_product : (n : ℕ) (a b : CircuitIdx) → n < length S.nodes → node_at S n ≡ Mul a b → FineGate (record { left = a; right = Some b; product = Some (Node n) })
  unfolding FineGate
  its_product n a b l q p e = (n, b, cc, l, refl, q)

  module _ (R : RingOn M) (C : List CircuitIdx) (wf : WellFormed S) where
    fine_multiply : (n : ℕ) (a b : CircuitIdx) (o q : Option ℕ) (s : State M) → n < length S.nodes → node_at S n ≡ Mul a b → Fine s → Fine (multiply R S n a b o q s)
    fine_multiply n a b (Some k) q s l e h = h
    fine_multiply n a b None (Some k) s l e h = h
    fine_multiply n a b None None s l e h = fine_add (record { left = a; right = Some b; product = Some (Node n) }) s (its_product n a b l e) h

    fine_work : (n : ℕ) (nd : CircuitNode) (s : State M) → n < length S.nodes → node_at S n ≡ nd → Fine s → Fine (work R S n nd s)
    fine_work n (Add a b) s l e h = h
    fine_work n (Mul a b) s l e h = fine_multiply n a b (constant_of a) (constant_of b) s l e h

    fine_walk : (N : ℕ) (a : CircuitIdx) (s : State M) → Present S a → Fine s → Fine (walk R S C N a s)
    fine_walk = keeps_walk R S C wf Fine (λ k s h. h) (λ w s h. h) (λ n s l h. fine_work n (node_at S n) s l refl h)

    fine_house : (ws : List ℕ) (s : State M) → Fine s → Fine (house ws s)
    fine_house [] s h = h
    fine_house (w ∷ []) s h = fine_add (gate_of (Witness w) None) s (no_product (Witness w) None) h
    fine_house (w ∷ (u ∷ ws)) s h = fine_house ws _ (fine_add (gate_of (Witness w) (Some (Witness u))) s (no_product (Witness w) (Some (Witness u))) h)

    fine_first : (i : ℕ) (a : CircuitIdx) (s : State M) → Fine s → Fine (anchor_first R C i a s)
    fine_first i (Constant k) s h = h
    fine_first i (Witness w) s h = cond_both (at_position (first C w) i) (anchor R w s) s Fine (λ e. fine_add (gate_of (Witness w) None) s (no_product (Witness w) None) h) (λ e. h)
    fine_first i (Node n) s h = h

    fine_committed : (i : ℕ) (D : List CircuitIdx) (s : State M) → ((j : ℕ) → j < length D → Present S (entry_at D j)) → Fine s → Fine (walk_committed R S C i D s)
    fine_committed i [] s p h = h
    fine_committed i (a ∷ D) s p h =
        let N = length S.nodes in
        fine_committed (suc i) D _ (λ j l. p (suc j) (omega arith)) (fine_first i a (walk R S C N a s) (fine_walk N a s (p 0 (omega arith)) h))

    pub fine_finished : ((i : ℕ) → i < length C → Present S (entry_at C i)) → Fine (finished R S C)
    fine_finished p =
        let s = after_assertions R S C in
        let asserted = keeps_assertions R S C wf Fine (λ k s h. h) (λ w s h. h) (λ n s l h. fine_work n (node_at S n) s l refl h) S.assertions (start C) (λ j l. (wf.asserted_left j l, wf.asserted_right j l)) (λ k l. absurd (omega arith)) in
        fine_committed 0 C (housed R S C) p (fine_house (homeless_from s 0 S.witnesses) s asserted)

    module _ (val : CircuitIdx → M) (vals : Valued R S val) where
      out_by : (a : CircuitIdx) (o q : Option CircuitIdx) → FineGate (record { left = a; right = o; product = q }) → out_of R val a o q ≡ R.times (val a) (value_or_zero R val o)
      unfolding FineGate
      out_by a None q h = sym (times_nought R (val a))
      out_by a (Some b) None h = refl
      out_by a (Some b) (Some p) h =
          let t = h p refl in
          let n = t.0 in
          let e : b ≡ t.1 = cc in
          let d : node_at S n ≡ Mul a b = t.5 ∙ ap (Mul a) (sym e) in
          ap val t.2 ∙ vals.node n t.3 ∙ rw d

      pub out_is : (g : Gate) → FineGate g → out_of R val g.left g.right g.product ≡ R.times (val g.left) (value_or_zero R val g.right)
      out_is g h = out_by g.left g.right g.product h
