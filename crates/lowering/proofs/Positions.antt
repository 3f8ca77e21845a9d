-- First positions in the committed list, and ids that are the same.
use Rattle.std.proofs.Common.{◌≡◌, ℕ, zero, suc, ◌+◌, ◌<◌, Bool, true, false, cond, List, [], ◌∷◌, length, Some, refl, ap, ◌∙◌, arith}
use Rattle.std.proofs.lemmas.Bool.{eqb-true, eq-eqb, cond-true}
use Rattle.worksheet.specs.declared.CircuitIdx.{CircuitIdx}
use Rattle.worksheet.specs.declared.CircuitIdx.TheVariants.{Constant, Witness, Node}
use Rattle.lowering.specs.Committed.{entry_at, same, first_from, first}

pub same_true : (a b : CircuitIdx) → same a b ≡ true → a ≡ b
same_true (Constant k) (Constant m) e = ap Constant (eqb-true k m e)
same_true (Constant k) (Witness m) e = cc
same_true (Constant k) (Node m) e = cc
same_true (Witness k) (Constant m) e = cc
same_true (Witness k) (Witness m) e = ap Witness (eqb-true k m e)
same_true (Witness k) (Node m) e = cc
same_true (Node k) (Constant m) e = cc
same_true (Node k) (Witness m) e = cc
same_true (Node k) (Node m) e = ap Node (eqb-true k m e)

pub same_self : (a : CircuitIdx) → same a a ≡ true
same_self (Constant k) = eq-eqb k k refl
same_self (Witness k) = eq-eqb k k refl
same_self (Node k) = eq-eqb k k refl

abbrev Found : ℕ → List CircuitIdx → ℕ → ℕ → Type 0
Found i C w j = (m : ℕ) × (j ≡ i + m) × (m < length C) × (entry_at C m ≡ Witness w)

found : (i : ℕ) (C : List CircuitIdx) (w j : ℕ) → first_from i C w ≡ Some j → Found i C w j
found i [] w j e = absurd cc
found i (a ∷ C) w j e = go (same a (Witness w)) refl e (found (suc i) C w j)
  where
    go : (b : Bool) → same a (Witness w) ≡ b → cond b (Some i) (first_from (suc i) C w) ≡ Some j → (first_from (suc i) C w ≡ Some j → Found (suc i) C w j) → Found i (a ∷ C) w j
    go true s q h = let t : i ≡ j = cc in (0, omega arith, omega arith, same_true a (Witness w) s)
    go false s q h = let r = h q in let l : r.0 < length C = r.2 in let t : j ≡ suc i + r.0 = r.1 in (suc r.0, omega arith, omega arith, r.3)

pub first_is : (C : List CircuitIdx) (w i : ℕ) → first C w ≡ Some i → (i < length C) × (entry_at C i ≡ Witness w)
first_is C w i e =
    let r = found 0 C w i e in
    let l : r.0 < length C = r.2 in
    let t : i ≡ r.0 = r.1 ∙ omega arith in
    (omega arith, rw t r.3)

-- a witness in the list has a first position
pub has_first : (i : ℕ) (D : List CircuitIdx) (w m : ℕ) → m < length D → entry_at D m ≡ Witness w → (j : ℕ) × (first_from i D w ≡ Some j)
has_first i [] w m h e = absurd (omega arith)
has_first i (a ∷ D) w zero h e = (i, cond-true (same a (Witness w)) (Some i) (first_from (suc i) D w) (rw e (eq-eqb w w refl)))
has_first i (a ∷ D) w (suc m) h e = go (same a (Witness w)) (has_first (suc i) D w m (omega arith) e)
  where
    go : (b : Bool) → (j : ℕ) × (first_from (suc i) D w ≡ Some j) → (j : ℕ) × (cond b (Some i) (first_from (suc i) D w) ≡ Some j)
    go true r = (i, refl)
    go false r = r
