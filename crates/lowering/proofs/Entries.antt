-- Where each place stands in the filled columns.
use Rattle.std.proofs.Common.{◌≡◌, ℕ, zero, suc, ◌+◌, ◌-◌, ◌*◌, ◌<◌, List, [], ◌∷◌, ◌++◌, length, refl, ap, ◌∙◌, ap₂, arith}
use Rattle.std.proofs.lemmas.List.{get_or_append_left, get_or-append_right}
use Rattle.ring.specs.Algebra.{RingOn}
use Rattle.matrix.specs.Cells.{entry}
use Rattle.circuit.specs.Bulletproofs.{hadamard}
use Rattle.circuit.specs.Verdict.{filled}
use Rattle.lowering.specs.declared.Location.{Location}
use Rattle.lowering.specs.declared.Location.TheVariants.{One, Witness, Left, Right, Output, Committed}
use Rattle.lowering.specs.Combination.{Comb}
use Rattle.lowering.specs.Rows.{column}
use Rattle.lowering.proofs.Sums.{sum}
use Rattle.lowering.proofs.Core.{plain, looked_up, worth}
use Rattle.lowering.proofs.Matrices.{InAll}

-- with c slots and n gates the place, which is no Witness, is there
abbrev pub InPlain : ℕ → ℕ → Location → Type 0
InPlain c n One = Unit {0}
InPlain c n (Witness w) = ⊥
InPlain c n (Left k) = k < n
InPlain c n (Right k) = k < n
InPlain c n (Output k) = k < n
InPlain c n (Committed i) = i < c

abbrev pub InRange : ℕ → ℕ → (ℕ → Location) → Location → Type 0
InRange c n place p = InPlain c n (looked_up place p)

plain_covered : (c n : ℕ) (place : ℕ → Location) (p : Location) → InPlain c n p → column 0 place c n p < 1 + c + 3 * n
plain_covered c n place One h = omega arith
plain_covered c n place (Witness w) h = absurd h
plain_covered c n place (Left k) h = omega arith
plain_covered c n place (Right k) h = omega arith
plain_covered c n place (Output k) h = omega arith
plain_covered c n place (Committed i) h = omega arith

column_once : (c n : ℕ) (place : ℕ → Location) (p : Location) → column 1 place c n p ≡ column 0 place c n (looked_up place p)
column_once c n place One = refl
column_once c n place (Witness w) = refl
column_once c n place (Left k) = refl
column_once c n place (Right k) = refl
column_once c n place (Output k) = refl
column_once c n place (Committed i) = refl

covered : (c n : ℕ) (place : ℕ → Location) (p : Location) → InRange c n place p → column 1 place c n p < 1 + c + 3 * n
covered c n place p h = rw (column_once c n place p) (plain_covered c n place (looked_up place p) h)

module _ {M : Type 0} (R : RingOn M) where
  product_at : (l r : List M) (k : ℕ) → k < length l → k < length r → entry R (hadamard R l r) k ≡ R.times (entry R l k) (entry R r k)
  product_at [] r k p q = absurd (omega arith)
  product_at (x ∷ l) [] k p q = absurd (omega arith)
  product_at (x ∷ l) (y ∷ r) zero p q = refl
  product_at (x ∷ l) (y ∷ r) (suc k) p q = product_at l r k (omega arith) (omega arith)

  module _ (v l r : List M) (c n : ℕ) (place : ℕ → Location) (v_size : length v ≡ c) (l_size : length l ≡ n) (r_size : length r ≡ n) where
    abbrev all : List M
    all = filled R v l r

    abbrev outs : List M
    outs = hadamard R l r

    -- the first of two parts ends at m
    past : (xs ys : List M) (m k i : ℕ) → length xs ≡ m → m + k ≡ i → entry R (xs ++ ys) i ≡ entry R ys k
    past xs ys m k i e q = let d : i - m ≡ k = omega arith in get_or-append_right xs ys m i R.nought e (omega arith) ∙ ap (entry R ys) d

    past_one : (i : ℕ) → entry R all (1 + i) ≡ entry R (v ++ (l ++ (r ++ outs))) i
    past_one i = past (R.unit ∷ []) (v ++ (l ++ (r ++ outs))) 1 i (1 + i) refl (omega arith)

    past_values : (k : ℕ) → entry R all (1 + c + k) ≡ entry R (l ++ (r ++ outs)) k
    past_values k = past (R.unit ∷ v) (l ++ (r ++ outs)) (1 + c) k (1 + c + k) (omega (arith, v_size)) refl

    at_committed : (i : ℕ) → i < c → entry R all (1 + i) ≡ entry R v i
    at_committed i h = past_one i ∙ get_or_append_left v _ R.nought i (omega (arith, v_size))

    at_left : (k : ℕ) → k < n → entry R all (1 + c + k) ≡ entry R l k
    at_left k h = past_values k ∙ get_or_append_left l _ R.nought k (omega (arith, l_size))

    past_left : (k : ℕ) → entry R all (1 + c + n + k) ≡ entry R (r ++ outs) k
    past_left k =
        let q : 1 + c + n + k ≡ 1 + c + (n + k) = omega arith in
        ap (entry R all) q ∙ past_values (n + k) ∙ past l (r ++ outs) n k (n + k) l_size refl

    at_right : (k : ℕ) → k < n → entry R all (1 + c + n + k) ≡ entry R r k
    at_right k h = past_left k ∙ get_or_append_left r _ R.nought k (omega (arith, r_size))

    at_output : (k : ℕ) → k < n → entry R all (1 + c + n + n + k) ≡ R.times (entry R l k) (entry R r k)
    at_output k h =
        let q : 1 + c + n + n + k ≡ 1 + c + n + (n + k) = omega arith in
        ap (entry R all) q ∙ past_left (n + k) ∙ past r outs n k (n + k) r_size refl ∙ product_at l r k (omega (arith, l_size)) (omega (arith, r_size))

    plain_entry : (p : Location) → InPlain c n p → entry R all (column 0 place c n p) ≡ plain R v l r p
    plain_entry One h = refl
    plain_entry (Witness w) h = absurd h
    plain_entry (Left k) h = at_left k h
    plain_entry (Right k) h = at_right k h
    plain_entry (Output k) h = at_output k h
    plain_entry (Committed i) h = at_committed i h

    place_entry : (p : Location) → InRange c n place p → entry R all (column 1 place c n p) ≡ worth R v l r place p
    place_entry p h = ap (entry R all) (column_once c n place p) ∙ plain_entry (looked_up place p) h

    pub sum_entries : (d : Comb M) → InAll (InRange c n place) d → sum R (λ p. entry R all (column 1 place c n p)) d ≡ sum R (worth R v l r place) d
    sum_entries [] h = refl
    sum_entries (t ∷ d) h = ap₂ (λ x y. R.plus (R.times t.weight x) y) (place_entry t.place h.0) (sum_entries d h.1)

pub covered_all : {M : Type 0} (c n : ℕ) (place : ℕ → Location) (d : Comb M) → InAll (InRange c n place) d → InAll (λ p. column 1 place c n p < 1 + c + 3 * n) d
covered_all c n place [] h = tt
covered_all c n place (t ∷ d) h = (covered c n place t.place h.0, covered_all c n place d h.1)
