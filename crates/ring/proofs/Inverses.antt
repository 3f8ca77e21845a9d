-- A table that passes the test makes the ring modulo n a field.
use Rattle.std.proofs.Common.{◌≡◌, ℕ, zero, suc, min, ◌+◌, ◌*◌, ◌%◌, ◌<◌, Bool, true, false, ◌&&◌, T, ltb, eqb, List, [], ◌∷◌, get_or, sym, ap, subst, ◌∙◌, add-zero, zero-add, add-suc, suc-add, mod-eq_of_lt, mod-lt, ltb→lt, eqb→eq, arith}
use Rattle.std.proofs.Math.Nat.{zero-mod}
use Rattle.ring.specs.Algebra.{FieldOf}
use Rattle.ring.specs.Inverses.{right, right_from, inverts}
use Rattle.ring.specs.Modular.{class_of, same_class, mul_mod_mod, modular}

both : (a b : Bool) → T (a && b) → T a × T b
both true b t = (tt, t)
both false b t = absurd t

right_at : (n : ℕ) (xs : List ℕ) (i k : ℕ) → T (right_from n i xs) → i + k < n → T (right n (i + k) (get_or xs k 0))
right_at n [] i k t h = absurd (let e : i ≡ n = eqb→eq i n t in omega arith)
right_at n (x ∷ xs) i zero t h =
    subst (λ (m : ℕ). T (right n m x)) (sym (add-zero i)) (both (right n i x) (right_from n (suc i) xs) t).0
right_at n (x ∷ xs) i (suc k) t h =
    let e : suc i + k ≡ i + suc k = suc-add i k ∙ sym (add-suc i k) in
    subst (λ (m : ℕ). T (right n m (get_or xs k 0))) e
    (right_at n xs (suc i) k (both (right n i x) (right_from n (suc i) xs) t).1 (omega arith))

module _ (n : ℕ) (xs : List ℕ) (t : T (inverts n xs)) where
  parts : (k : ℕ) → k < n → T (ltb (get_or xs k 0) n) × T (eqb (k * get_or xs k 0 % n) (min k 1))
  parts k h =
      both (ltb (get_or xs k 0) n) (eqb (k * get_or xs k 0 % n) (min k 1))
      (subst (λ (m : ℕ). T (right n m (get_or xs k 0))) (zero-add k)
      (right_at n xs 0 k (both (eqb (get_or xs 0 0) 0) (right_from n 0 xs) t).1 (omega (arith, zero-add k))))

  pub entry_below : (k : ℕ) → k < n → get_or xs k 0 < n
  entry_below k h = ltb→lt (get_or xs k 0) n (parts k h).0

  module _ (big : 1 < n) where
    unfoldable field_by : FieldOf (modular n big)
    field_by = record {
      inverse = λ a. class_of n (get_or xs a.value 0);
      of_nought =
          ap (class_of n)
          (ap (λ (k : ℕ). get_or xs k 0) (zero-mod n) ∙ eqb→eq (get_or xs 0 0) 0 (both (eqb (get_or xs 0 0) 0) (right_from n 0 xs) t).0);
      of_other =
          λ a other.
          let k : ℕ = a.value in
          let x : ℕ = get_or xs k 0 in
          let low : k < n = subst (λ (m : ℕ). m < n) a.least (mod-lt k (omega arith)) in
          let pos : k ≡ 0 → ⊥ = λ e. other (same_class a (class_of n 0) (e ∙ sym (zero-mod n))) in
          let product : k * x % n ≡ min k 1 = eqb→eq (k * x % n) (min k 1) (parts k low).1 in
          let one : min k 1 ≡ 1 = omega arith in
          same_class _ _ (mul_mod_mod k x n ∙ product ∙ one ∙ sym (mod-eq_of_lt big));
    }

    pub inverse_by : (k : ℕ) → k < n → (F : FieldOf (modular n big)) × (class_of n (get_or xs k 0) ≡ F.inverse (class_of n k))
    unfolding field_by
    inverse_by k h = (field_by, ap (λ (j : ℕ). class_of n (get_or xs j 0)) (sym (mod-eq_of_lt h)))
