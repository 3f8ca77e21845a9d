-- What code that counts modulo n computes, as classes modulo n.
use Rattle.std.proofs.Common.{◌≡◌, ℕ, ◌+◌, ◌*◌, ◌%◌, ◌<◌, refl, sym, ap, ◌∙◌, mod-eq_of_lt}
use Rattle.std.proofs.Math.Nat.{add-mod, zero-mod}
use Rattle.ring.specs.Modular.{Class, class_of, class_plus, class_minus, class_times, same_class, mod_mul_mod, mul_mod_mod, modular}
use Rattle.ring.proofs.Laws.{nought_sum_moves, plus_moves}

module _ (n : ℕ) where
  -- values below n are equal where their classes are
  pub equal : (x y : ℕ) → x < n → y < n → class_of n x ≡ class_of n y → x ≡ y
  equal x y below_x below_y e = sym (mod-eq_of_lt below_x) ∙ ap (λ (a : Class n). a.value) e ∙ mod-eq_of_lt below_y

  pub sum : (r x y : ℕ) → r % n ≡ (x + y) % n → class_of n r ≡ class_plus n (class_of n x) (class_of n y)
  sum r x y e = same_class _ _ (e ∙ add-mod x y n)

  pub product : (r x y : ℕ) → r % n ≡ (x * y) % n → class_of n r ≡ class_times n (class_of n x) (class_of n y)
  product r x y e = same_class _ _ (e ∙ sym (mod_mul_mod x y n) ∙ sym (mul_mod_mod (x % n) y n))

  module _ (big : 1 < n) where
    pub opposite : (r x : ℕ) → (r + x) % n ≡ 0 → class_of n r ≡ class_minus n (class_of n x)
    opposite r x e =
        nought_sum_moves (modular n big) (class_of n r) (class_of n x)
        (sym (sum (r + x) r x refl) ∙ same_class _ _ (e ∙ sym (zero-mod n)))

    pub difference : (r x y : ℕ) → (r + y) % n ≡ x % n → class_of n r ≡ class_plus n (class_of n x) (class_minus n (class_of n y))
    difference r x y e =
        plus_moves (modular n big) (class_of n r) (class_of n y) (class_of n x) (sym (sum x r y (sym e)))

-- for an impl of Ring whose members are classes modulo n, as #[tactic(auto, using(ring::proofs::Modular::classes))]
pub ruleset classes = (equal, sum, product, opposite, difference)
