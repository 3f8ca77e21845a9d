-- The ring of the residue classes modulo n, once for all n.
use Rattle.std.specs.Prelude.{◌≡◌, ℕ, ◌+◌, ◌-◌, ◌*◌, ◌/◌, ◌%◌, ◌≤◌, ◌<◌}
use Rattle.std.proofs.Common.{sym, ap, ◌∙◌, add_assoc, add_comm, add-zero, add-mul, add-sub_of_le, le_of_lt, mod-eq_of_lt, mod-lt, mul-add, mul_assoc, mul_comm, mul-one, arith}
use mathlib.Core.HLevel.{is_prop→PathP}
use Rattle.std.proofs.Math.Nat.{ℕ_set, add-mod-mod, add-mul-mod_self_left, mod-add-div, mod-add-mod, mod-mod, mod_self, zero-mod}
use Rattle.ring.specs.Algebra.{RingOn}

-- a class, by its number that division by n leaves as it is: the one below n
pub record Class (n : ℕ) : Type 0 where
  pub value : ℕ
  pub least : value % n ≡ value

-- the class of any number
abbrev pub class_of : (n k : ℕ) → Class n
class_of n k = record { value = k % n; least = mod-mod k n }

abbrev pub class_plus : (n : ℕ) → Class n → Class n → Class n
class_plus n a b = class_of n (a.value + b.value)

abbrev pub class_minus : (n : ℕ) → Class n → Class n
class_minus n a = class_of n (n - a.value)

abbrev pub class_times : (n : ℕ) → Class n → Class n → Class n
class_times n a b = class_of n (a.value * b.value)

-- classes with one value are one class
pub same_class : {n : ℕ} (a b : Class n) → a.value ≡ b.value → a ≡ b
same_class {n} a b e =
    λ i. record { value = e i; least = is_prop→PathP (λ j. e j % n ≡ e j) (λ j. ℕ_set (e j % n) (e j)) a.least b.least i }

pub mod_mul_mod : (a b n : ℕ) → (a % n * b) % n ≡ (a * b) % n
mod_mul_mod a b n =
    sym (add-mul-mod_self_left (a % n * b) n (a / n * b))
    ∙ ap (λ (x : ℕ). x % n)
    (ap (λ (x : ℕ). a % n * b + x) (sym (mul_assoc n (a / n) b)) ∙ sym (add-mul (a % n) (n * (a / n)) b) ∙ ap (λ (x : ℕ). x * b) (mod-add-div a n))

pub mul_mod_mod : (a b n : ℕ) → (a * (b % n)) % n ≡ (a * b) % n
mul_mod_mod a b n =
    ap (λ (x : ℕ). x % n) (mul_comm a (b % n)) ∙ mod_mul_mod b a n ∙ ap (λ (x : ℕ). x % n) (mul_comm b a)

module _ (n : ℕ) where
  pub plus_assoc : (a b c : Class n) → class_plus n (class_plus n a b) c ≡ class_plus n a (class_plus n b c)
  plus_assoc a b c =
      same_class _ _
      (mod-add-mod (a.value + b.value) n c.value
      ∙ ap (λ (x : ℕ). x % n) (add_assoc a.value b.value c.value)
      ∙ sym (add-mod-mod a.value (b.value + c.value) n))

  pub plus_comm : (a b : Class n) → class_plus n a b ≡ class_plus n b a
  plus_comm a b = ap (class_of n) (add_comm a.value b.value)

  pub plus_nought : (a : Class n) → class_plus n a (class_of n 0) ≡ a
  plus_nought a = same_class _ _ (simp (zero-mod, add-zero) a.least)

  pub plus_minus : 1 < n → (a : Class n) → class_plus n a (class_minus n a) ≡ class_of n 0
  plus_minus big a =
      let pos : 0 < n = omega arith in
      let low : a.value ≤ n = le_of_lt (rw a.least at (mod-lt a.value pos)) in
      same_class _ _
      (add-mod-mod a.value (n - a.value) n ∙ ap (λ (x : ℕ). x % n) (add-sub_of_le low) ∙ mod_self n ∙ sym (zero-mod n))

  pub times_assoc : (a b c : Class n) → class_times n (class_times n a b) c ≡ class_times n a (class_times n b c)
  times_assoc a b c =
      same_class _ _
      (mod_mul_mod (a.value * b.value) c.value n
      ∙ ap (λ (x : ℕ). x % n) (mul_assoc a.value b.value c.value)
      ∙ sym (mul_mod_mod a.value (b.value * c.value) n))

  pub times_comm : (a b : Class n) → class_times n a b ≡ class_times n b a
  times_comm a b = ap (class_of n) (mul_comm a.value b.value)

  pub times_unit : (a : Class n) → class_times n a (class_of n 1) ≡ a
  times_unit a =
      same_class _ _ (mul_mod_mod a.value 1 n ∙ ap (λ (x : ℕ). x % n) (mul-one a.value) ∙ a.least)

  pub times_plus : (a b c : Class n) → class_times n a (class_plus n b c) ≡ class_plus n (class_times n a b) (class_times n a c)
  times_plus a b c =
      same_class _ _
      (mul_mod_mod a.value (b.value + c.value) n
      ∙ ap (λ (x : ℕ). x % n) (mul-add a.value b.value c.value)
      ∙ sym (mod-add-mod (a.value * b.value) n (a.value * c.value))
      ∙ sym (add-mod-mod (a.value * b.value % n) (a.value * c.value) n))

  pub distinct : 1 < n → class_of n 0 ≡ class_of n 1 → ⊥
  distinct big e =
      let z : 0 % n ≡ 1 % n = ap (λ (a : Class n). a.value) e in
      let o : 1 % n ≡ 1 = mod-eq_of_lt big in
      omega (arith, z, o, zero-mod n)

abbrev pub modular : (n : ℕ) → 1 < n → RingOn (Class n)
modular n big = record {
  nought = class_of n 0;
  unit = class_of n 1;
  plus = class_plus n;
  minus = class_minus n;
  times = class_times n;
  plus_assoc = plus_assoc n;
  plus_comm = plus_comm n;
  plus_nought = plus_nought n;
  plus_minus = plus_minus n big;
  times_assoc = times_assoc n;
  times_comm = times_comm n;
  times_unit = times_unit n;
  times_plus = times_plus n;
  distinct = distinct n big;
}
