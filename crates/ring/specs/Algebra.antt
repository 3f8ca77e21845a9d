-- What a commutative ring is, and what makes it a field.
use Rattle.std.specs.Prelude.{◌≡◌}

pub record RingOn (M : Type 0) : Type 0 where
  pub nought : M
  pub unit : M
  pub plus : M → M → M
  pub minus : M → M
  pub times : M → M → M
  pub plus_assoc : (x y z : M) → plus (plus x y) z ≡ plus x (plus y z)
  pub plus_comm : (x y : M) → plus x y ≡ plus y x
  pub plus_nought : (x : M) → plus x nought ≡ x
  pub plus_minus : (x : M) → plus x (minus x) ≡ nought
  pub times_assoc : (x y z : M) → times (times x y) z ≡ times x (times y z)
  pub times_comm : (x y : M) → times x y ≡ times y x
  pub times_unit : (x : M) → times x unit ≡ x
  pub times_plus : (x y z : M) → times x (plus y z) ≡ plus (times x y) (times x z)
  pub distinct : nought ≡ unit → ⊥

-- zero's inverse is zero, and any other member times its inverse is one
pub record FieldOf {M : Type 0} (R : RingOn M) : Type 0 where
  pub inverse : M → M
  pub of_nought : inverse R.nought ≡ R.nought
  pub of_other : (x : M) → (x ≡ R.nought → ⊥) → R.times x (inverse x) ≡ R.unit
