-- The field of two elements.
use Rattle.std.specs.Prelude.{◌≡◌, Bool, true, false, not, ◌&&◌, T, refl}
use Rattle.std.proofs.Common.{subst, sym}
use Rattle.ring.specs.Algebra.{RingOn}

-- one of the two and not both
abbrev pub either : Bool → Bool → Bool
either true y = not y
either false y = y

pub plus_assoc : (x y z : Bool) → either (either x y) z ≡ either x (either y z)
plus_assoc false y z = refl
plus_assoc true false z = refl
plus_assoc true true false = refl
plus_assoc true true true = refl

pub plus_comm : (x y : Bool) → either x y ≡ either y x
plus_comm false false = refl
plus_comm false true = refl
plus_comm true false = refl
plus_comm true true = refl

pub plus_nought : (x : Bool) → either x false ≡ x
plus_nought false = refl
plus_nought true = refl

pub plus_minus : (x : Bool) → either x x ≡ false
plus_minus false = refl
plus_minus true = refl

pub times_assoc : (x y z : Bool) → ((x && y) && z) ≡ (x && (y && z))
times_assoc false y z = refl
times_assoc true y z = refl

pub times_comm : (x y : Bool) → (x && y) ≡ (y && x)
times_comm false false = refl
times_comm false true = refl
times_comm true false = refl
times_comm true true = refl

pub times_unit : (x : Bool) → (x && true) ≡ x
times_unit false = refl
times_unit true = refl

pub times_plus : (x y z : Bool) → (x && either y z) ≡ either (x && y) (x && z)
times_plus false y z = refl
times_plus true y z = refl

pub distinct : false ≡ true → ⊥
distinct e = subst T (sym e) tt

abbrev pub two : RingOn Bool
two = record {
  nought = false;
  unit = true;
  plus = either;
  minus = λ x. x;
  times = ◌&&◌;
  plus_assoc = plus_assoc;
  plus_comm = plus_comm;
  plus_nought = plus_nought;
  plus_minus = plus_minus;
  times_assoc = times_assoc;
  times_comm = times_comm;
  times_unit = times_unit;
  times_plus = times_plus;
  distinct = distinct;
}
