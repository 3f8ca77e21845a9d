-- What follows from the laws of a commutative ring.
use Rattle.std.proofs.Common.{◌≡◌, sym, ap, ◌∙◌}
use Rattle.ring.specs.Algebra.{RingOn}

module _ {M : Type 0} (R : RingOn M) where
  pub nought_plus : (x : M) → R.plus R.nought x ≡ x
  nought_plus x = R.plus_comm R.nought x ∙ R.plus_nought x

  pub minus_plus : (x : M) → R.plus (R.minus x) x ≡ R.nought
  minus_plus x = R.plus_comm (R.minus x) x ∙ R.plus_minus x

  pub plus_left_comm : (x y z : M) → R.plus x (R.plus y z) ≡ R.plus y (R.plus x z)
  plus_left_comm x y z =
      sym (R.plus_assoc x y z) ∙ ap (λ (w : M). R.plus w z) (R.plus_comm x y) ∙ R.plus_assoc y x z

  pub plus_swap : (a b c d : M) → R.plus (R.plus a b) (R.plus c d) ≡ R.plus (R.plus a c) (R.plus b d)
  plus_swap a b c d =
      R.plus_assoc a b (R.plus c d) ∙ ap (R.plus a) (plus_left_comm b c d) ∙ sym (R.plus_assoc a c (R.plus b d))

  -- what is added and taken away again
  plus_back : (x z : M) → R.plus (R.plus x z) (R.minus z) ≡ x
  plus_back x z = R.plus_assoc x z (R.minus z) ∙ ap (R.plus x) (R.plus_minus z) ∙ R.plus_nought x

  pub plus_moves : (x y z : M) → R.plus x y ≡ z → x ≡ R.plus z (R.minus y)
  plus_moves x y z e = sym (plus_back x y) ∙ ap (λ (w : M). R.plus w (R.minus y)) e

  pub plus_cancel : (x y z : M) → R.plus x z ≡ R.plus y z → x ≡ y
  plus_cancel x y z e = plus_moves x z (R.plus y z) e ∙ plus_back y z

  pub nought_sum_moves : (x y : M) → R.plus x y ≡ R.nought → x ≡ R.minus y
  nought_sum_moves x y e = plus_moves x y R.nought e ∙ nought_plus (R.minus y)

  pub minus_minus : (x : M) → R.minus (R.minus x) ≡ x
  minus_minus x = sym (nought_sum_moves x (R.minus x) (R.plus_minus x))

  pub minus_nought : R.minus R.nought ≡ R.nought
  minus_nought = sym (nought_sum_moves R.nought R.nought (R.plus_nought R.nought))

  pub minus_plus_distributes : (x y : M) → R.minus (R.plus x y) ≡ R.plus (R.minus x) (R.minus y)
  minus_plus_distributes x y =
      sym
      (nought_sum_moves (R.plus (R.minus x) (R.minus y)) (R.plus x y)
      (let p = plus_swap (R.minus x) (R.minus y) x y in
      let q = minus_plus x in
      let r = minus_plus y in
      let s = R.plus_nought R.nought in
      cc))

  pub difference_nought : (x y : M) → R.plus x (R.minus y) ≡ R.nought → x ≡ y
  difference_nought x y e = nought_sum_moves x (R.minus y) e ∙ minus_minus y

  pub nought_difference : (x y : M) → x ≡ y → R.plus x (R.minus y) ≡ R.nought
  nought_difference x y e = ap (λ (w : M). R.plus w (R.minus y)) e ∙ R.plus_minus y

  pub times_nought : (x : M) → R.times x R.nought ≡ R.nought
  times_nought x =
      plus_cancel (R.times x R.nought) R.nought (R.times x R.nought)
      (sym (R.times_plus x R.nought R.nought) ∙ ap (R.times x) (R.plus_nought R.nought) ∙ sym (nought_plus (R.times x R.nought)))

  pub nought_times : (x : M) → R.times R.nought x ≡ R.nought
  nought_times x = R.times_comm R.nought x ∙ times_nought x

  pub plus_times : (x y z : M) → R.times (R.plus x y) z ≡ R.plus (R.times x z) (R.times y z)
  plus_times x y z =
      let p = R.times_comm (R.plus x y) z in
      let q = R.times_plus z x y in
      let r = R.times_comm z x in
      let s = R.times_comm z y in
      cc

  pub minus_times : (x y : M) → R.times (R.minus x) y ≡ R.minus (R.times x y)
  minus_times x y =
      nought_sum_moves (R.times (R.minus x) y) (R.times x y)
      (sym (plus_times (R.minus x) x y) ∙ ap (λ (w : M). R.times w y) (minus_plus x) ∙ nought_times y)
