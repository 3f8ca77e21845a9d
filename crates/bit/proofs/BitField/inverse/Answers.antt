use Rattle.std.proofs.Common.{arith, refl}
use Rattle.bit.proofs.BitField.inverse.Goals as goal

pub returns : goal.returns
returns c = (record { inverse = λ x. x; of_nought = refl; of_other = λ x other. grind arith }, refl)
