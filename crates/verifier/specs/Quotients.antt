-- What a verifier's quotient and inverse do.
use Rattle.ring.specs.Algebra.{RingOn, FieldOf}
use Rattle.worksheet.specs.declared.Var.{Var}
use Rattle.worksheet.specs.declared.Var.TheVariants.{Native, Circuit}

-- two natives are divided by the field's inverse; of an id the quotient is the same whatever the inverses are
abbrev pub Divided : {M : Type 0} (R : RingOn M) → Var M → Var M → (FieldOf R → Type 0) → Type 0
Divided R (Native x) (Native y) P = (F : FieldOf R) × P F
Divided R (Native x) (Circuit j) P = (F : FieldOf R) → P F
Divided R (Circuit i) (Native y) P = (F : FieldOf R) → P F
Divided R (Circuit i) (Circuit j) P = (F : FieldOf R) → P F

abbrev pub Inverted : {M : Type 0} (R : RingOn M) → Var M → (FieldOf R → Type 0) → Type 0
Inverted R (Native x) P = (F : FieldOf R) × P F
Inverted R (Circuit i) P = (F : FieldOf R) → P F
