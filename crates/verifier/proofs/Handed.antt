-- What a verifier's call does whatever value a witness has, it does.
use Rattle.std.specs.Prelude.{Bool, false}
use Rattle.ring.specs.Algebra.{RingOn}
use Rattle.worksheet.specs.Runs.{verifier, Call, Reply}
use Rattle.builder.specs.declared.Builder.{Builder}
use Rattle.builder.specs.declared.Tables.{Tables}
use Rattle.builder.specs.Called.{Made}

module _ {E M : Type 0} (R : RingOn M) (means : E → M) (was is : Builder) (t t' : Tables E) (c : Call R verifier) (p : Reply M) where
  pub any_element : (M → Unit {0} → Made R means false was is t t' c p) → Made R means false was is t t' c p
  any_element all = all R.nought tt

  pub any_bit : (Bool → Unit {0} → Made R means false was is t t' c p) → Made R means false was is t t' c p
  any_bit all = all false tt
