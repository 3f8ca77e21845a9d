-- What a call comes to: a value, or the number of the refusal.
use Rattle.std.specs.Prelude.{ℕ, Ok, Err, Result}
use Rattle.refusal.specs.declared.Refusal.{Refusal}
use Rattle.refusal.specs.Number.{number_of}

pub data Outcome (A : Type 0) : Type 0 where
  accepted : A → Outcome A
  refused : ℕ → Outcome A

-- of an answer, where f says what it stands for
abbrev pub outcome : {T A : Type 0} → (T → A) → Result T Refusal → Outcome A
outcome f (Ok t) = accepted (f t)
outcome f (Err e) = refused (number_of e)
