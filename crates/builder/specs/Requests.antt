-- A builder call as a value: its operands, its cost, what it appends and answers, and which calls of the definition it stands for.
use Rattle.std.specs.Prelude.{◌≡◌, Bool, false, List, [], ◌∷◌, Some, None, Option}
use Rattle.ring.specs.Algebra.{RingOn, FieldOf}
use Rattle.worksheet.specs.declared.CircuitIdx.{CircuitIdx}
use Rattle.worksheet.specs.declared.Var.{Var}
use Rattle.worksheet.specs.declared.Var.TheVariants.{Native, Circuit}
use Rattle.worksheet.specs.Sheet.{Sheet}
use Rattle.worksheet.specs.Calls.{Answered, var_means, push_constant, push_witness, plus_op, times_op, operate, negated, subtracted, asserted, quotient, squared, either, selected}
use Rattle.worksheet.specs.Runs.{prover, verifier, Call, erase, bit, constant, witness, add, multiply, negate, subtract, divide, invert, assert_equal, boolean_witness, boolean_assert, boolean_not, boolean_and, boolean_or, select, Settled, native_square, natives_differ}
use Rattle.builder.specs.declared.cost.Cost.{Cost}
use Rattle.builder.specs.declared.cost.Kind.TheVariants.{Native as native_kind}
use Rattle.builder.specs.declared.Request.{Request}
use Rattle.builder.specs.declared.Request.TheVariants.{Constant, Witness, Add, Multiply, Negate, Subtract, DivideBy, DivideId, Invert, AssertEqual, BooleanWitness, BooleanAssert, Not, And, Or, Select}
use Rattle.builder.specs.Cost.{cost, after, counts, kind_of, kind_of_id, constant_cost, witness_cost, operate_cost, negate_cost, subtract_cost, assert_cost, quotient_cost, square_cost, either_cost, select_cost}

abbrev pub vars : {E : Type 0} → Request E → List (Var E)
vars (Constant x) = []
vars Witness = []
vars (Add a b) = a ∷ (b ∷ [])
vars (Multiply a b) = a ∷ (b ∷ [])
vars (Negate a) = a ∷ []
vars (Subtract a b) = a ∷ (b ∷ [])
vars (DivideBy a i) = a ∷ (Circuit i ∷ [])
vars (DivideId i y) = Circuit i ∷ (Native y ∷ [])
vars (Invert i) = Circuit i ∷ []
vars (AssertEqual a b) = a ∷ (b ∷ [])
vars BooleanWitness = []
vars (BooleanAssert a) = a ∷ []
vars (Not a) = a ∷ []
vars (And a b) = a ∷ (b ∷ [])
vars (Or a b) = a ∷ (b ∷ [])
vars (Select b t f) = b ∷ (t ∷ (f ∷ []))

abbrev pub request_cost : {E : Type 0} → Request E → Cost
request_cost (Constant x) = constant_cost
request_cost Witness = witness_cost
request_cost (Add a b) = operate_cost (kind_of a) (kind_of b)
request_cost (Multiply a b) = operate_cost (kind_of a) (kind_of b)
request_cost (Negate a) = negate_cost (kind_of a)
request_cost (Subtract a b) = subtract_cost (kind_of a) (kind_of b)
request_cost (DivideBy a i) = quotient_cost (kind_of a) (kind_of_id i)
request_cost (DivideId i y) = quotient_cost (kind_of_id i) (kind_of (Native y))
request_cost (Invert i) = quotient_cost native_kind (kind_of_id i)
request_cost (AssertEqual a b) = cost (assert_cost (kind_of a) (kind_of b)) (kind_of a)
request_cost BooleanWitness = after (counts 0 1 0 0) (square_cost witness_cost.kind)
request_cost (BooleanAssert a) = square_cost (kind_of a)
request_cost (Not a) = subtract_cost native_kind (kind_of a)
request_cost (And a b) = operate_cost (kind_of a) (kind_of b)
request_cost (Or a b) = either_cost (kind_of a) (kind_of b)
request_cost (Select b t f) = select_cost (kind_of b) (kind_of t) (kind_of f)

module _ {E M : Type 0} (R : RingOn M) (means : E → M) where
  abbrev pub performed : Sheet M → Request E → Answered M
  performed S (Constant x) = push_constant S (means x)
  performed S Witness = push_witness S
  performed S (Add a b) = operate R plus_op S (var_means means a) (var_means means b)
  performed S (Multiply a b) = operate R times_op S (var_means means a) (var_means means b)
  performed S (Negate a) = negated R S (var_means means a)
  performed S (Subtract a b) = subtracted R S (var_means means a) (var_means means b)
  performed S (DivideBy a i) = quotient R S (var_means means a) (Circuit i)
  performed S (DivideId i y) = quotient R S (Circuit i) (Native (means y))
  performed S (Invert i) = quotient R S (Native R.unit) (Circuit i)
  performed S (AssertEqual a b) = (asserted S (var_means means a) (var_means means b), var_means means a)
  performed S BooleanWitness = squared R (push_witness S).0 (push_witness S).1
  performed S (BooleanAssert a) = squared R S (var_means means a)
  performed S (Not a) = subtracted R S (Native R.unit) (var_means means a)
  performed S (And a b) = operate R times_op S (var_means means a) (var_means means b)
  performed S (Or a b) = either R S (var_means means a) (var_means means b)
  performed S (Select b t f) = selected R S (var_means means b) (var_means means t) (var_means means f)

  -- what is shown of an answer
  abbrev pub shown : Request E → Var M → Option (Var M)
  shown (Constant x) v = Some v
  shown Witness v = Some v
  shown (Add a b) v = Some v
  shown (Multiply a b) v = Some v
  shown (Negate a) v = Some v
  shown (Subtract a b) v = Some v
  shown (DivideBy a i) v = Some v
  shown (DivideId i y) v = Some v
  shown (Invert i) v = Some v
  shown (AssertEqual a b) v = None
  shown BooleanWitness v = Some v
  shown (BooleanAssert a) v = Some v
  shown (Not a) v = Some v
  shown (And a b) v = Some v
  shown (Or a b) v = Some v
  shown (Select b t f) v = Some v

  -- b says whether the request asserts unequal natives equal
  abbrev pub Clash : Request E → Bool → Type 0
  Clash (Constant x) b = b ≡ false
  Clash Witness b = b ≡ false
  Clash (Add x y) b = b ≡ false
  Clash (Multiply x y) b = b ≡ false
  Clash (Negate x) b = b ≡ false
  Clash (Subtract x y) b = b ≡ false
  Clash (DivideBy x i) b = b ≡ false
  Clash (DivideId i y) b = b ≡ false
  Clash (Invert i) b = b ≡ false
  Clash (AssertEqual x y) b = (d : Settled (var_means means x) (var_means means y)) × (b ≡ natives_differ (var_means means x) (var_means means y) d)
  Clash BooleanWitness b = b ≡ false
  Clash (BooleanAssert x) b = (d : Settled (native_square R (var_means means x)) (var_means means x)) × (b ≡ natives_differ (native_square R (var_means means x)) (var_means means x) d)
  Clash (Not x) b = b ≡ false
  Clash (And x y) b = b ≡ false
  Clash (Or x y) b = b ≡ false
  Clash (Select x y z) b = b ≡ false

-- P of a comparison, whichever it is, and that there is one
abbrev pub Compared : (A : Type 0) → (A → Type 0) → Type 0
Compared A P = A × ((d : A) → P d)

-- a variable's value, where ids have the values val
abbrev pub worth : {M : Type 0} → (CircuitIdx → M) → Var M → M
worth val (Native x) = x
worth val (Circuit a) = val a

-- P of each call that the request stands for, where ids have the values val: natives that are asserted equal are
-- compared, and a new witness has a value that it may be handed
module _ {E M : Type 0} (R : RingOn M) (means : E → M) (val : CircuitIdx → M) (Hands : M → Type 0) where
  abbrev pub Of : Request E → (Call R prover → Type 0) → Type 0
  Of (Constant y) P = P (constant (means y))
  Of Witness P = (x : M) → Hands x → P (witness x)
  Of (Add a b) P = P (add (var_means means a) (var_means means b))
  Of (Multiply a b) P = P (multiply (var_means means a) (var_means means b))
  Of (Negate a) P = P (negate (var_means means a))
  Of (Subtract a b) P = P (subtract (var_means means a) (var_means means b))
  Of (DivideBy a i) P = (F : FieldOf R) → Hands (R.times (worth val (var_means means a)) (F.inverse (val i))) → P (divide F (var_means means a) (Circuit i))
  Of (DivideId i y) P = (F : FieldOf R) → Hands (R.times (val i) (F.inverse (means y))) → P (divide F (Circuit i) (Native (means y)))
  Of (Invert i) P = (F : FieldOf R) → Hands (F.inverse (val i)) → P (invert F (Circuit i))
  Of (AssertEqual a b) P = Compared (Settled (var_means means a) (var_means means b)) (λ d. P (assert_equal (var_means means a) (var_means means b) d))
  Of BooleanWitness P = (b : Bool) → Hands (bit R b) → P (boolean_witness b)
  Of (BooleanAssert a) P = Compared (Settled (native_square R (var_means means a)) (var_means means a)) (λ d. P (boolean_assert (var_means means a) d))
  Of (Not a) P = P (boolean_not (var_means means a))
  Of (And a b) P = P (boolean_and (var_means means a) (var_means means b))
  Of (Or a b) P = P (boolean_or (var_means means a) (var_means means b))
  Of (Select b t f) P = P (select (var_means means b) (var_means means t) (var_means means f))

-- P of a verifier's: no value is looked at
abbrev pub OfStructure : {E M : Type 0} (R : RingOn M) (means : E → M) → Request E → (Call R verifier → Type 0) → Type 0
OfStructure R means q P = Of R means (λ _. R.nought) (λ _. Unit {0}) q (λ c. P (erase c))
