-- How many witnesses each accepted call appends.
use Rattle.std.proofs.Common.{◌≡◌, ℕ, suc, ◌+◌, length, Some, None, Option, refl, ◌∙◌, arith}
use Rattle.ring.specs.Algebra.{RingOn}
use Rattle.worksheet.specs.declared.CircuitIdx.{CircuitIdx}
use Rattle.worksheet.specs.declared.CircuitIdx.TheVariants.{Constant}
use Rattle.worksheet.specs.declared.Var.{Var}
use Rattle.worksheet.specs.declared.Var.TheVariants.{Native, Circuit}
use Rattle.worksheet.specs.Sheet.{Sheet}
use Rattle.worksheet.specs.Calls.{push_constant, push_witness, constant_of, Op, plus_op, times_op, join_by, operate, negate_by, negated, subtracted, asserted, quotient, squared, either, selected}
use Rattle.worksheet.specs.Runs.{
  prover,
  Call,
  constant,
  witness,
  add,
  multiply,
  negate,
  subtract,
  divide,
  invert,
  assert_equal,
  boolean_constant,
  boolean_witness,
  boolean_assert,
  boolean_not,
  boolean_and,
  boolean_or,
  select,
  perform,
  fresh,
}

module _ {M : Type 0} (R : RingOn M) where
  joined_by : (o : Op) (S : Sheet M) (a b : CircuitIdx) (u v : Option ℕ) → (join_by R o S a b u v).0.witnesses ≡ S.witnesses
  joined_by o S a b (Some k) (Some m) = refl
  joined_by o S a b (Some k) None = refl
  joined_by o S a b None v = refl

  operated : (o : Op) (S : Sheet M) (x y : Var M) → (operate R o S x y).0.witnesses ≡ S.witnesses
  operated o S (Native x) (Native y) = refl
  operated o S (Native x) (Circuit b) = joined_by o (push_constant S x).0 (Constant (length S.constants)) b (Some (length S.constants)) (constant_of b)
  operated o S (Circuit a) (Native y) = joined_by o (push_constant S y).0 (Constant (length S.constants)) a (Some (length S.constants)) (constant_of a)
  operated o S (Circuit a) (Circuit b) = joined_by o S a b (constant_of a) (constant_of b)

  negates_by : (S : Sheet M) (a : CircuitIdx) (u : Option ℕ) → (negate_by R S a u).0.witnesses ≡ S.witnesses
  negates_by S a (Some k) = refl
  negates_by S a None = refl

  negates : (S : Sheet M) (x : Var M) → (negated R S x).0.witnesses ≡ S.witnesses
  negates S (Native x) = refl
  negates S (Circuit a) = negates_by S a (constant_of a)

  subtracts : (S : Sheet M) (x y : Var M) → (subtracted R S x y).0.witnesses ≡ S.witnesses
  subtracts S x y = let n = negated R S y in operated plus_op n.0 x n.1 ∙ negates S y

  asserts : (S : Sheet M) (x y : Var M) → (asserted S x y).witnesses ≡ S.witnesses
  asserts S (Native x) (Native y) = refl
  asserts S (Native x) (Circuit b) = refl
  asserts S (Circuit a) (Native y) = refl
  asserts S (Circuit a) (Circuit b) = refl

  squares : (S : Sheet M) (x : Var M) → (squared R S x).0.witnesses ≡ S.witnesses
  squares S x = let p = operate R times_op S x x in asserts p.0 p.1 x ∙ operated times_op S x x

  divides : (S : Sheet M) (x y : Var M) → (quotient R S x y).0.witnesses ≡ suc S.witnesses
  divides S x y =
      let q = push_witness S in
      let p = operate R times_op q.0 q.1 y in
      asserts p.0 p.1 x ∙ operated times_op q.0 q.1 y

  joins : (S : Sheet M) (x y : Var M) → (either R S x y).0.witnesses ≡ S.witnesses
  joins S x y =
      let s = operate R plus_op S x y in
      let p = operate R times_op s.0 x y in
      subtracts p.0 s.1 p.1 ∙ operated times_op s.0 x y ∙ operated plus_op S x y

  selects : (S : Sheet M) (b t f : Var M) → (selected R S b t f).0.witnesses ≡ S.witnesses
  selects S b t f =
      let d = subtracted R S t f in
      let p = operate R times_op d.0 b d.1 in
      operated plus_op p.0 f p.1 ∙ operated times_op d.0 b d.1 ∙ subtracts S t f

  module _ (val : CircuitIdx → M) (S : Sheet M) where
    pub appends : (c : Call R prover) → (perform R S c).0.witnesses ≡ S.witnesses + length (fresh R val c)
    appends (constant x) = omega arith
    appends (witness x) = omega arith
    appends (add x y) = omega (arith, operated plus_op S x y)
    appends (multiply x y) = omega (arith, operated times_op S x y)
    appends (negate x) = omega (arith, negates S x)
    appends (subtract x y) = omega (arith, subtracts S x y)
    appends (divide F (Native x) (Native y)) = omega arith
    appends (divide F (Native x) (Circuit b)) = omega (arith, divides S (Native x) (Circuit b))
    appends (divide F (Circuit a) (Native y)) = omega (arith, divides S (Circuit a) (Native y))
    appends (divide F (Circuit a) (Circuit b)) = omega (arith, divides S (Circuit a) (Circuit b))
    appends (invert F (Native x)) = omega arith
    appends (invert F (Circuit a)) = omega (arith, divides S (Native R.unit) (Circuit a))
    appends (assert_equal x y d) = omega (arith, asserts S x y)
    appends (boolean_constant b) = omega arith
    appends (boolean_witness b) = let q = push_witness S in omega (arith, squares q.0 q.1)
    appends (boolean_assert x d) = omega (arith, squares S x)
    appends (boolean_not x) = omega (arith, subtracts S (Native R.unit) x)
    appends (boolean_and x y) = omega (arith, operated times_op S x y)
    appends (boolean_or x y) = omega (arith, joins S x y)
    appends (select b t f) = omega (arith, selects S b t f)
