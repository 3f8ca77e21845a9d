-- Each builder call appends what it costs.
use Rattle.std.proofs.Common.{◌≡◌, length, refl, arith}
use Rattle.std.proofs.lemmas.Grind.{common_steps}
use Rattle.ring.specs.Algebra.{RingOn}
use Rattle.worksheet.specs.declared.Counts.{Counts}
use Rattle.worksheet.specs.declared.Var.{Var}
use Rattle.worksheet.specs.Sheet.{Sheet}
use Rattle.worksheet.specs.Calls.{Answered, Op, plus_op, times_op, push_constant, push_witness, operate, negated, subtracted, asserted, quotient, squared, either, selected}
use Rattle.builder.specs.declared.cost.Cost.{Cost}
use Rattle.builder.specs.Cost.{kind_of, counts, after, constant_cost, witness_cost, operate_cost, negate_cost, subtract_cost, assert_cost, quotient_cost, square_cost, either_cost, select_cost}
use Rattle.builder.specs.Within.{sum}

abbrev pub sizes : {M : Type 0} → Sheet M → Counts
sizes S = counts (length S.constants) S.witnesses (length S.nodes) (length S.assertions)

-- an answered call appends what it costs, and answers a variable of that kind
pub record Sized {M : Type 0} (S : Sheet M) (c : Cost) (A : Answered M) : Type 0 where
  pub counts : sizes A.0 ≡ sum (sizes S) c.counts
  pub kind : kind_of A.1 ≡ c.kind

module _ {M : Type 0} {S : Sheet M} {n : Cost} {A : Answered M} where
  -- a second call on the worksheet of the first, with no answer or with one
  sizes_then : (m : Counts) (T : Sheet M) → Sized S n A → sizes T ≡ sum (sizes A.0) m → sizes T ≡ sum (sizes S) (sum n.counts m)
  sizes_then m T h e = grind arith

  pub sized_then : {m : Cost} {B : Answered M} → Sized S n A → Sized A.0 m B → Sized S (after n.counts m) B
  sized_then {m} {B} h k = record { counts = sizes_then m.counts B.0 h k.counts; kind = k.kind }

module _ {M : Type 0} (S : Sheet M) where
  pub zero_sized : sizes S ≡ sum (sizes S) (counts 0 0 0 0)
  zero_sized = grind arith

  pub constant_sized : (x : M) → Sized S constant_cost (push_constant S x)
  constant_sized x = grind (arith, common_steps)

  pub witness_sized : Sized S witness_cost (push_witness S)
  witness_sized = grind arith

  pub assert_sized : (x y : Var M) → sizes (asserted S x y) ≡ sum (sizes S) (assert_cost (kind_of x) (kind_of y))
  assert_sized x y = grind (arith, common_steps)

module _ {M : Type 0} (R : RingOn M) where
  pub operate_sized : (S : Sheet M) (o : Op) (x y : Var M) → Sized S (operate_cost (kind_of x) (kind_of y)) (operate R o S x y)
  operate_sized S o x y = grind (arith, common_steps)

  pub negate_sized : (S : Sheet M) (x : Var M) → Sized S (negate_cost (kind_of x)) (negated R S x)
  negate_sized S x = grind (arith, common_steps)

  pub subtract_sized : (S : Sheet M) (x y : Var M) → Sized S (subtract_cost (kind_of x) (kind_of y)) (subtracted R S x y)
  subtract_sized S x y = grind (arith, negate_sized, operate_sized)

  pub quotient_sized : (S : Sheet M) (x y : Var M) → Sized S (quotient_cost (kind_of x) (kind_of y)) (quotient R S x y)
  quotient_sized S x y =
      let q = push_witness S in
      let p = operate R times_op q.0 q.1 y in
      let product = sized_then (witness_sized S) (operate_sized q.0 times_op q.1 y) in
      let asserted = rw product.kind at (assert_sized p.0 p.1 x) in
      record { counts = sizes_then _ _ product asserted; kind = refl }

  pub square_sized : (S : Sheet M) (x : Var M) → Sized S (square_cost (kind_of x)) (squared R S x)
  square_sized S x = grind (arith, operate_sized, assert_sized)

  pub either_sized : (S : Sheet M) (x y : Var M) → Sized S (either_cost (kind_of x) (kind_of y)) (either R S x y)
  either_sized S x y = grind (arith, operate_sized, subtract_sized)

  pub select_sized : (S : Sheet M) (b t f : Var M) → Sized S (select_cost (kind_of b) (kind_of t) (kind_of f)) (selected R S b t f)
  select_sized S b t f =
      let d = subtracted R S t f in
      let p = operate R times_op d.0 b d.1 in
      let difference = subtract_sized S t f in
      let product = rw difference.kind at (operate_sized d.0 times_op b d.1) in
      let rest = rw product.kind at (operate_sized p.0 plus_op f p.1) in
      sized_then difference (sized_then product rest)
