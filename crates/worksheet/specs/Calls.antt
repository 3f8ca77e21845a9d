-- What each accepted builder call appends to a worksheet, and what it answers.
use Rattle.std.specs.Prelude.{ℕ, suc, [], ◌∷◌, ◌++◌, length, Some, None, Option, slice_index_or}
use Rattle.ring.specs.Algebra.{RingOn, FieldOf}
use Rattle.worksheet.specs.declared.CircuitIdx.{CircuitIdx}
use Rattle.worksheet.specs.declared.CircuitIdx.TheVariants.{Constant, Witness, Node}
use Rattle.worksheet.specs.declared.CircuitNode.{CircuitNode}
use Rattle.worksheet.specs.declared.CircuitNode.TheVariants.{Add, Mul}
use Rattle.worksheet.specs.declared.Var.{Var}
use Rattle.worksheet.specs.declared.Var.TheVariants.{Native, Circuit}
use Rattle.worksheet.specs.Sheet.{Sheet}

-- a variable by what its native element means
abbrev pub var_means : {E M : Type 0} → (E → M) → Var E → Var M
var_means means (Native x) = Native (means x)
var_means means (Circuit a) = Circuit a

-- a worksheet, and what a call on it answers
abbrev pub Answered : Type 0 → Type 0
Answered M = Sheet M × Var M

abbrev pub push_constant : {M : Type 0} → Sheet M → M → Answered M
push_constant S x = (
  record { constants = S.constants ++ (x ∷ []); witnesses = S.witnesses; nodes = S.nodes; assertions = S.assertions },
  Circuit (Constant (length S.constants)),
)

abbrev pub push_witness : {M : Type 0} → Sheet M → Answered M
push_witness S = (
  record { constants = S.constants; witnesses = suc S.witnesses; nodes = S.nodes; assertions = S.assertions },
  Circuit (Witness S.witnesses),
)

abbrev pub push_node : {M : Type 0} → Sheet M → CircuitNode → Answered M
push_node S n = (
  record { constants = S.constants; witnesses = S.witnesses; nodes = S.nodes ++ (n ∷ []); assertions = S.assertions },
  Circuit (Node (length S.nodes)),
)

abbrev pub push_assertion : {M : Type 0} → Sheet M → CircuitIdx → CircuitIdx → Sheet M
push_assertion S a b =
    record { constants = S.constants; witnesses = S.witnesses; nodes = S.nodes; assertions = S.assertions ++ ((a, b) ∷ []) }

-- the number of a constant id
abbrev pub constant_of : CircuitIdx → Option ℕ
constant_of (Constant k) = Some k
constant_of (Witness w) = None
constant_of (Node n) = None

abbrev pub element : {M : Type 0} → RingOn M → Sheet M → ℕ → M
element R S k = slice_index_or S.constants k R.nought

-- add or multiply: the node that is made, and what it does to two elements
pub data Op : Type 0 where
  plus_op times_op : Op

abbrev pub node_of : Op → CircuitIdx → CircuitIdx → CircuitNode
node_of plus_op a b = Add a b
node_of times_op a b = Mul a b

abbrev pub apply : {M : Type 0} → RingOn M → Op → M → M → M
apply R plus_op x y = R.plus x y
apply R times_op x y = R.times x y

-- two ids: two constants make a constant, anything else a node
abbrev pub join_by : {M : Type 0} → RingOn M → Op → Sheet M → CircuitIdx → CircuitIdx → Option ℕ → Option ℕ → Answered M
join_by R o S a b (Some k) (Some m) = push_constant S (apply R o (element R S k) (element R S m))
join_by R o S a b (Some k) None = push_node S (node_of o a b)
join_by R o S a b None q = push_node S (node_of o a b)

abbrev pub join : {M : Type 0} → RingOn M → Op → Sheet M → CircuitIdx → CircuitIdx → Answered M
join R o S a b = join_by R o S a b (constant_of a) (constant_of b)

-- a native beside an id becomes a constant, and the first operand
abbrev pub operate : {M : Type 0} → RingOn M → Op → Sheet M → Var M → Var M → Answered M
operate R o S (Native x) (Native y) = (S, Native (apply R o x y))
operate R o S (Native x) (Circuit b) = join R o (push_constant S x).0 (Constant (length S.constants)) b
operate R o S (Circuit a) (Native y) = join R o (push_constant S y).0 (Constant (length S.constants)) a
operate R o S (Circuit a) (Circuit b) = join R o S a b

-- a constant id makes the negated constant, any other the constant minus one and a product
abbrev pub negate_by : {M : Type 0} → RingOn M → Sheet M → CircuitIdx → Option ℕ → Answered M
negate_by R S a (Some k) = push_constant S (R.minus (element R S k))
negate_by R S a None = push_node (push_constant S (R.minus R.unit)).0 (Mul (Constant (length S.constants)) a)

abbrev pub negated : {M : Type 0} → RingOn M → Sheet M → Var M → Answered M
negated R S (Native x) = (S, Native (R.minus x))
negated R S (Circuit a) = negate_by R S a (constant_of a)

abbrev pub subtracted : {M : Type 0} → RingOn M → Sheet M → Var M → Var M → Answered M
subtracted R S x y = let n = negated R S y in operate R plus_op n.0 x n.1

-- a native beside an id becomes a constant, and stands first
abbrev pub asserted : {M : Type 0} → Sheet M → Var M → Var M → Sheet M
asserted S (Native x) (Native y) = S
asserted S (Native x) (Circuit b) = push_assertion (push_constant S x).0 (Constant (length S.constants)) b
asserted S (Circuit a) (Native y) = push_assertion (push_constant S y).0 (Constant (length S.constants)) a
asserted S (Circuit a) (Circuit b) = push_assertion S a b

-- a witness q; q times y is asserted equal to x
abbrev pub quotient : {M : Type 0} → RingOn M → Sheet M → Var M → Var M → Answered M
quotient R S x y =
    let q = push_witness S in
    let p = operate R times_op q.0 q.1 y in
    (asserted p.0 p.1 x, q.1)

abbrev pub divided : {M : Type 0} → (R : RingOn M) → FieldOf R → Sheet M → Var M → Var M → Answered M
divided R F S (Native x) (Native y) = (S, Native (R.times x (F.inverse y)))
divided R F S (Native x) (Circuit b) = quotient R S (Native x) (Circuit b)
divided R F S (Circuit a) (Native y) = quotient R S (Circuit a) (Native y)
divided R F S (Circuit a) (Circuit b) = quotient R S (Circuit a) (Circuit b)

abbrev pub inverted : {M : Type 0} → (R : RingOn M) → FieldOf R → Sheet M → Var M → Answered M
inverted R F S (Native x) = (S, Native (F.inverse x))
inverted R F S (Circuit a) = quotient R S (Native R.unit) (Circuit a)

-- the square of x is asserted equal to x
abbrev pub squared : {M : Type 0} → RingOn M → Sheet M → Var M → Answered M
squared R S x = let p = operate R times_op S x x in (asserted p.0 p.1 x, x)

-- the sum, then the product, then their difference
abbrev pub either : {M : Type 0} → RingOn M → Sheet M → Var M → Var M → Answered M
either R S x y =
    let s = operate R plus_op S x y in
    let p = operate R times_op s.0 x y in
    subtracted R p.0 s.1 p.1

-- t minus f, b times that, then f plus the product
abbrev pub selected : {M : Type 0} → RingOn M → Sheet M → Var M → Var M → Var M → Answered M
selected R S b t f =
    let d = subtracted R S t f in
    let p = operate R times_op d.0 b d.1 in
    operate R plus_op p.0 f p.1
