-- How much a call appends, by the kinds of its operands alone.
use Rattle.std.specs.Prelude.{ℕ, ◌≤◌}
use Rattle.worksheet.specs.declared.CircuitIdx.{CircuitIdx}
use Rattle.worksheet.specs.declared.CircuitIdx.TheVariants.{Constant, Witness, Node}
use Rattle.worksheet.specs.declared.Counts.{Counts}
use Rattle.worksheet.specs.declared.Var.{Var}
use Rattle.worksheet.specs.declared.Var.TheVariants.{Native, Circuit}
use Rattle.builder.specs.declared.cost.Kind.{Kind}
use Rattle.builder.specs.declared.cost.Kind.TheVariants.{Native as native, Constant as constant, Other as other}
use Rattle.builder.specs.declared.cost.Cost.{Cost}
use Rattle.builder.specs.Within.{sum}

abbrev pub kind_of_id : CircuitIdx → Kind
kind_of_id (Constant k) = constant
kind_of_id (Witness w) = other
kind_of_id (Node n) = other

abbrev pub kind_of : {M : Type 0} → Var M → Kind
kind_of (Native x) = native
kind_of (Circuit a) = kind_of_id a

abbrev pub counts : ℕ → ℕ → ℕ → ℕ → Counts
counts c w n a = record { constants = c; witnesses = w; nodes = n; assertions = a }

abbrev pub cost : Counts → Kind → Cost
cost n k = record { counts = n; kind = k }

abbrev pub constant_cost : Cost
constant_cost = cost (counts 1 0 0 0) constant

abbrev pub witness_cost : Cost
witness_cost = cost (counts 0 1 0 0) other

abbrev pub node_cost : Cost
node_cost = cost (counts 0 0 1 0) other

-- n is appended first
abbrev pub after : Counts → Cost → Cost
after n c = cost (sum n c.counts) c.kind

-- two ids: a constant or a node
abbrev pub join_cost : Kind → Kind → Cost
join_cost constant constant = constant_cost
join_cost constant native = node_cost
join_cost constant other = node_cost
join_cost native b = node_cost
join_cost other b = node_cost

abbrev pub operate_cost : Kind → Kind → Cost
operate_cost native native = cost (counts 0 0 0 0) native
operate_cost native constant = after (counts 1 0 0 0) (join_cost constant constant)
operate_cost native other = after (counts 1 0 0 0) (join_cost constant other)
operate_cost constant native = after (counts 1 0 0 0) (join_cost constant constant)
operate_cost constant constant = join_cost constant constant
operate_cost constant other = join_cost constant other
operate_cost other native = after (counts 1 0 0 0) (join_cost constant other)
operate_cost other constant = join_cost other constant
operate_cost other other = join_cost other other

abbrev pub negate_cost : Kind → Cost
negate_cost native = cost (counts 0 0 0 0) native
negate_cost constant = constant_cost
negate_cost other = after (counts 1 0 0 0) node_cost

abbrev pub subtract_cost : Kind → Kind → Cost
subtract_cost a b = let n = negate_cost b in after n.counts (operate_cost a n.kind)

abbrev pub assert_cost : Kind → Kind → Counts
assert_cost native native = counts 0 0 0 0
assert_cost native constant = counts 1 0 0 1
assert_cost native other = counts 1 0 0 1
assert_cost constant native = counts 1 0 0 1
assert_cost constant constant = counts 0 0 0 1
assert_cost constant other = counts 0 0 0 1
assert_cost other native = counts 1 0 0 1
assert_cost other constant = counts 0 0 0 1
assert_cost other other = counts 0 0 0 1

abbrev pub quotient_cost : Kind → Kind → Cost
quotient_cost a b =
    let p = after (counts 0 1 0 0) (operate_cost other b) in
    cost (sum p.counts (assert_cost p.kind a)) other

abbrev pub square_cost : Kind → Cost
square_cost a = let p = operate_cost a a in cost (sum p.counts (assert_cost p.kind a)) a

abbrev pub either_cost : Kind → Kind → Cost
either_cost a b =
    let s = operate_cost a b in
    let p = operate_cost a b in
    after s.counts (after p.counts (subtract_cost s.kind p.kind))

abbrev pub select_cost : Kind → Kind → Kind → Cost
select_cost b t f =
    let d = subtract_cost t f in
    let p = operate_cost b d.kind in
    after d.counts (after p.counts (operate_cost f p.kind))

-- at most k of each
abbrev pub Few : ℕ → Counts → Type 0
Few k n = (n.constants ≤ k) × (n.witnesses ≤ k) × (n.nodes ≤ k) × (n.assertions ≤ k)
