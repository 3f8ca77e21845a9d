-- The worksheet in the tables while a call writes them.
use Rattle.std.specs.Prelude.{◌≡◌, ℕ, ◌+◌, ◌<◌, ◌≤◌, List, [], ◌∷◌, map, length, take, drop}
use Rattle.worksheet.specs.declared.CircuitIdx.{CircuitIdx}
use Rattle.worksheet.specs.declared.CircuitIdx.TheVariants.{Constant, Witness, Node}
use Rattle.worksheet.specs.declared.CircuitNode.{CircuitNode}
use Rattle.worksheet.specs.declared.Counts.{Counts}
use Rattle.worksheet.specs.declared.Var.{Var}
use Rattle.worksheet.specs.declared.Var.TheVariants.{Native, Circuit}
use Rattle.worksheet.specs.Sheet.{Sheet}
use Rattle.worksheet.specs.Calls.{Answered, var_means, Op, plus_op, times_op}
use Rattle.builder.specs.declared.Draft.{Draft}
use Rattle.builder.specs.declared.Op.{Op as Operation}
use Rattle.builder.specs.declared.Op.TheVariants.{Add, Multiply}
use Rattle.builder.specs.declared.cost.Cost.{Cost}
use Rattle.builder.specs.Cost.{kind_of}
use Rattle.builder.specs.Within.{Small, sum}

abbrev pub op_of : Operation → Op
op_of Add = plus_op
op_of Multiply = times_op

-- the worksheet that counts and tables stand for
abbrev pub sheet_in : {E M : Type 0} → (E → M) → Counts → List E → List CircuitNode → List (CircuitIdx × CircuitIdx) → Sheet M
sheet_in means n cs ns qs = record {
  constants = map means (take n.constants cs);
  witnesses = n.witnesses;
  nodes = take n.nodes ns;
  assertions = take n.assertions qs;
}

abbrev pub sheet_of : {E M : Type 0} → (E → M) → Draft E → Sheet M
sheet_of means t = sheet_in means t.counts t.constants.now t.nodes.now t.assertions.now

-- the counts and n more are small and within the tables
pub record Room {E : Type 0} (t : Draft E) (n : Counts) : Type 0 where
  pub small : Small (sum t.counts n)
  pub constants : t.counts.constants + n.constants ≤ length t.constants.now
  pub nodes : t.counts.nodes + n.nodes ≤ length t.nodes.now
  pub assertions : t.counts.assertions + n.assertions ≤ length t.assertions.now

-- an id of a constant is there
abbrev pub ThereId : ℕ → CircuitIdx → Type 0
ThereId n (Constant k) = k < n
ThereId n (Witness w) = Unit {0}
ThereId n (Node m) = Unit {0}

abbrev pub There : {E : Type 0} → Counts → Var E → Type 0
There n (Native x) = Unit {0}
There n (Circuit a) = ThereId n.constants a

abbrev pub AllThere : {E : Type 0} → Counts → List (Var E) → Type 0
AllThere n [] = Unit {0}
AllThere n (v ∷ vs) = There n v × AllThere n vs

-- the tables are the same memory, as long as they were, and past the counts they hold what they held
pub record Kept {E : Type 0} (was is : Draft E) : Type 0 where
  pub constants : drop is.counts.constants is.constants.now ≡ drop is.counts.constants was.constants.now
  pub nodes : drop is.counts.nodes is.nodes.now ≡ drop is.counts.nodes was.nodes.now
  pub assertions : drop is.counts.assertions is.assertions.now ≡ drop is.counts.assertions was.assertions.now
  pub long_constants : length is.constants.now ≡ length was.constants.now
  pub long_nodes : length is.nodes.now ≡ length was.nodes.now
  pub long_assertions : length is.assertions.now ≡ length was.assertions.now
  pub lent_constants : is.constants.ghost_name ≡ was.constants.ghost_name
  pub lent_nodes : is.nodes.ghost_name ≡ was.nodes.ghost_name
  pub lent_assertions : is.assertions.ghost_name ≡ was.assertions.ghost_name

-- a worksheet and n entries more: S
pub record Grew {E M : Type 0} (means : E → M) (was is : Draft E) (n : Counts) (S : Sheet M) : Type 0 where
  pub sheet : sheet_of means is ≡ S
  pub counts : is.counts ≡ sum was.counts n
  pub kept : Kept was is

-- and an answer, at a cost
pub record Wrote {E M : Type 0} (means : E → M) (was is : Draft E) (c : Cost) (A : Answered M) (v : Var E) : Type 0 where
  pub grew : Grew means was is c.counts A.0
  pub answer : var_means means v ≡ A.1
  pub kind : kind_of v ≡ c.kind
  pub there : There is.counts v
