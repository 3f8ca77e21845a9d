-- Runs of builder calls: capacities, refusals, answers, and a prover's values.
use Rattle.std.specs.Prelude.{◌≡◌, ℕ, Bool, true, false, cond, not, ◌&&◌, List, [], ◌∷◌, ◌++◌, length, drop, Some, None, Option, ◌≢◌, nat_lt, slice_index_or}
use Rattle.refusal.specs.Outcome.{Outcome, accepted, refused}
use Rattle.ring.specs.Algebra.{RingOn, FieldOf}
use Rattle.worksheet.specs.declared.CircuitIdx.{CircuitIdx}
use Rattle.worksheet.specs.declared.CircuitIdx.TheVariants.{Constant, Witness, Node}
use Rattle.worksheet.specs.declared.CircuitNode.{CircuitNode}
use Rattle.worksheet.specs.declared.Counts.{Counts}
use Rattle.worksheet.specs.declared.Var.{Var}
use Rattle.worksheet.specs.declared.Var.TheVariants.{Native, Circuit}
use Rattle.worksheet.specs.Sheet.{Sheet, empty_sheet, combine, left_of, right_of}
use Rattle.worksheet.specs.Calls.{Answered, push_constant, push_witness, plus_op, times_op, operate, negated, subtracted, asserted, divided, inverted, squared, either, selected}

-- whose worksheet it is: a verifier's holds no values
pub data Role : Type 0 where
  prover verifier : Role

abbrev pub Held : Role → Type 0 → Type 0
Held prover A = A
Held verifier A = Unit {0}

-- what a comparison of two members says: a ring owes no test of equality on all members
pub record Decided {M : Type 0} (x y : M) : Type 0 where
  pub yes? : Bool
  pub if_yes : yes? ≡ true → x ≡ y
  pub if_no : yes? ≡ false → x ≢ y

-- two natives that are asserted equal come compared; nothing else is
abbrev pub Settled : {M : Type 0} → Var M → Var M → Type 0
Settled (Native x) (Native y) = Decided x y
Settled (Native x) (Circuit b) = Unit {0}
Settled (Circuit a) (Native y) = Unit {0}
Settled (Circuit a) (Circuit b) = Unit {0}

-- a native's square; of an id nothing is compared
abbrev pub native_square : {M : Type 0} → RingOn M → Var M → Var M
native_square R (Native x) = Native (R.times x x)
native_square R (Circuit a) = Circuit a

-- divide and invert come with the proof that the ring is a field
pub data Call {M : Type 0} (R : RingOn M) (r : Role) : Type 0 where
  constant : M → Call R r
  witness : Held r M → Call R r
  add : Var M → Var M → Call R r
  multiply : Var M → Var M → Call R r
  negate : Var M → Call R r
  subtract : Var M → Var M → Call R r
  divide : FieldOf R → Var M → Var M → Call R r
  invert : FieldOf R → Var M → Call R r
  assert_equal : (x y : Var M) → Settled x y → Call R r
  boolean_constant : Bool → Call R r
  boolean_witness : Held r Bool → Call R r
  boolean_assert : (x : Var M) → Settled (native_square R x) x → Call R r
  boolean_not : Var M → Call R r
  boolean_and : Var M → Var M → Call R r
  boolean_or : Var M → Var M → Call R r
  select : Var M → Var M → Var M → Call R r

-- the same call on a verifier's worksheet
abbrev pub erase : {M : Type 0} {R : RingOn M} → Call R prover → Call R verifier
erase (constant x) = constant x
erase (witness x) = witness tt
erase (add x y) = add x y
erase (multiply x y) = multiply x y
erase (negate x) = negate x
erase (subtract x y) = subtract x y
erase (divide F x y) = divide F x y
erase (invert F x) = invert F x
erase (assert_equal x y d) = assert_equal x y d
erase (boolean_constant b) = boolean_constant b
erase (boolean_witness b) = boolean_witness tt
erase (boolean_assert x d) = boolean_assert x d
erase (boolean_not x) = boolean_not x
erase (boolean_and x y) = boolean_and x y
erase (boolean_or x y) = boolean_or x y
erase (select b t f) = select b t f

-- two calls ask the same: equal natives and ids, whatever values witnesses are given and whatever
-- evidence comes along; of a field only the inverses count
pub data SameCall {M : Type 0} {R : RingOn M} {r s : Role} : Call R r → Call R s → Type 0 where
  same_constant : (x : M) → SameCall (constant x) (constant x)
  same_witness : (x : Held r M) (y : Held s M) → SameCall (witness x) (witness y)
  same_add : (x y : Var M) → SameCall (add x y) (add x y)
  same_multiply : (x y : Var M) → SameCall (multiply x y) (multiply x y)
  same_negate : (x : Var M) → SameCall (negate x) (negate x)
  same_subtract : (x y : Var M) → SameCall (subtract x y) (subtract x y)
  same_divide : (F G : FieldOf R) → ((z : M) → F.inverse z ≡ G.inverse z) → (x y : Var M) → SameCall (divide F x y) (divide G x y)
  same_invert : (F G : FieldOf R) → ((z : M) → F.inverse z ≡ G.inverse z) → (x : Var M) → SameCall (invert F x) (invert G x)
  same_assert_equal : (x y : Var M) (d e : Settled x y) → SameCall (assert_equal x y d) (assert_equal x y e)
  same_boolean_constant : (b : Bool) → SameCall (boolean_constant b) (boolean_constant b)
  same_boolean_witness : (x : Held r Bool) (y : Held s Bool) → SameCall (boolean_witness x) (boolean_witness y)
  same_boolean_assert : (x : Var M) (d e : Settled (native_square R x) x) → SameCall (boolean_assert x d) (boolean_assert x e)
  same_boolean_not : (x : Var M) → SameCall (boolean_not x) (boolean_not x)
  same_boolean_and : (x y : Var M) → SameCall (boolean_and x y) (boolean_and x y)
  same_boolean_or : (x y : Var M) → SameCall (boolean_or x y) (boolean_or x y)
  same_select : (b t f : Var M) → SameCall (select b t f) (select b t f)

abbrev pub SameCalls : {M : Type 0} {R : RingOn M} {r s : Role} → List (Call R r) → List (Call R s) → Type 0
SameCalls [] [] = Unit {0}
SameCalls [] (d ∷ ds) = ⊥
SameCalls (c ∷ cs) [] = ⊥
SameCalls (c ∷ cs) (d ∷ ds) = SameCall c d × SameCalls cs ds

-- one or zero
abbrev pub bit : {M : Type 0} → RingOn M → Bool → M
bit R b = cond b R.unit R.nought

-- what the accepted call appends and answers
abbrev pub perform : {M : Type 0} (R : RingOn M) {r : Role} → Sheet M → Call R r → Answered M
perform R S (constant x) = push_constant S x
perform R S (witness x) = push_witness S
perform R S (add x y) = operate R plus_op S x y
perform R S (multiply x y) = operate R times_op S x y
perform R S (negate x) = negated R S x
perform R S (subtract x y) = subtracted R S x y
perform R S (divide F x y) = divided R F S x y
perform R S (invert F x) = inverted R F S x
perform R S (assert_equal x y d) = (asserted S x y, x)
perform R S (boolean_constant b) = (S, Native (bit R b))
perform R S (boolean_witness b) = let q = push_witness S in squared R q.0 q.1
perform R S (boolean_assert x d) = squared R S x
perform R S (boolean_not x) = subtracted R S (Native R.unit) x
perform R S (boolean_and x y) = operate R times_op S x y
perform R S (boolean_or x y) = either R S x y
perform R S (select b t f) = selected R S b t f

abbrev pub operands : {M : Type 0} {R : RingOn M} {r : Role} → Call R r → List (Var M)
operands (constant x) = []
operands (witness x) = []
operands (add x y) = x ∷ (y ∷ [])
operands (multiply x y) = x ∷ (y ∷ [])
operands (negate x) = x ∷ []
operands (subtract x y) = x ∷ (y ∷ [])
operands (divide F x y) = x ∷ (y ∷ [])
operands (invert F x) = x ∷ []
operands (assert_equal x y d) = x ∷ (y ∷ [])
operands (boolean_constant b) = []
operands (boolean_witness b) = []
operands (boolean_assert x d) = x ∷ []
operands (boolean_not x) = x ∷ []
operands (boolean_and x y) = x ∷ (y ∷ [])
operands (boolean_or x y) = x ∷ (y ∷ [])
operands (select b t f) = b ∷ (t ∷ (f ∷ []))

-- the id is the worksheet's
abbrev pub present : {M : Type 0} → Sheet M → CircuitIdx → Bool
present S (Constant k) = nat_lt k (length S.constants)
present S (Witness w) = nat_lt w S.witnesses
present S (Node n) = nat_lt n (length S.nodes)

abbrev pub known : {M : Type 0} → Sheet M → Var M → Bool
known S (Native x) = true
known S (Circuit a) = present S a

abbrev pub all_known : {M : Type 0} → Sheet M → List (Var M) → Bool
all_known S [] = true
all_known S (x ∷ xs) = known S x && all_known S xs

abbrev pub natives_differ : {M : Type 0} (x y : Var M) → Settled x y → Bool
natives_differ (Native x) (Native y) d = not d.yes?
natives_differ (Native x) (Circuit b) d = false
natives_differ (Circuit a) (Native y) d = false
natives_differ (Circuit a) (Circuit b) d = false

-- an assertion of the call is of two unequal natives
abbrev pub clashes : {M : Type 0} (R : RingOn M) {r : Role} → Call R r → Bool
clashes R (constant x) = false
clashes R (witness x) = false
clashes R (add x y) = false
clashes R (multiply x y) = false
clashes R (negate x) = false
clashes R (subtract x y) = false
clashes R (divide F x y) = false
clashes R (invert F x) = false
clashes R (assert_equal x y d) = natives_differ x y d
clashes R (boolean_constant b) = false
clashes R (boolean_witness b) = false
clashes R (boolean_assert x d) = natives_differ (native_square R x) x d
clashes R (boolean_not x) = false
clashes R (boolean_and x y) = false
clashes R (boolean_or x y) = false
clashes R (select b t f) = false

-- causes of refusal with their numbers, tried in order
abbrev pub refusal : List (Bool × ℕ) → Option ℕ
refusal [] = None
refusal (p ∷ ps) = cond p.0 (Some p.1) (refusal ps)

abbrev pub Capacities : Type 0
Capacities = Counts

abbrev pub call_causes : {M : Type 0} (R : RingOn M) {r : Role} → Capacities → Sheet M → Call R r → List (Bool × ℕ)
call_causes R cap S c =
    let T = (perform R S c).0 in
    (not (all_known S (operands c)), 3)
    ∷ ((clashes R c, 4)
    ∷ ((nat_lt cap.constants (length T.constants), 5)
    ∷ ((nat_lt cap.witnesses T.witnesses, 6)
    ∷ ((nat_lt cap.nodes (length T.nodes), 7)
    ∷ ((nat_lt cap.assertions (length T.assertions), 8) ∷ [])))))

-- what a call returns: a variable or nothing, or the number of its refusal
abbrev pub Reply : Type 0 → Type 0
Reply M = Outcome (Option (Var M))

abbrev pub reply : {M : Type 0} {R : RingOn M} {r : Role} → Call R r → Var M → Reply M
reply (constant x) v = accepted (Some v)
reply (witness x) v = accepted (Some v)
reply (add x y) v = accepted (Some v)
reply (multiply x y) v = accepted (Some v)
reply (negate x) v = accepted (Some v)
reply (subtract x y) v = accepted (Some v)
reply (divide F x y) v = accepted (Some v)
reply (invert F x) v = accepted (Some v)
reply (assert_equal x y d) v = accepted None
reply (boolean_constant b) v = accepted (Some v)
reply (boolean_witness b) v = accepted (Some v)
reply (boolean_assert x d) v = accepted (Some v)
reply (boolean_not x) v = accepted (Some v)
reply (boolean_and x y) v = accepted (Some v)
reply (boolean_or x y) v = accepted (Some v)
reply (select b t f) v = accepted (Some v)

-- the value of an id, read from the values of witnesses and nodes
abbrev pub look : {M : Type 0} → RingOn M → Sheet M → List M → List M → CircuitIdx → M
look R S ρ ws (Constant k) = slice_index_or S.constants k R.nought
look R S ρ ws (Witness w) = slice_index_or ρ w R.nought
look R S ρ ws (Node n) = slice_index_or ws n R.nought

-- the values of further nodes, each the sum or product of its operands' values
abbrev pub work_out : {M : Type 0} → RingOn M → Sheet M → List M → List M → List CircuitNode → List M
work_out R S ρ ws [] = ws
work_out R S ρ ws (nd ∷ nds) = work_out R S ρ (ws ++ (combine R nd (look R S ρ ws (left_of nd)) (look R S ρ ws (right_of nd)) ∷ [])) nds

abbrev pub quotient_values : {M : Type 0} (R : RingOn M) → FieldOf R → (CircuitIdx → M) → Var M → Var M → List M
quotient_values R F val (Native x) (Native y) = []
quotient_values R F val (Native x) (Circuit b) = R.times x (F.inverse (val b)) ∷ []
quotient_values R F val (Circuit a) (Native y) = R.times (val a) (F.inverse y) ∷ []
quotient_values R F val (Circuit a) (Circuit b) = R.times (val a) (F.inverse (val b)) ∷ []

abbrev pub inverse_values : {M : Type 0} (R : RingOn M) → FieldOf R → (CircuitIdx → M) → Var M → List M
inverse_values R F val (Native x) = []
inverse_values R F val (Circuit a) = F.inverse (val a) ∷ []

-- the values of the witnesses that an accepted call appends to a prover's worksheet with the values val
abbrev pub fresh : {M : Type 0} (R : RingOn M) → (CircuitIdx → M) → Call R prover → List M
fresh R val (constant x) = []
fresh R val (witness x) = x ∷ []
fresh R val (add x y) = []
fresh R val (multiply x y) = []
fresh R val (negate x) = []
fresh R val (subtract x y) = []
fresh R val (divide F x y) = quotient_values R F val x y
fresh R val (invert F x) = inverse_values R F val x
fresh R val (assert_equal x y d) = []
fresh R val (boolean_constant b) = []
fresh R val (boolean_witness b) = bit R b ∷ []
fresh R val (boolean_assert x d) = []
fresh R val (boolean_not x) = []
fresh R val (boolean_and x y) = []
fresh R val (boolean_or x y) = []
fresh R val (select b t f) = []

-- what a worksheet holds: `given` are the witnesses' values, `worked` the nodes'
pub record Worksheet (M : Type 0) (r : Role) : Type 0 where
  pub sheet : Sheet M
  pub given : Held r (List M)
  pub worked : Held r (List M)

abbrev pub opened : {M : Type 0} (r : Role) → Worksheet M r
opened prover = record { sheet = empty_sheet; given = []; worked = [] }
opened verifier = record { sheet = empty_sheet; given = tt; worked = tt }

-- a prover's worksheet's value of an id
abbrev pub values_of : {M : Type 0} → RingOn M → Worksheet M prover → CircuitIdx → M
values_of R W = look R W.sheet W.given W.worked

-- the values that a worksheet holds after a call that leaves the sheet T
abbrev pub more_given : {M : Type 0} (R : RingOn M) (r : Role) → Worksheet M r → Call R r → Held r (List M)
more_given R prover W c = W.given ++ fresh R (values_of R W) c
more_given R verifier W c = tt

abbrev pub more_worked : {M : Type 0} (R : RingOn M) (r : Role) → Worksheet M r → Sheet M → Call R r → Held r (List M)
more_worked R prover W T c = work_out R T (more_given R prover W c) W.worked (drop (length W.sheet.nodes) T.nodes)
more_worked R verifier W T c = tt

-- a refused call leaves everything as it was
abbrev pub step_by : {M : Type 0} (R : RingOn M) (r : Role) → Option ℕ → Worksheet M r → Call R r → Worksheet M r × Reply M
step_by R r (Some n) W c = (W, refused n)
step_by R r None W c =
    let p = perform R W.sheet c in
    (record { sheet = p.0; given = more_given R r W c; worked = more_worked R r W p.0 c }, reply c p.1)

abbrev pub step : {M : Type 0} (R : RingOn M) (r : Role) → Capacities → Worksheet M r → Call R r → Worksheet M r × Reply M
step R r cap W c = step_by R r (refusal (call_causes R cap W.sheet c)) W c

abbrev pub run_from : {M : Type 0} (R : RingOn M) (r : Role) → Capacities → List (Call R r) → Worksheet M r → Worksheet M r × List (Reply M)
run_from R r cap [] W = (W, [])
run_from R r cap (c ∷ cs) W =
    let s = step R r cap W c in
    let t = run_from R r cap cs s.0 in
    (t.0, s.1 ∷ t.1)

-- the calls in order on a worksheet newly opened; a refusal does not end the run
abbrev pub run : {M : Type 0} (R : RingOn M) (r : Role) → Capacities → List (Call R r) → Worksheet M r × List (Reply M)
run R r cap cs = run_from R r cap cs (opened r)
