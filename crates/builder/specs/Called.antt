-- What a call on a verifier's worksheet does: the step of its definition, in the tables that it is handed.
use Rattle.std.specs.Prelude.{◌≡◌, ℕ, Bool, true, false, ◌||◌, List, length, drop, nat_lt}
use Rattle.refusal.specs.Outcome.{refused}
use Rattle.ring.specs.Algebra.{RingOn}
use Rattle.worksheet.specs.declared.CircuitIdx.{CircuitIdx}
use Rattle.worksheet.specs.declared.CircuitNode.{CircuitNode}
use Rattle.worksheet.specs.declared.Counts.{Counts}
use Rattle.worksheet.specs.Law.{Stepped}
use Rattle.worksheet.specs.Runs.{verifier, Call, Reply, Worksheet}
use Rattle.builder.specs.declared.Builder.{Builder}
use Rattle.builder.specs.declared.Tables.{Tables}
use Rattle.builder.specs.Tables.{sheet_in}
use Rattle.builder.specs.Within.{Within}

-- some table is shorter than its capacity
abbrev pub short : {E : Type 0} → Counts → List E → List CircuitNode → List (CircuitIdx × CircuitIdx) → Bool
short cap cs ns qs = nat_lt (length cs) cap.constants || (nat_lt (length ns) cap.nodes || nat_lt (length qs) cap.assertions)

abbrev pub worksheet_in : {E M : Type 0} → (E → M) → Counts → List E → List CircuitNode → List (CircuitIdx × CircuitIdx) → Worksheet M verifier
worksheet_in means n cs ns qs = record { sheet = sheet_in means n cs ns qs; given = tt; worked = tt }

-- counts and tables before and after a call, n and n', cs and cs', ns and ns', qs and qs'; `lacks` where another
-- table that the call needs is short
pub record Called {E M : Type 0} (R : RingOn M) (means : E → M) (cap n n' : Counts) (lacks : Bool) (cs cs' : List E) (ns ns' : List CircuitNode) (qs qs' : List (CircuitIdx × CircuitIdx)) (c : Call R verifier) (p : Reply M) : Type 0 where
  -- a short table is refused with 2
  pub too_short : (lacks || short cap cs ns qs) ≡ true → p ≡ refused 2
  -- and anything else is the step of the call
  pub stepped : (lacks || short cap cs ns qs) ≡ false → Stepped R verifier cap (worksheet_in means n cs ns qs) (worksheet_in means n' cs' ns' qs') c p
  -- a refused call leaves everything as it was
  pub unchanged : (k : ℕ) → p ≡ refused k → (n' ≡ n) × (cs' ≡ cs) × (ns' ≡ ns) × (qs' ≡ qs)
  -- and any call what stands past the counts
  pub spare : (drop n'.constants cs' ≡ drop n'.constants cs) × (drop n'.nodes ns' ≡ drop n'.nodes ns) × (drop n'.assertions qs' ≡ drop n'.assertions qs)

-- tables that are the same memory, as long as they were
pub record Lent {E : Type 0} (t t' : Tables E) : Type 0 where
  pub constants : t'.constants.ghost_name ≡ t.constants.ghost_name
  pub nodes : t'.nodes.ghost_name ≡ t.nodes.ghost_name
  pub assertions : t'.assertions.ghost_name ≡ t.assertions.ghost_name
  pub long_constants : length t'.constants.now ≡ length t.constants.now
  pub long_nodes : length t'.nodes.now ≡ length t.nodes.now
  pub long_assertions : length t'.assertions.now ≡ length t.assertions.now

-- what every call keeps: the capacity, what was counted, and the memory of the tables
pub record Stays {E : Type 0} (was is : Builder) (t t' : Tables E) : Type 0 where
  pub capacity : is.capacity ≡ was.capacity
  pub grows : Within was.counts is.counts
  pub lent : Lent t t'

-- a call on a worksheet, at the capacity that it was opened with
pub record Made {E M : Type 0} (R : RingOn M) (means : E → M) (lacks : Bool) (was is : Builder) (t t' : Tables E) (c : Call R verifier) (p : Reply M) : Type 0 where
  pub called : Called R means was.capacity was.counts is.counts lacks t.constants.now t'.constants.now t.nodes.now t'.nodes.now t.assertions.now t'.assertions.now c p
  pub stays : Stays was is t t'
