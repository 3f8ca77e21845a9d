-- What a call on a prover's worksheet does: the step of its definition, in the tables that it is handed.
use Rattle.std.specs.Prelude.{◌≡◌, ℕ, Bool, true, false, length, drop}
use Rattle.refusal.specs.Outcome.{refused}
use Rattle.ring.specs.Algebra.{RingOn}
use Rattle.worksheet.specs.declared.Counts.{Counts}
use Rattle.worksheet.specs.Law.{Stepped}
use Rattle.worksheet.specs.Runs.{prover, Call, Reply}
use Rattle.builder.specs.declared.Builder.{Builder}
use Rattle.builder.specs.Called.{Stays as StructureStays}
use Rattle.prover.specs.declared.Ledger.{Ledger}
use Rattle.prover.specs.Book.{Book, book, held, short, worksheet_in}
use Rattle.prover.specs.Filled.{Filled}

-- counts and tables before and after a call, n and n', t and t'
pub record Called {E M : Type 0} (R : RingOn M) (means : E → M) (cap n n' : Counts) (t t' : Book E) (c : Call R prover) (p : Reply M) : Type 0 where
  -- a short table is refused with 2
  pub too_short : short cap t ≡ true → p ≡ refused 2
  -- and anything else is the step of the call
  pub stepped : short cap t ≡ false → Stepped R prover cap (worksheet_in means n t) (worksheet_in means n' t') c p
  -- a refused call leaves everything as it was
  pub unchanged : (k : ℕ) → p ≡ refused k → (n' ≡ n) × (t' ≡ t)
  -- and any call what stands past the counts
  pub spare_constants : drop n'.constants t'.constants ≡ drop n'.constants t.constants
  pub spare_nodes : drop n'.nodes t'.nodes ≡ drop n'.nodes t.nodes
  pub spare_assertions : drop n'.assertions t'.assertions ≡ drop n'.assertions t.assertions
  pub spare_values : drop n'.witnesses t'.values ≡ drop n'.witnesses t.values
  pub spare_worked : drop n'.nodes t'.worked ≡ drop n'.nodes t.worked

-- what every call keeps: what it keeps of the structure, and the values' memory, as long as it was
pub record Stays {E : Type 0} (was is : Builder) (t t' : Ledger E) : Type 0 where
  pub structure : StructureStays was is t.tables t'.tables
  pub lent_values : t'.values.ghost_name ≡ t.values.ghost_name
  pub lent_worked : t'.worked.ghost_name ≡ t.worked.ghost_name
  pub long_values : length t'.values.now ≡ length t.values.now
  pub long_worked : length t'.worked.now ≡ length t.worked.now

-- a call on a worksheet, at the capacity that it was opened with
pub record Made {E M : Type 0} (R : RingOn M) (means : E → M) (was is : Builder) (t t' : Ledger E) (c : Call R prover) (p : Reply M) : Type 0 where
  pub called : Called R means was.capacity was.counts is.counts (held t) (held t') c p
  pub stays : Stays was is t t'

-- what it does to the values, where a new witness is handed x: the new entries' are filled in where it is accepted, and no other
pub record Written {E M : Type 0} (R : RingOn M) (means : E → M) (was is : Builder) (t t' : Ledger E) (x : E) (ok : Bool) : Type 0 where
  pub filled : ok ≡ true → Filled R means was.counts is.counts x (book t'.tables.constants.now t'.tables.nodes.now t'.tables.assertions.now t.values.now t.worked.now) (held t')
  pub unwritten : ok ≡ false → (t'.values.now ≡ t.values.now) × (t'.worked.now ≡ t.worked.now)
