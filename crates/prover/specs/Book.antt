-- The tables of a prover's worksheet, and the worksheet that they and its counts stand for.
use Rattle.std.specs.Prelude.{Bool, ◌||◌, List, [], map, length, take, nat_lt}
use Rattle.worksheet.specs.declared.CircuitIdx.{CircuitIdx}
use Rattle.worksheet.specs.declared.CircuitNode.{CircuitNode}
use Rattle.worksheet.specs.declared.Counts.{Counts}
use Rattle.worksheet.specs.Sheet.{Sheet}
use Rattle.ring.specs.Algebra.{RingOn}
use Rattle.worksheet.specs.Runs.{prover, Worksheet, look}
use Rattle.builder.specs.Called.{short as short_sheet}
use Rattle.builder.specs.Tables.{sheet_in}
use Rattle.prover.specs.declared.Ledger.{Ledger}

-- values has one entry for each witness, worked one for each node
pub record Book (E : Type 0) : Type 0 where
  pub constants : List E
  pub nodes : List CircuitNode
  pub assertions : List (CircuitIdx × CircuitIdx)
  pub values : List E
  pub worked : List E

abbrev pub book : {E : Type 0} → List E → List CircuitNode → List (CircuitIdx × CircuitIdx) → List E → List E → Book E
book cs ns qs vs ws = record { constants = cs; nodes = ns; assertions = qs; values = vs; worked = ws }

abbrev pub held : {E : Type 0} → Ledger E → Book E
held t = book t.tables.constants.now t.tables.nodes.now t.tables.assertions.now t.values.now t.worked.now

-- some table of values is shorter than its capacity
abbrev pub lacks : {E : Type 0} → Counts → Book E → Bool
lacks cap t = nat_lt (length t.values) cap.witnesses || nat_lt (length t.worked) cap.nodes

-- some table is
abbrev pub short : {E : Type 0} → Counts → Book E → Bool
short cap t = lacks cap t || short_sheet cap t.constants t.nodes t.assertions

abbrev pub sheet_of : {E M : Type 0} → (E → M) → Counts → Book E → Sheet M
sheet_of means n t = sheet_in means n t.constants t.nodes t.assertions

abbrev pub worksheet_in : {E M : Type 0} → (E → M) → Counts → Book E → Worksheet M prover
worksheet_in means n t = record {
  sheet = sheet_of means n t;
  given = map means (take n.witnesses t.values);
  worked = map means (take n.nodes t.worked);
}

-- a worksheet of constants alone: a value depends on nothing else of a worksheet
abbrev pub of_constants : {M : Type 0} → List M → Sheet M
of_constants xs = record { constants = xs; witnesses = 0; nodes = []; assertions = [] }

-- the value of an id, read from tables of constants, values and worked by counts
abbrev pub read : {E M : Type 0} → RingOn M → (E → M) → Counts → List E → List E → List E → CircuitIdx → M
read R means n cs vs ws = look R (of_constants (map means (take n.constants cs))) (map means (take n.witnesses vs)) (map means (take n.nodes ws))
