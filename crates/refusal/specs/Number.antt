-- The number of each refusal, as docs/REFUSALS.md lists them.
use Rattle.std.specs.Prelude.{ℕ}
use Rattle.refusal.specs.declared.Refusal.{Refusal}
use Rattle.refusal.specs.declared.Refusal.TheVariants.{Capacity, ShortTable, Absent, Unequal, Constants, Witnesses, Nodes, Assertions, Beyond, CellsFull, Width, Length}

abbrev pub number_of : Refusal → ℕ
number_of Capacity = 1
number_of ShortTable = 2
number_of Absent = 3
number_of Unequal = 4
number_of Constants = 5
number_of Witnesses = 6
number_of Nodes = 7
number_of Assertions = 8
number_of Beyond = 15
number_of CellsFull = 16
number_of Width = 17
number_of Length = 18
