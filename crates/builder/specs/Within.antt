-- Counts within other counts.
use Rattle.std.specs.Prelude.{◌+◌, ◌≤◌}
use Rattle.worksheet.specs.declared.Counts.{Counts}

abbrev pub Within : Counts → Counts → Type 0
Within n m = (n.constants ≤ m.constants) × (n.witnesses ≤ m.witnesses) × (n.nodes ≤ m.nodes) × (n.assertions ≤ m.assertions)

-- each capacity is at most 65,536
abbrev pub Small : Counts → Type 0
Small m = (m.constants ≤ 65536) × (m.witnesses ≤ 65536) × (m.nodes ≤ 65536) × (m.assertions ≤ 65536)

abbrev pub sum : Counts → Counts → Counts
sum n m = record { constants = n.constants + m.constants; witnesses = n.witnesses + m.witnesses; nodes = n.nodes + m.nodes; assertions = n.assertions + m.assertions }
