-- An id and a node in words, as they print.
use Rattle.std.specs.Prelude.{ℕ, List, ◌++◌, codes, decimal}
use Rattle.worksheet.specs.declared.CircuitIdx.{CircuitIdx}
use Rattle.worksheet.specs.declared.CircuitIdx.TheVariants.{Constant, Witness, Node}
use Rattle.worksheet.specs.declared.CircuitNode.{CircuitNode}
use Rattle.worksheet.specs.declared.CircuitNode.TheVariants.{Add, Mul}

abbrev pub id_text : CircuitIdx → List ℕ
id_text (Constant k) = codes "constant " ++ decimal k
id_text (Witness w) = codes "witness " ++ decimal w
id_text (Node n) = codes "node " ++ decimal n

abbrev pub node_text : CircuitNode → List ℕ
node_text (Add a b) = id_text a ++ (codes " + " ++ id_text b)
node_text (Mul a b) = id_text a ++ (codes " x " ++ id_text b)
