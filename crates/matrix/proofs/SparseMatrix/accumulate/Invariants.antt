use Rattle.std.proofs.Common.{map, take}
use Rattle.matrix.proofs.RowSums.{Summed}
use Rattle.matrix.proofs.SparseMatrix.accumulate.Given as goal

abbrev pub invariant-loop-cell : goal.invariant-loop-cell
invariant-loop-cell g l = let r = g.E.Ring in Summed r.algebra (map r.means l.list) r.means (take l.self.count l.self.cells.now) l.cell-index l.res
