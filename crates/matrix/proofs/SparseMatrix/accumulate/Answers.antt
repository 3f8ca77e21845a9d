use Rattle.std.proofs.Common.{◌≡◌, ◌+◌, ◌<◌, ◌≤◌, ltb-true, map, length, take, get_or, sym, ap, ◌∙◌, subst, arith, rules}
use Rattle.std.proofs.lemmas.Grind.{common_steps}
use Rattle.std.proofs.lemmas.List.{length-map, get_or-map, get_or_default}
use Rattle.matrix.specs.Cells.{entry, product}
use Rattle.matrix.specs.Table.{matrix}
use Rattle.matrix.proofs.Filled.{filled_alike}
use Rattle.matrix.proofs.RowSums.{Summed, row_within, skipped, summed, all_summed}
use Rattle.matrix.proofs.SparseMatrix.accumulate.Goals as goal
use Rattle.matrix.proofs.SparseMatrix.accumulate.Goals.{in-Some, in_default}

pub loop-cell-init : goal.loop-cell-init
loop-cell-init g c = let r = g.E.Ring in filled_alike _ (λ x. r.means x ≡ r.algebra.nought) _ (λ x q called. search rules) _ _ c.fill_with.ensures.ran.1

pub loop-cell-preserved : goal.loop-cell-preserved
loop-cell-preserved g c =
    let r = g.E.Ring in
    let a = c.args in
    let x = c.cell-item.result in
    let k = c.loop-cell.cell-index in
    let list = map r.means a.list.now in
    let m = a.self.now in
    let cells = take m.count m.cells.now in
    let lt : k < length cells = omega (arith, ap length c.cells-cell-items.ensures) in
    let is : x ≡ get_or cells k x = cc in
    let row = row_within m.height m.width cells k x m.covered lt is in
    elim c.match-get.branch [
      | in-Some w ↦
          let value = w.in-Some.field-0.now in
          let near : x.column < length a.list.now = ltb-true _ _ (sym w.in-Some.ensures.lookup.0) in
          let read : value ≡ get_or a.list.now x.column value = w.in-Some.ensures.lookup.1 in
          let entry_is = sym (get_or-map r.means a.list.now x.column value r.algebra.nought near ∙ ap r.means (sym read)) in
          let sum = get_or c.loop-cell.res x.row w.index-res-cell.result in
          let same : sum ≡ get_or c.loop-cell.res x.row w.add.result = get_or_default c.loop-cell.res x.row w.index-res-cell.result w.add.result (omega arith) in
          let grown = w.add.ensures ∙ ap (r.algebra.plus (r.means sum)) (w.multiply.ensures ∙ ap (r.algebra.times (r.means x.weight)) entry_is) ∙ ap (λ y. r.algebra.plus (r.means y) (r.algebra.times (r.means x.weight) (entry r.algebra list x.column))) same in
          subst (Summed r.algebra list r.means cells (k + 1)) (sym w.res-is)
          (summed r.algebra list r.means cells k c.loop-cell.res c.loop-cell.invariant x lt is w.add.result (omega arith) grown)
      | in_default w ↦
          let past : length a.list.now ≤ x.column = grind (arith, common_steps, w.in_default.ensures.lookup) in
          subst (Summed r.algebra list r.means cells (k + 1)) (sym w.res-is)
          (skipped r.algebra list r.means cells k c.loop-cell.res c.loop-cell.invariant x lt is (simp length-map past))
    ]

pub returns : goal.returns
returns g c =
    let r = g.E.Ring in
    let list = map r.means c.args.list.now in
    let m = c.args.self.now in
    all_summed r.algebra list r.means (take m.count m.cells.now) c.loop-cell.cell-index c.loop-cell.res (omega (arith, ap length c.cells-cell-items.ensures)) c.loop-cell.invariant
    ∙ ap (λ n. product r.algebra list n (matrix r.means m).cells) (omega arith)
