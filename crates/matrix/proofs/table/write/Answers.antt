use Rattle.std.proofs.Common.{◌<◌, ◌≤◌, length, take, ap, sym, ◌∙◌, arith, length-set, length-take-le, rules}
use Rattle.std.proofs.Math.Seq.{take-set-lt}
use Rattle.std.proofs.lemmas.List.{drop-set-lt}
use Rattle.std.proofs.lemmas.Bool.{le-ltb, or_left, or_from}
use Rattle.matrix.specs.Cells.{meant}
use Rattle.matrix.proofs.Order.{order_holds}
use Rattle.matrix.proofs.Placed.{at_cell, at_gap, order_kept}
use Rattle.matrix.proofs.Shift.{shifted, spared}
use Rattle.matrix.proofs.table.write.Goals as goal

pub returns-in-Ok : goal.returns-in-Ok
returns-in-Ok g c =
    let m = g.E.Ring in
    let a = c.args in
    let front = take a.count a.cells.now in
    let found = rw c.in-Ok.is at c.requires.place in
    let under : c.in-Ok.at < a.count = omega (arith, found.within, length-take-le a.count a.cells.now c.requires.fits) in
    let told = at_cell m.algebra m.means a.cell.row a.cell.column front c.in-Ok.at a.cell a.cell.weight (order_holds front c.requires.ordered) found in
    let written = ap (meant m.means) (take-set-lt a.count a.cells.now c.in-Ok.at a.cell under) ∙ told.written in
    record {
      verdict = sym (or_left _ _ told.there);
      done = record {
        fits = simp length-set c.requires.fits;
        ordered = order_kept m.algebra m.means a.cell.row a.cell.column (λ _. m.means a.cell.weight) front _ c.requires.ordered written;
        cells = written;
        spare = drop-set-lt a.count a.cells.now c.in-Ok.at a.cell under;
      };
    }

pub returns-then-count-cells-clause-verdict : goal.returns-then-count-cells-clause-verdict
returns-then-count-cells-clause-verdict g c =
    let m = g.E.Ring in
    let a = c.args in
    let told = at_gap m.algebra m.means a.cell.row a.cell.column _ c.in-Err.at a.cell.weight (rw c.in-Err.is at c.requires.place) in
    sym (or_from _ _ told.there (le-ltb _ _ (omega arith)))

pub returns-else-count-cells-clause-done : goal.returns-else-count-cells-clause-done
returns-else-count-cells-clause-done g c =
    let m = g.E.Ring in
    let a = c.args in
    let front = take a.count a.cells.now in
    let gap = rw c.in-Err.is at c.requires.place in
    let room : a.count < length a.cells.now = omega arith in
    let within : c.in-Err.at ≤ a.count = omega (arith, gap.within, length-take-le a.count a.cells.now c.requires.fits) in
    let told = at_gap m.algebra m.means a.cell.row a.cell.column front c.in-Err.at a.cell.weight gap in
    let rot = c.rotate_right.new.self in
    let written = ap (meant m.means) (shifted a.cells.now rot a.count c.in-Err.at a.cell room within c.rotate_right.ensures.after) ∙ told.written in
    record {
      fits = search rules;
      ordered = order_kept m.algebra m.means a.cell.row a.cell.column (λ _. m.means a.cell.weight) front _ c.requires.ordered written;
      cells = written;
      spare = spared a.cells.now rot a.count c.in-Err.at a.cell room within c.rotate_right.ensures.after;
    }
