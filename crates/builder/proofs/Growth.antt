-- One write after another: what is kept, and what has grown.
use Rattle.std.proofs.Common.{◌≡◌, ℕ, ◌-◌, ◌≤◌, List, drop, arith}
use Rattle.std.proofs.lemmas.List.{drop-drop}
use Rattle.worksheet.specs.declared.Counts.{Counts}
use Rattle.worksheet.specs.declared.Var.{Var}
use Rattle.worksheet.specs.Sheet.{Sheet}
use Rattle.worksheet.specs.Calls.{Answered}
use Rattle.builder.specs.declared.Draft.{Draft}
use Rattle.builder.specs.declared.cost.Cost.{Cost}
use Rattle.builder.specs.Cost.{after}
use Rattle.builder.specs.Tables.{Grew, Wrote}
use Rattle.builder.specs.Within.{sum}

further : {X : Type 0} (xs ys : List X) (m n : ℕ) → m ≤ n → drop m xs ≡ drop m ys → drop n xs ≡ drop n ys
further xs ys m n le e = grind (arith, drop-drop (n - m) m xs, drop-drop (n - m) m ys)

-- what is written after a first write, with no answer or with one
module _ {E M : Type 0} {means : E → M} {a b c : Draft E} where
  pub grew_on : {n m : Counts} {S T : Sheet M} → Grew means a b n S → Grew means b c m T → Grew means a c (sum n m) T
  grew_on h k = grind (arith, further)

  pub wrote_then : {n m : Cost} {A B : Answered M} {v w : Var E} → Wrote means a b n A v → Wrote means b c m B w → Wrote means a c (after n.counts m) B w
  wrote_then h k = record { grew = grew_on h.grew k.grew; answer = k.answer; kind = k.kind; there = k.there }
