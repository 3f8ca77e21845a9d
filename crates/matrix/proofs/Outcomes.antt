-- What setting the weight that a change would make is, and what an accepted change is to the weights and the sums of rows.
use Rattle.std.proofs.Common.{◌≡◌, ℕ, ◌+◌, cond, ◌&&◌, ◌||◌, ltb, length, IfOk, Ok, Err, Result, ap, ◌∙◌, inl, inr}
use Rattle.std.proofs.lemmas.Bool.{cases_Bool, cond-true, cond-false}
use Rattle.refusal.specs.declared.Refusal.{Refusal}
use Rattle.refusal.specs.Outcome.{accepted, refused, outcome}
use Rattle.ring.specs.Algebra.{RingOn}
use Rattle.matrix.specs.Cells.{present, weight_at, changed, row_sum}
use Rattle.matrix.specs.Laws.{WeightThrough, SumsGrow}
use Rattle.matrix.specs.Matrix.{Matrix, limit, raised, through, touched, added}
use Rattle.matrix.proofs.Order.{Ordered}
use Rattle.matrix.proofs.Changed.{changed_as, weight_changed, row_sum_added}

-- setting the weight that f would make is changing it by f
pub touched_as : {M : Type 0} (R : RingOn M) (room r c : ℕ) (f : M → M) (w : M) (m : Matrix M) → Ordered m.cells → w ≡ f (weight_at R r c m.cells) → touched R room r c (λ _. w) m ≡ touched R room r c f m
touched_as R room r c f w m order is =
    ap (λ t. cond (ltb r limit && ltb c limit) (cond (present r c m.cells || ltb (length m.cells) room) (accepted (raised (r + 1) (c + 1) (record { cells = t; height = m.height; width = m.width }))) (refused 16)) (refused 15))
    (changed_as R r c f w m.cells order is)

module _ {M : Type 0} (R : RingOn M) (room r c : ℕ) (f : M → M) (m : Matrix M) where
  changed_cells : (n : Matrix M) → accepted n ≡ touched R room r c f m → n.cells ≡ changed R r c f m.cells
  changed_cells n e =
      elim (cases_Bool (ltb r limit && ltb c limit)) [
        | inl p ↦ elim (cases_Bool (present r c m.cells || ltb (length m.cells) room)) [
          | inl q ↦ let same : n ≡ through R r c f m = let h = e ∙ cond-true _ _ _ p ∙ cond-true _ _ _ q in cc in ap (λ (k : Matrix M). k.cells) same
          | inr q ↦ absurd (let h = e ∙ cond-true _ _ _ p ∙ cond-false _ _ _ q in cc)
        ]
        | inr p ↦ absurd (let h = e ∙ cond-false _ _ _ p in cc)
      ]

  pub weights_of : (answer : Result (Unit {0}) Refusal) (n : Matrix M) → Ordered m.cells → outcome (λ _. n) answer ≡ touched R room r c f m → IfOk answer (λ _. WeightThrough R r c f m n)
  weights_of (Ok _) n order e = λ i j. ap (weight_at R i j) (changed_cells n e) ∙ weight_changed R r c f i j m.cells order
  weights_of (Err _) n order e = tt

pub sums_of : {M : Type 0} (R : RingOn M) (room r c : ℕ) (w : M) (m : Matrix M) (answer : Result (Unit {0}) Refusal) (n : Matrix M) → outcome (λ _. n) answer ≡ added R room r c w m → IfOk answer (λ _. SumsGrow R r c w m n)
sums_of R room r c w m (Ok _) n e = λ list i. ap (row_sum R list i) (changed_cells R room r c (λ u. R.plus u w) m n e) ∙ row_sum_added R list i r c w m.cells
sums_of R room r c w m (Err _) n e = tt
