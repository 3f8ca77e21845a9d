-- For proofs of code: when a call is accepted.
use Rattle.std.proofs.Common.{◌≡◌, ℕ, ◌≤◌, Bool, true, false, cond, List, [], ◌∷◌, length, Some, None, Option, refl, ap, ◌∙◌}
use Rattle.std.proofs.lemmas.Bool.{cond-false, le-ltb, not_from_true}
use Rattle.ring.specs.Algebra.{RingOn}
use Rattle.worksheet.specs.Runs.{Role, Call, Capacities, Worksheet, perform, operands, all_known, clashes, refusal, call_causes, step_by, step}

-- no cause of refusal holds
abbrev pub Clear : List (Bool × ℕ) → Type 0
Clear [] = Unit {0}
Clear (p ∷ ps) = (p.0 ≡ false) × Clear ps

pub no_refusal : (ps : List (Bool × ℕ)) → Clear ps → refusal ps ≡ None
no_refusal [] c = refl
no_refusal (p ∷ ps) c = cond-false p.0 _ _ c.0 ∙ no_refusal ps c.1

-- where nothing is refused, no cause holds
pub clear : (ps : List (Bool × ℕ)) → refusal ps ≡ None → Clear ps
clear [] e = tt
clear (p ∷ ps) e = go p.0 refl e (clear ps)
  where
    go : (b : Bool) → p.0 ≡ b → cond b (Some p.1) (refusal ps) ≡ None → (refusal ps ≡ None → Clear ps) → (p.0 ≡ false) × Clear ps
    go true h q rest = absurd (cc q)
    go false h q rest = (h, rest q)

module _ {M : Type 0} (R : RingOn M) (r : Role) (cap : Capacities) (W : Worksheet M r) (c : Call R r) where
  pub accepts_step : all_known W.sheet (operands c) ≡ true → clashes R c ≡ false →
      (let T = (perform R W.sheet c).0 in (length T.constants ≤ cap.constants) × (T.witnesses ≤ cap.witnesses) × (length T.nodes ≤ cap.nodes) × (length T.assertions ≤ cap.assertions)) →
      step R r cap W c ≡ step_by R r None W c
  accepts_step k e fits = ap (λ (o : Option ℕ). step_by R r o W c)
      (no_refusal (call_causes R cap W.sheet c) (not_from_true _ k, (e, (le-ltb _ _ fits.0, (le-ltb _ _ fits.1, (le-ltb _ _ fits.2, (le-ltb _ _ fits.3, tt)))))))
