-- A beginning of a run is a run, and a chain of calls that each take their step is one.
use Rattle.std.proofs.Common.{◌≡◌, List, [], ◌∷◌, ◌++◌, sym, refl, ap, ◌∙◌, ap₂}
use Rattle.ring.specs.Algebra.{RingOn}
use Rattle.worksheet.specs.Runs.{Role, Call, Capacities, Reply, Worksheet, step, run_from, run, opened}
use Rattle.worksheet.specs.Law.{Ran, begun, called}

module _ {M : Type 0} (R : RingOn M) (r : Role) (cap : Capacities) where
  abbrev went_on : Worksheet M r × List (Reply M) → List (Call R r) → Worksheet M r × List (Reply M)
  went_on p ds = let q = run_from R r cap ds p.0 in (q.0, p.1 ++ q.1)

  on_the_way : (cs ds : List (Call R r)) (W : Worksheet M r) → run_from R r cap (cs ++ ds) W ≡ went_on (run_from R r cap cs W) ds
  on_the_way [] ds W = refl
  on_the_way (c ∷ cs) ds W =
      let s = step R r cap W c in
      ap (λ (t : Worksheet M r × List (Reply M)). (t.0, s.1 ∷ t.1)) (on_the_way cs ds s.0)

  pub beginning : (cs ds : List (Call R r)) → run R r cap (cs ++ ds) ≡ went_on (run R r cap cs) ds
  beginning cs ds = on_the_way cs ds (opened r)

  pub ran_is : (cs : List (Call R r)) (W : Worksheet M r) (ps : List (Reply M)) → Ran R r cap cs W ps → run R r cap cs ≡ (W, ps)
  ran_is _ _ _ begun = refl
  ran_is _ _ _ (called {cs = cs} {W = W} {ps = ps} before V c p s) =
      beginning cs (c ∷ [])
      ∙ ap (λ (t : Worksheet M r × List (Reply M)). went_on t (c ∷ [])) (ran_is cs W ps before)
      ∙ ap₂ (λ (v : Worksheet M r) (q : Reply M). (v, ps ++ (q ∷ []))) (sym s.worksheet) (sym s.reply)
