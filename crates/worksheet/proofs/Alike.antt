-- Runs of the same calls are alike: the same answers, refusals and worksheets, whoever makes them.
use Rattle.std.proofs.Common.{◌≡◌, ℕ, not, List, [], ◌∷◌, map, Some, None, Option, refl, ap, ◌∙◌, subst, ap₂, arith}
use Rattle.ring.specs.Algebra.{RingOn, FieldOf}
use Rattle.worksheet.specs.declared.Var.{Var}
use Rattle.worksheet.specs.declared.Var.TheVariants.{Native, Circuit}
use Rattle.worksheet.specs.Sheet.{Sheet}
use Rattle.worksheet.specs.Calls.{Answered, divided, inverted}
use Rattle.worksheet.specs.Runs.{Role, prover, verifier, Decided, Call, erase, constant, witness, add, multiply, negate, subtract, divide, invert, assert_equal, boolean_constant, boolean_witness, boolean_assert, boolean_not, boolean_and, boolean_or, select, Settled, native_square, natives_differ, clashes, SameCall, same_constant, same_witness, same_add, same_multiply, same_negate, same_subtract, same_divide, same_invert, same_assert_equal, same_boolean_constant, same_boolean_witness, same_boolean_assert, same_boolean_not, same_boolean_and, same_boolean_or, same_select, SameCalls, Capacities, Reply, reply, Worksheet, perform, operands, refusal, call_causes, step_by, step, run_from, run, opened}

-- two comparisons of the same members say the same
decisions_agree : {M : Type 0} (x y : M) (d e : Decided x y) → d.yes? ≡ e.yes?
decisions_agree x y d e = grind (arith, d.if_yes, d.if_no, e.if_yes, e.if_no)

pub differ_agree : {M : Type 0} (x y : Var M) (d e : Settled x y) → natives_differ x y d ≡ natives_differ x y e
differ_agree (Native x) (Native y) d e = ap not (decisions_agree x y d e)
differ_agree (Native x) (Circuit b) d e = refl
differ_agree (Circuit a) (Native y) d e = refl
differ_agree (Circuit a) (Circuit b) d e = refl

opened_alike : {M : Type 0} (r s : Role) → (opened {M = M} r).sheet ≡ (opened s).sheet
opened_alike prover prover = refl
opened_alike prover verifier = refl
opened_alike verifier prover = refl
opened_alike verifier verifier = refl

-- runs look alike
module _ {M : Type 0} (R : RingOn M) (cap : Capacities) where
  erased : (c : Call R prover) → SameCall c (erase c)
  erased (constant x) = same_constant x
  erased (witness x) = same_witness x tt
  erased (add x y) = same_add x y
  erased (multiply x y) = same_multiply x y
  erased (negate x) = same_negate x
  erased (subtract x y) = same_subtract x y
  erased (divide F x y) = same_divide F F (λ z. refl) x y
  erased (invert F x) = same_invert F F (λ z. refl) x
  erased (assert_equal x y d) = same_assert_equal x y d d
  erased (boolean_constant b) = same_boolean_constant b
  erased (boolean_witness b) = same_boolean_witness b tt
  erased (boolean_assert x d) = same_boolean_assert x d d
  erased (boolean_not x) = same_boolean_not x
  erased (boolean_and x y) = same_boolean_and x y
  erased (boolean_or x y) = same_boolean_or x y
  erased (select b t f) = same_select b t f

  pub all_erased : (cs : List (Call R prover)) → SameCalls cs (map erase cs)
  all_erased [] = tt
  all_erased (c ∷ cs) = (erased c, all_erased cs)

  module _ (F G : FieldOf R) (h : (z : M) → F.inverse z ≡ G.inverse z) (S : Sheet M) where
    divided_alike : (x y : Var M) → divided R F S x y ≡ divided R G S x y
    divided_alike (Native x) (Native y) = ap (λ (z : M). (S, Native (R.times x z))) (h y)
    divided_alike (Native x) (Circuit b) = refl
    divided_alike (Circuit a) (Native y) = refl
    divided_alike (Circuit a) (Circuit b) = refl

    inverted_alike : (x : Var M) → inverted R F S x ≡ inverted R G S x
    inverted_alike (Native x) = ap (λ (z : M). (S, Native z)) (h x)
    inverted_alike (Circuit a) = refl

  module _ {r s : Role} where
    abbrev Shown : Worksheet M r × Reply M → Worksheet M s × Reply M → Type 0
    Shown x y = (x.0.sheet ≡ y.0.sheet) × (x.1 ≡ y.1)

    -- the same operands, the same clash, the same work, the same kind of reply
    abbrev Agree : Sheet M → Call R r → Call R s → Type 0
    Agree S c d = (operands c ≡ operands d) × (clashes R c ≡ clashes R d) × (perform R S c ≡ perform R S d) × ((v : Var M) → reply c v ≡ reply d v)

    agree : (S : Sheet M) (c : Call R r) (d : Call R s) → SameCall c d → Agree S c d
    agree S _ _ (same_constant x) = (refl, refl, refl, λ v. refl)
    agree S _ _ (same_witness x y) = (refl, refl, refl, λ v. refl)
    agree S _ _ (same_add x y) = (refl, refl, refl, λ v. refl)
    agree S _ _ (same_multiply x y) = (refl, refl, refl, λ v. refl)
    agree S _ _ (same_negate x) = (refl, refl, refl, λ v. refl)
    agree S _ _ (same_subtract x y) = (refl, refl, refl, λ v. refl)
    agree S _ _ (same_divide F G h x y) = (refl, refl, divided_alike F G h S x y, λ v. refl)
    agree S _ _ (same_invert F G h x) = (refl, refl, inverted_alike F G h S x, λ v. refl)
    agree S _ _ (same_assert_equal x y d e) = (refl, differ_agree x y d e, refl, λ v. refl)
    agree S _ _ (same_boolean_constant b) = (refl, refl, refl, λ v. refl)
    agree S _ _ (same_boolean_witness x y) = (refl, refl, refl, λ v. refl)
    agree S _ _ (same_boolean_assert x d e) = (refl, differ_agree (native_square R x) x d e, refl, λ v. refl)
    agree S _ _ (same_boolean_not x) = (refl, refl, refl, λ v. refl)
    agree S _ _ (same_boolean_and x y) = (refl, refl, refl, λ v. refl)
    agree S _ _ (same_boolean_or x y) = (refl, refl, refl, λ v. refl)
    agree S _ _ (same_select b t f) = (refl, refl, refl, λ v. refl)

    pub causes_alike : (S : Sheet M) (c : Call R r) (d : Call R s) → SameCall c d → call_causes R cap S c ≡ call_causes R cap S d
    causes_alike S c d k =
        let a = agree S c d k in rw (a.0, a.1, a.2) refl

    shown_by : (o : Option ℕ) (P : Worksheet M r) (V : Worksheet M s) (c : Call R r) (d : Call R s) → SameCall c d → P.sheet ≡ V.sheet → Shown (step_by R r o P c) (step_by R s o V d)
    shown_by (Some n) P V c d k e = (e, refl)
    shown_by None P V c d k e =
        let q : perform R P.sheet c ≡ perform R V.sheet d = ap (λ S. perform R S c) e ∙ (agree V.sheet c d k).2 in
        (ap (λ (p : Answered M). p.0) q, (agree P.sheet c d k).3 _ ∙ ap (λ (p : Answered M). reply d p.1) q)

    shown : (P : Worksheet M r) (V : Worksheet M s) (c : Call R r) (d : Call R s) → SameCall c d → P.sheet ≡ V.sheet → Shown (step R r cap P c) (step R s cap V d)
    shown P V c d k e =
        let o = refusal (call_causes R cap P.sheet c) in
        let q : o ≡ refusal (call_causes R cap V.sheet d) = ap (λ S. refusal (call_causes R cap S c)) e ∙ ap refusal (causes_alike V.sheet c d k) in
        subst (λ (x : Option ℕ). Shown (step_by R r o P c) (step_by R s x V d)) q (shown_by o P V c d k e)

    alike_from : (cs : List (Call R r)) (ds : List (Call R s)) (P : Worksheet M r) (V : Worksheet M s) → SameCalls cs ds → P.sheet ≡ V.sheet →
        ((run_from R r cap cs P).1 ≡ (run_from R s cap ds V).1) × ((run_from R r cap cs P).0.sheet ≡ (run_from R s cap ds V).0.sheet)
    alike_from [] [] P V k e = (refl, e)
    alike_from [] (d ∷ ds) P V k e = absurd k
    alike_from (c ∷ cs) [] P V k e = absurd k
    alike_from (c ∷ cs) (d ∷ ds) P V k e =
        let h = shown P V c d k.0 e in
        let t = alike_from cs ds (step R r cap P c).0 (step R s cap V d).0 k.1 h.0 in
        (ap₂ (λ x xs. x ∷ xs) h.1 t.0, t.1)

  pub alike : (r s : Role) (cs : List (Call R r)) (ds : List (Call R s)) → SameCalls cs ds →
      ((run R r cap cs).1 ≡ (run R s cap ds).1) × ((run R r cap cs).0.sheet ≡ (run R s cap ds).0.sheet)
  alike r s cs ds k = alike_from cs ds (opened r) (opened s) k (opened_alike r s)
