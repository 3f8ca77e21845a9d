-- What a prover's worksheet stores is the value under its witness values.
use Rattle.std.proofs.Common.{◌≡◌, ℕ, zero, suc, ◌+◌, ◌<◌, ◌≤◌, List, [], ◌∷◌, ◌++◌, length, get_or, drop, Some, None, Option, sym, refl, ap, ◌∙◌, ap₂, inl, inr, arith, length-append, length-drop, drop-cons}
use Rattle.std.proofs.lemmas.List.{get_or_append_left, get_or_push, length_push}
use Rattle.std.proofs.lemmas.Bool.{cases_lt}
use Rattle.ring.specs.Algebra.{RingOn}
use Rattle.worksheet.specs.declared.CircuitIdx.{CircuitIdx}
use Rattle.worksheet.specs.declared.CircuitIdx.TheVariants.{Constant, Witness, Node}
use Rattle.worksheet.specs.declared.CircuitNode.{CircuitNode}
use Rattle.worksheet.specs.declared.CircuitNode.TheVariants.{Add}
use Rattle.worksheet.specs.Sheet.{Sheet, WellFormed, Below, Present, node_at, left_of, right_of, combine, value_within, value}
use Rattle.worksheet.specs.Runs.{prover, Call, perform, refusal, call_causes, Capacities, Worksheet, opened, step_by, run, look, work_out, fresh, values_of}
use Rattle.worksheet.proofs.Growing.{Ext}
use Rattle.worksheet.proofs.Performed.{performs}
use Rattle.worksheet.proofs.Built.{operands_known, kept_along, empty_wf}
use Rattle.worksheet.proofs.Witnesses.{appends}

abbrev nowhere : CircuitNode
nowhere = Add (Constant 0) (Constant 0)

-- ws holds the values of the first m nodes of S
module _ {M : Type 0} (R : RingOn M) (S : Sheet M) (ρ : List M) where
  abbrev worth : List M → CircuitNode → M
  worth ws nd = combine R nd (look R S ρ ws (left_of nd)) (look R S ρ ws (right_of nd))

  pub record Good (m : ℕ) (ws : List M) : Type 0 where
    pub count : length ws ≡ m
    pub each : (n : ℕ) → n < m → get_or ws n R.nought ≡ worth ws (node_at S n)

  look_push : (ws : List M) (x : M) (n : ℕ) (a : CircuitIdx) → n ≤ length ws → Below S n a → look R S ρ (ws ++ (x ∷ [])) a ≡ look R S ρ ws a
  look_push ws x n (Constant k) l b = refl
  look_push ws x n (Witness w) l b = refl
  look_push ws x n (Node m) l b = get_or_append_left ws (x ∷ []) R.nought m (omega arith)

  module _ (wf : WellFormed S) where
    worth_push : (ws : List M) (x : M) (n : ℕ) → n ≤ length ws → n < length S.nodes → worth (ws ++ (x ∷ [])) (node_at S n) ≡ worth ws (node_at S n)
    worth_push ws x n l h = ap₂ (combine R (node_at S n)) (look_push ws x n _ l (wf.earlier_left n h)) (look_push ws x n _ l (wf.earlier_right n h))

    good_push : (m : ℕ) (ws : List M) → m < length S.nodes → Good m ws → Good (suc m) (ws ++ (worth ws (node_at S m) ∷ []))
    good_push m ws h g =
        let x = worth ws (node_at S m) in
        let k = g.count in
        record {
          count = omega (arith, length_push ws x);
          each = λ n l. elim (cases_lt n m) [
            | inl b ↦ (let b' : n < length ws = omega arith in get_or_append_left ws (x ∷ []) R.nought n b' ∙ g.each n b ∙ sym (worth_push ws x n (omega arith) (omega arith)))
            | inr b ↦ (let e : m ≡ n = omega arith in rw (← e) (get_or_push ws x R.nought m k ∙ sym (worth_push ws x m (omega arith) h)))
          ];
        }

    good_out : (nds : List CircuitNode) (m : ℕ) (ws : List M) → m ≤ length S.nodes → drop m S.nodes ≡ nds → Good m ws → Good (length S.nodes) (work_out R S ρ ws nds)
    good_out [] m ws h e g = let q : m ≡ length S.nodes = omega (arith, length-drop m S.nodes, ap length e) in rw q at g
    good_out (nd ∷ nds) m ws h e g =
        let l : m < length S.nodes = omega (arith, length-drop m S.nodes, ap length e) in
        let d = drop-cons S.nodes m nowhere l in
        let p : node_at S m ≡ nd = cc in
        let q : drop (suc m) S.nodes ≡ nds = cc in
        good_out nds (suc m) (ws ++ (worth ws nd ∷ [])) l q (rw p at (good_push m ws l g))

    -- N bounds the depth that the value looks into
    is_value : (ws : List M) → Good (length S.nodes) ws → (N n : ℕ) (a : CircuitIdx) → Below S n a → n ≤ N → n ≤ length S.nodes → look R S ρ ws a ≡ value_within R S ρ N a
    is_value ws g N n (Constant k) b h l = refl
    is_value ws g N n (Witness w) b h l = refl
    is_value ws g zero n (Node m) b h l = absurd (omega arith)
    is_value ws g (suc N) n (Node m) b h l =
        let i : m < length S.nodes = omega arith in
        g.each m i ∙ ap₂ (combine R (node_at S m)) (is_value ws g N m _ (wf.earlier_left m i) (omega arith) (omega arith)) (is_value ws g N m _ (wf.earlier_right m i) (omega arith) (omega arith))

module _ {M : Type 0} (R : RingOn M) where
  -- what holds of a prover's worksheet in every run
  pub record Kept (W : Worksheet M prover) : Type 0 where
    pub wf : WellFormed W.sheet
    pub given_count : length W.given ≡ W.sheet.witnesses
    pub good : Good R W.sheet W.given (length W.sheet.nodes) W.worked

  module _ (S T : Sheet M) (ρ σ : List M) (wf : WellFormed S) (e : Ext S T) (full : length ρ ≡ S.witnesses) where
    look_ext : (ws : List M) (n : ℕ) (a : CircuitIdx) → Below S n a → look R S ρ ws a ≡ look R T (ρ ++ σ) ws a
    look_ext ws n (Constant k) b = sym (ap (λ cs. get_or cs k R.nought) e.more_constants.1 ∙ get_or_append_left S.constants e.more_constants.0 R.nought k b)
    look_ext ws n (Witness w) b = (let h : w < length ρ = omega arith in sym (get_or_append_left ρ σ R.nought w h))
    look_ext ws n (Node m) b = refl

    node_ext : (n : ℕ) → n < length S.nodes → node_at T n ≡ node_at S n
    node_ext n h = ap (λ ns. get_or ns n nowhere) e.more_nodes.1 ∙ get_or_append_left S.nodes e.more_nodes.0 nowhere n h

    good_ext : (ws : List M) → Good R S ρ (length S.nodes) ws → Good R T (ρ ++ σ) (length S.nodes) ws
    good_ext ws g = record {
      count = g.count;
      each = λ n h. g.each n h
          ∙ ap₂ (combine R (node_at S n)) (look_ext ws n _ (wf.earlier_left n h)) (look_ext ws n _ (wf.earlier_right n h))
          ∙ ap (worth R T (ρ ++ σ) ws) (sym (node_ext n h));
    }

  kept_by : (cap : Capacities) (W : Worksheet M prover) (c : Call R prover) (o : Option ℕ) → refusal (call_causes R cap W.sheet c) ≡ o → Kept W → Kept (step_by R prover o W c).0
  kept_by cap W c (Some n) e k = k
  kept_by cap W c None e k =
      let S = W.sheet in
      let T = (perform R S c).0 in
      let more = fresh R (values_of R W) c in
      let g = performs R S c k.wf (operands_known R cap S c e) in
      record {
        wf = g.wf;
        given_count = length-append W.given more ∙ ap (λ n. n + length more) k.given_count ∙ sym (appends R (values_of R W) S c);
        good = good_out R T (W.given ++ more) g.wf (drop (length S.nodes) T.nodes) (length S.nodes) W.worked g.ext.nodes refl
            (good_ext S T W.given more k.wf g.ext k.given_count W.worked k.good);
      }

  pub kept : (cap : Capacities) (cs : List (Call R prover)) → Kept (run R prover cap cs).0
  kept cap cs =
      kept_along R prover cap Kept (kept_by cap) cs (opened prover)
      (record { wf = empty_wf R; given_count = refl; good = record { count = refl; each = λ n h. absurd (omega arith) } })

  pub held : (cap : Capacities) (cs : List (Call R prover)) (a : CircuitIdx) →
      let W = (run R prover cap cs).0 in
      Present W.sheet a → values_of R W a ≡ value R W.sheet W.given a
  held cap cs a p =
      let W = (run R prover cap cs).0 in
      let k = kept cap cs in
      let N = length W.sheet.nodes in
      is_value R W.sheet W.given k.wf W.worked k.good N N a p (omega arith) (omega arith)
