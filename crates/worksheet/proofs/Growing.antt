-- What appending does to a worksheet: it stays well formed, and what was there stays there.
use Rattle.std.proofs.Common.{◌≡◌, ℕ, ◌<◌, ◌≤◌, List, [], ◌∷◌, ◌++◌, length, get_or, sym, refl, ap, ◌∙◌, inl, inr, arith, length-append}
use Rattle.std.proofs.lemmas.List.{get_or_append_left, get_or_push, length_push, append-nil, append_assoc}
use Rattle.std.proofs.lemmas.Bool.{cases_lt}
use Rattle.worksheet.specs.declared.CircuitIdx.{CircuitIdx}
use Rattle.worksheet.specs.declared.CircuitIdx.TheVariants.{Constant, Witness, Node}
use Rattle.worksheet.specs.declared.CircuitNode.{CircuitNode}
use Rattle.worksheet.specs.declared.CircuitNode.TheVariants.{Add, Mul}
use Rattle.worksheet.specs.declared.Var.{Var}
use Rattle.worksheet.specs.declared.Var.TheVariants.{Native, Circuit}
use Rattle.worksheet.specs.Sheet.{Sheet, WellFormed, Below, Present, BothConstant, left_of, right_of}
use Rattle.worksheet.specs.Calls.{Answered, push_constant, push_witness, push_node, push_assertion, Op, plus_op, times_op, node_of}

-- an entry of a list with one more is an old one or the new one
pushed : {A : Type 0} (P : ℕ → A → Type 0) (xs : List A) (y d : A) → ((n : ℕ) → n < length xs → P n (get_or xs n d)) → P (length xs) y → (n : ℕ) → n < length (xs ++ (y ∷ [])) → P n (get_or (xs ++ (y ∷ [])) n d)
pushed P xs y d old new n h = elim (cases_lt n (length xs)) [
  | inl l ↦ rw (get_or_append_left xs (y ∷ []) d n l) (old n l)
  | inr l ↦ (let e : length xs ≡ n = omega (arith, length_push xs y) in rw (get_or_push xs y d n e) (rw e at new))
]

abbrev pub KnownVar : {M : Type 0} → Sheet M → Var M → Type 0
KnownVar S (Native x) = Unit {0}
KnownVar S (Circuit a) = Present S a

none_more : {A : Type 0} (xs : List A) → (us : List A) × (xs ≡ xs ++ us)
none_more xs = ([], sym (append-nil xs))

joined : {A : Type 0} (xs ys zs : List A) → ((us : List A) × (ys ≡ xs ++ us)) → ((us : List A) × (zs ≡ ys ++ us)) → (us : List A) × (zs ≡ xs ++ us)
joined xs ys zs a b = (a.0 ++ b.0, b.1 ∙ ap (λ u. u ++ b.0) a.1 ∙ append_assoc xs a.0 b.0)

pub record Ext {M : Type 0} (S T : Sheet M) : Type 0 where
  pub constants : length S.constants ≤ length T.constants
  pub witnesses : S.witnesses ≤ T.witnesses
  pub nodes : length S.nodes ≤ length T.nodes
  pub more_constants : (xs : List M) × (T.constants ≡ S.constants ++ xs)
  pub more_nodes : (xs : List CircuitNode) × (T.nodes ≡ S.nodes ++ xs)

module _ {M : Type 0} where
  ext_by : (S T : Sheet M) → S.witnesses ≤ T.witnesses → ((xs : List M) × (T.constants ≡ S.constants ++ xs)) → ((xs : List CircuitNode) × (T.nodes ≡ S.nodes ++ xs)) → Ext S T
  ext_by S T more_witnesses cs ns = record {
    constants = rw cs.1 (simp length-append (omega arith));
    witnesses = more_witnesses;
    nodes = rw ns.1 (simp length-append (omega arith));
    more_constants = cs;
    more_nodes = ns;
  }

  pub ext_trans : (S T U : Sheet M) → Ext S T → Ext T U → Ext S U
  ext_trans S T U e f =
      ext_by S U (omega arith) (joined S.constants T.constants U.constants e.more_constants f.more_constants) (joined S.nodes T.nodes U.nodes e.more_nodes f.more_nodes)

  pub ext_refl : (S : Sheet M) → Ext S S
  ext_refl S = ext_by S S (omega arith) (none_more S.constants) (none_more S.nodes)

  below_ext : (S T : Sheet M) → Ext S T → (n : ℕ) (a : CircuitIdx) → Below S n a → Below T n a
  below_ext S T e n (Constant k) b = omega arith
  below_ext S T e n (Witness w) b = omega arith
  below_ext S T e n (Node m) b = b

  pub present_ext : (S T : Sheet M) → Ext S T → (a : CircuitIdx) → Present S a → Present T a
  present_ext S T e (Constant k) b = omega arith
  present_ext S T e (Witness w) b = omega arith
  present_ext S T e (Node m) b = omega arith

  pub known_ext : (S T : Sheet M) → Ext S T → (x : Var M) → KnownVar S x → KnownVar T x
  known_ext S T e (Native y) b = tt
  known_ext S T e (Circuit a) b = present_ext S T e a b

  ext_constant : (S : Sheet M) (x : M) → Ext S (push_constant S x).0
  ext_constant S x = ext_by S (push_constant S x).0 (omega arith) (x ∷ [], refl) (none_more S.nodes)

  ext_witness : (S : Sheet M) → Ext S (push_witness S).0
  ext_witness S = ext_by S (push_witness S).0 (omega arith) (none_more S.constants) (none_more S.nodes)

  ext_node : (S : Sheet M) (nd : CircuitNode) → Ext S (push_node S nd).0
  ext_node S nd = ext_by S (push_node S nd).0 (omega arith) (none_more S.constants) (nd ∷ [], refl)

  pub ext_assertion : (S : Sheet M) (a b : CircuitIdx) → Ext S (push_assertion S a b)
  ext_assertion S a b = ext_by S (push_assertion S a b) (omega arith) (none_more S.constants) (none_more S.nodes)

  -- other constants and witnesses, of which S has no more
  abbrev with_leaves : Sheet M → List M → ℕ → Sheet M
  with_leaves S cs w = record { constants = cs; witnesses = w; nodes = S.nodes; assertions = S.assertions }

  wf_leaves : (S : Sheet M) (cs : List M) (w : ℕ) → Ext S (with_leaves S cs w) → WellFormed S → WellFormed (with_leaves S cs w)
  wf_leaves S cs w e wf =
      let T = with_leaves S cs w in
      record {
        asserted_left = λ j h. present_ext S T e _ (wf.asserted_left j h);
        asserted_right = λ j h. present_ext S T e _ (wf.asserted_right j h);
        earlier_left = λ n h. below_ext S T e n _ (wf.earlier_left n h);
        earlier_right = λ n h. below_ext S T e n _ (wf.earlier_right n h);
        mixed = wf.mixed;
      }

  wf_node : (S : Sheet M) (nd : CircuitNode) → Present S (left_of nd) → Present S (right_of nd) → (BothConstant (left_of nd) (right_of nd) → ⊥) → WellFormed S → WellFormed (push_node S nd).0
  wf_node S nd pa pb no_two wf =
      let T = (push_node S nd).0 in
      let e = ext_node S nd in
      let d = Add (Constant 0) (Constant 0) in
      record {
        asserted_left = λ j h. present_ext S T e _ (wf.asserted_left j h);
        asserted_right = λ j h. present_ext S T e _ (wf.asserted_right j h);
        earlier_left = pushed (λ n x. Below S n (left_of x)) S.nodes nd d wf.earlier_left pa;
        earlier_right = pushed (λ n x. Below S n (right_of x)) S.nodes nd d wf.earlier_right pb;
        mixed = pushed (λ n x. BothConstant (left_of x) (right_of x) → ⊥) S.nodes nd d wf.mixed no_two;
      }

  pub wf_assertion : (S : Sheet M) (a b : CircuitIdx) → Present S a → Present S b → WellFormed S → WellFormed (push_assertion S a b)
  wf_assertion S a b pa pb wf = record {
    asserted_left = pushed (λ n x. Present S x.0) S.assertions (a, b) (Constant 0, Constant 0) wf.asserted_left pa;
    asserted_right = pushed (λ n x. Present S x.1) S.assertions (a, b) (Constant 0, Constant 0) wf.asserted_right pb;
    earlier_left = wf.earlier_left;
    earlier_right = wf.earlier_right;
    mixed = wf.mixed;
  }

  -- what a call leaves is well-formed, grown from S, and knows the answer
  pub record Fine (S : Sheet M) (r : Answered M) : Type 0 where
    pub wf : WellFormed r.0
    pub ext : Ext S r.0
    pub known : KnownVar r.0 r.1

  pub fine_after : (S T : Sheet M) (r : Answered M) → Ext S T → Fine T r → Fine S r
  fine_after S T r e f = record { wf = f.wf; ext = ext_trans S T r.0 e f.ext; known = f.known }

  pub fine_same : (S : Sheet M) (x : Var M) → WellFormed S → KnownVar S x → Fine S (S, x)
  fine_same S x wf k = record { wf = wf; ext = ext_refl S; known = k }

  pub fine_constant : (S : Sheet M) (x : M) → WellFormed S → Fine S (push_constant S x)
  fine_constant S x wf = record { wf = wf_leaves S _ _ (ext_constant S x) wf; ext = ext_constant S x; known = omega (arith, length_push S.constants x) }

  pub fine_witness : (S : Sheet M) → WellFormed S → Fine S (push_witness S)
  fine_witness S wf = record { wf = wf_leaves S _ _ (ext_witness S) wf; ext = ext_witness S; known = omega arith }

  pub fine_node : (S : Sheet M) (o : Op) (a b : CircuitIdx) → WellFormed S → Present S a → Present S b → (BothConstant a b → ⊥) → Fine S (push_node S (node_of o a b))
  fine_node S plus_op a b wf pa pb h = record { wf = wf_node S (Add a b) pa pb h wf; ext = ext_node S (Add a b); known = omega (arith, length_push S.nodes (Add a b)) }
  fine_node S times_op a b wf pa pb h = record { wf = wf_node S (Mul a b) pa pb h wf; ext = ext_node S (Mul a b); known = omega (arith, length_push S.nodes (Mul a b)) }
