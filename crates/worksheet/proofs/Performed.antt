-- What each accepted call leaves is well formed, and grown from what was there.
use Rattle.std.proofs.Common.{◌≡◌, ℕ, List, [], ◌∷◌, length, Some, None, Option, refl}
use Rattle.ring.specs.Algebra.{RingOn, FieldOf}
use Rattle.worksheet.specs.declared.CircuitIdx.{CircuitIdx}
use Rattle.worksheet.specs.declared.CircuitIdx.TheVariants.{Constant}
use Rattle.worksheet.specs.declared.Var.{Var}
use Rattle.worksheet.specs.declared.Var.TheVariants.{Native, Circuit}
use Rattle.worksheet.specs.Sheet.{Sheet, WellFormed, Present, BothConstant}
use Rattle.worksheet.specs.Calls.{
  Answered,
  push_constant,
  push_witness,
  push_assertion,
  constant_of,
  Op,
  plus_op,
  times_op,
  join_by,
  join,
  operate,
  negate_by,
  negated,
  subtracted,
  asserted,
  quotient,
  divided,
  inverted,
  squared,
  either,
  selected,
}
use Rattle.worksheet.specs.Runs.{
  Role,
  Call,
  constant,
  witness,
  add,
  multiply,
  negate,
  subtract,
  divide,
  invert,
  assert_equal,
  boolean_constant,
  boolean_witness,
  boolean_assert,
  boolean_not,
  boolean_and,
  boolean_or,
  select,
  perform,
  operands,
}
use Rattle.worksheet.proofs.Growing.{KnownVar, Ext, ext_trans, ext_refl, present_ext, known_ext, ext_assertion, wf_assertion, Fine, fine_after, fine_same, fine_constant, fine_witness, fine_node}

not_left : (a b : CircuitIdx) → constant_of a ≡ None → BothConstant a b → ⊥
not_left a b e t = cc (t.2)

not_right : (a b : CircuitIdx) → constant_of b ≡ None → BothConstant a b → ⊥
not_right a b e t = cc (t.3)

abbrev pub AllKnown : {M : Type 0} → Sheet M → List (Var M) → Type 0
AllKnown S [] = Unit {0}
AllKnown S (x ∷ xs) = KnownVar S x × AllKnown S xs

module _ {M : Type 0} (R : RingOn M) where
  fine_join_by : (o : Op) (S : Sheet M) (a b : CircuitIdx) (p q : Option ℕ) → constant_of a ≡ p → constant_of b ≡ q → WellFormed S → Present S a → Present S b → Fine S (join_by R o S a b p q)
  fine_join_by o S a b (Some k) (Some m) e f wf pa pb = fine_constant S _ wf
  fine_join_by o S a b (Some k) None e f wf pa pb = fine_node S o a b wf pa pb (not_right a b f)
  fine_join_by o S a b None q e f wf pa pb = fine_node S o a b wf pa pb (not_left a b e)

  fine_join : (o : Op) (S : Sheet M) (a b : CircuitIdx) → WellFormed S → Present S a → Present S b → Fine S (join R o S a b)
  fine_join o S a b = fine_join_by o S a b (constant_of a) (constant_of b) refl refl

  -- a native is appended and joined with an id
  fine_native : (o : Op) (S : Sheet M) (x : M) (b : CircuitIdx) → WellFormed S → Present S b → Fine S (join R o (push_constant S x).0 (Constant (length S.constants)) b)
  fine_native o S x b wf pb =
      let f = fine_constant S x wf in
      let T = (push_constant S x).0 in
      fine_after S T _ f.ext (fine_join o T (Constant (length S.constants)) b f.wf f.known (present_ext S T f.ext b pb))

  fine_operate : (o : Op) (S : Sheet M) (x y : Var M) → WellFormed S → KnownVar S x → KnownVar S y → Fine S (operate R o S x y)
  fine_operate o S (Native x) (Native y) wf kx ky = fine_same S _ wf tt
  fine_operate o S (Native x) (Circuit b) wf kx ky = fine_native o S x b wf ky
  fine_operate o S (Circuit a) (Native y) wf kx ky = fine_native o S y a wf kx
  fine_operate o S (Circuit a) (Circuit b) wf kx ky = fine_join o S a b wf kx ky

  fine_negate_by : (S : Sheet M) (a : CircuitIdx) (p : Option ℕ) → constant_of a ≡ p → WellFormed S → Present S a → Fine S (negate_by R S a p)
  fine_negate_by S a (Some k) e wf pa = fine_constant S _ wf
  fine_negate_by S a None e wf pa =
      let x = R.minus R.unit in
      let f = fine_constant S x wf in
      let T = (push_constant S x).0 in
      let c = Constant (length S.constants) in
      fine_after S T _ f.ext (fine_node T times_op c a f.wf f.known (present_ext S T f.ext a pa) (not_right c a e))

  fine_negated : (S : Sheet M) (x : Var M) → WellFormed S → KnownVar S x → Fine S (negated R S x)
  fine_negated S (Native x) wf k = fine_same S _ wf tt
  fine_negated S (Circuit a) wf k = fine_negate_by S a (constant_of a) refl wf k

  fine_subtracted : (S : Sheet M) (x y : Var M) → WellFormed S → KnownVar S x → KnownVar S y → Fine S (subtracted R S x y)
  fine_subtracted S x y wf kx ky =
      let n = negated R S y in
      let f = fine_negated S y wf ky in
      fine_after S n.0 _ f.ext (fine_operate plus_op n.0 x n.1 f.wf (known_ext S n.0 f.ext x kx) f.known)

  fine_native_asserted : (S : Sheet M) (x : M) (b : CircuitIdx) → WellFormed S → Present S b → Fine S (push_assertion (push_constant S x).0 (Constant (length S.constants)) b, Circuit b)
  fine_native_asserted S x b wf pb =
      let f = fine_constant S x wf in
      let T = (push_constant S x).0 in
      let c = Constant (length S.constants) in
      let p = present_ext S T f.ext b pb in
      record { wf = wf_assertion T c b f.known p f.wf; ext = ext_trans S T _ f.ext (ext_assertion T c b); known = p }

  fine_asserted : (S : Sheet M) (x y : Var M) → WellFormed S → KnownVar S x → KnownVar S y → WellFormed (asserted S x y) × Ext S (asserted S x y)
  fine_asserted S (Native x) (Native y) wf kx ky = (wf, ext_refl S)
  fine_asserted S (Native x) (Circuit b) wf kx ky = let f = fine_native_asserted S x b wf ky in (f.wf, f.ext)
  fine_asserted S (Circuit a) (Native y) wf kx ky = let f = fine_native_asserted S y a wf kx in (f.wf, f.ext)
  fine_asserted S (Circuit a) (Circuit b) wf kx ky = (wf_assertion S a b kx ky wf, ext_assertion S a b)

  -- an assertion after what f made, answering z
  fine_then : (S : Sheet M) (p : Answered M) (x z : Var M) → Fine S p → KnownVar S x → KnownVar p.0 z → Fine S (asserted p.0 p.1 x, z)
  fine_then S p x z f kx kz =
      let g = fine_asserted p.0 p.1 x f.wf f.known (known_ext S p.0 f.ext x kx) in
      record { wf = g.0; ext = ext_trans S p.0 _ f.ext g.1; known = known_ext p.0 _ g.1 z kz }

  fine_quotient : (S : Sheet M) (x y : Var M) → WellFormed S → KnownVar S x → KnownVar S y → Fine S (quotient R S x y)
  fine_quotient S x y wf kx ky =
      let q = push_witness S in
      let f = fine_witness S wf in
      let p = operate R times_op q.0 q.1 y in
      let g = fine_operate times_op q.0 q.1 y f.wf f.known (known_ext S q.0 f.ext y ky) in
      fine_then S p x q.1 (fine_after S q.0 p f.ext g) kx (known_ext q.0 p.0 g.ext q.1 f.known)

  fine_squared : (S : Sheet M) (x : Var M) → WellFormed S → KnownVar S x → Fine S (squared R S x)
  fine_squared S x wf kx =
      let p = operate R times_op S x x in
      let g = fine_operate times_op S x x wf kx kx in
      fine_then S p x x g kx (known_ext S p.0 g.ext x kx)

  fine_divided : (F : FieldOf R) (S : Sheet M) (x y : Var M) → WellFormed S → KnownVar S x → KnownVar S y → Fine S (divided R F S x y)
  fine_divided F S (Native x) (Native y) wf kx ky = fine_same S _ wf tt
  fine_divided F S (Native x) (Circuit b) wf kx ky = fine_quotient S (Native x) (Circuit b) wf kx ky
  fine_divided F S (Circuit a) (Native y) wf kx ky = fine_quotient S (Circuit a) (Native y) wf kx ky
  fine_divided F S (Circuit a) (Circuit b) wf kx ky = fine_quotient S (Circuit a) (Circuit b) wf kx ky

  fine_inverted : (F : FieldOf R) (S : Sheet M) (x : Var M) → WellFormed S → KnownVar S x → Fine S (inverted R F S x)
  fine_inverted F S (Native x) wf kx = fine_same S _ wf tt
  fine_inverted F S (Circuit a) wf kx = fine_quotient S (Native R.unit) (Circuit a) wf tt kx

  fine_either : (S : Sheet M) (x y : Var M) → WellFormed S → KnownVar S x → KnownVar S y → Fine S (either R S x y)
  fine_either S x y wf kx ky =
      let s = operate R plus_op S x y in
      let f = fine_operate plus_op S x y wf kx ky in
      let p = operate R times_op s.0 x y in
      let g = fine_operate times_op s.0 x y f.wf (known_ext S s.0 f.ext x kx) (known_ext S s.0 f.ext y ky) in
      fine_after S s.0 _ f.ext (fine_after s.0 p.0 _ g.ext (fine_subtracted p.0 s.1 p.1 g.wf (known_ext s.0 p.0 g.ext s.1 f.known) g.known))

  fine_selected : (S : Sheet M) (b t f : Var M) → WellFormed S → KnownVar S b → KnownVar S t → KnownVar S f → Fine S (selected R S b t f)
  fine_selected S b t f wf kb kt kf =
      let d = subtracted R S t f in
      let h = fine_subtracted S t f wf kt kf in
      let p = operate R times_op d.0 b d.1 in
      let g = fine_operate times_op d.0 b d.1 h.wf (known_ext S d.0 h.ext b kb) h.known in
      let e = ext_trans S d.0 p.0 h.ext g.ext in
      fine_after S p.0 _ e (fine_operate plus_op p.0 f p.1 g.wf (known_ext S p.0 e f kf) g.known)

  pub performs : {r : Role} (S : Sheet M) (c : Call R r) → WellFormed S → AllKnown S (operands c) → Fine S (perform R S c)
  performs S (constant x) wf k = fine_constant S x wf
  performs S (witness x) wf k = fine_witness S wf
  performs S (add x y) wf k = fine_operate plus_op S x y wf k.0 k.1.0
  performs S (multiply x y) wf k = fine_operate times_op S x y wf k.0 k.1.0
  performs S (negate x) wf k = fine_negated S x wf k.0
  performs S (subtract x y) wf k = fine_subtracted S x y wf k.0 k.1.0
  performs S (divide F x y) wf k = fine_divided F S x y wf k.0 k.1.0
  performs S (invert F x) wf k = fine_inverted F S x wf k.0
  performs S (assert_equal x y d) wf k = let f = fine_asserted S x y wf k.0 k.1.0 in record { wf = f.0; ext = f.1; known = known_ext S _ f.1 x k.0 }
  performs S (boolean_constant b) wf k = fine_same S _ wf tt
  performs S (boolean_witness b) wf k =
      let q = push_witness S in
      let f = fine_witness S wf in
      fine_after S q.0 _ f.ext (fine_squared q.0 q.1 f.wf f.known)
  performs S (boolean_assert x d) wf k = fine_squared S x wf k.0
  performs S (boolean_not x) wf k = fine_subtracted S (Native R.unit) x wf tt k.0
  performs S (boolean_and x y) wf k = fine_operate times_op S x y wf k.0 k.1.0
  performs S (boolean_or x y) wf k = fine_either S x y wf k.0 k.1.0
  performs S (select b t f) wf k = fine_selected S b t f wf k.0 k.1.0 k.1.1.0
