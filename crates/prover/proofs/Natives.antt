-- Calls that answer a native append nothing, and what quotients and inverses are worth.
use Rattle.std.proofs.Common.{◌≡◌, ◌≤◌, true, false, cond, [], ◌++◌, length, take, drop, Some, Ok, Err, Result, sym, refl, ap, ◌∙◌, ap₂, subst, arith}
use Rattle.std.proofs.lemmas.List.{length-map, append-nil, length-take-le, drop_all}
use Rattle.std.proofs.lemmas.Bool.{cond-true, cond-false}
use Rattle.refusal.specs.declared.Refusal.{Refusal}
use Rattle.refusal.specs.declared.Refusal.TheVariants.{ShortTable}
use Rattle.refusal.specs.Outcome.{outcome, accepted}
use Rattle.ring.specs.Algebra.{RingOn, FieldOf}
use Rattle.worksheet.specs.declared.CircuitIdx.{CircuitIdx}
use Rattle.worksheet.specs.declared.Counts.{Counts}
use Rattle.worksheet.specs.declared.Var.{Var}
use Rattle.worksheet.specs.declared.Var.TheVariants.{Native, Circuit}
use Rattle.worksheet.specs.Calls.{Answered, var_means}
use Rattle.worksheet.specs.Runs.{prover, Call, Reply, Worksheet, perform, reply, operands, all_known, clashes, fresh, values_of, work_out, divide, invert}
use Rattle.worksheet.proofs.Stepping.{accepts_step}
use Rattle.builder.specs.declared.Builder.{Builder}
use Rattle.builder.specs.Requests.{worth}
use Rattle.builder.proofs.Asking.{unmoved}
use Rattle.prover.specs.declared.Ledger.{Ledger}
use Rattle.prover.specs.declared.Values.{Values}
use Rattle.prover.specs.Book.{held, short, worksheet_in, read}
use Rattle.prover.specs.Called.{Made}
use Rattle.prover.proofs.Calling.{long, stepped_by}
use Rattle.prover.proofs.Entries.{look_by}

-- in the tables t of the worksheet o
module _ {E M : Type 0} (R : RingOn M) (means : E → M) (o : Builder) (t : Ledger E) where
  abbrev W : Worksheet M prover
  W = worksheet_in means o.counts (held t)

  abbrev val : CircuitIdx → M
  val = values_of R W

  abbrev shown : Result (Var E) Refusal → Reply M
  shown a = outcome (λ v. Some (var_means means v)) a

  module _ (q : E) (r : Result (Var E) Refusal) (is : r ≡ cond (short o.capacity (held t)) (Err ShortTable) (Ok (Native q))) where
    -- nothing is appended, and y is answered
    native_made : (c : Call R prover) (y : M) → perform R W.sheet c ≡ (W.sheet, Native y) → all_known W.sheet (operands c) ≡ true → clashes R c ≡ false → fresh R val c ≡ [] → reply c (Native y) ≡ accepted (Some (Native y)) → means q ≡ y → Made R means o o t t c (shown r)
    native_made c y performs known calm none answers e =
        let n = o.counts in
        let cap = o.capacity in
        let b = held t in
        record {
          called = record {
            too_short = λ s. ap shown (is ∙ cond-true (short cap b) _ _ s);
            stepped = λ s.
                let below = o.below in
                let l = long cap b s in
                let lc = length-map (take n.constants b.constants) means ∙ length-take-le n.constants b.constants (omega arith) in
                let ln = length-take-le n.nodes b.nodes (omega arith) in
                let la = length-take-le n.assertions b.assertions (omega arith) in
                let fits = subst (λ (A : Answered M). (length A.0.constants ≤ cap.constants) × (A.0.witnesses ≤ cap.witnesses) × (length A.0.nodes ≤ cap.nodes) × (length A.0.assertions ≤ cap.assertions)) (sym performs) (omega arith, below.1, omega arith, omega arith) in
                let done = accepts_step R prover cap W c known calm fits in
                let S = W.sheet in
                let T = (perform R S c).0 in
                let ρ = W.given ++ fresh R val c in
                let given : ρ ≡ W.given = ap (λ xs. W.given ++ xs) none ∙ append-nil W.given in
                let worked : work_out R T ρ W.worked (drop (length S.nodes) T.nodes) ≡ W.worked = ap (λ (A : Answered M). work_out R T ρ W.worked (drop (length S.nodes) A.0.nodes)) performs ∙ ap (work_out R T ρ W.worked) (drop_all (length S.nodes) S.nodes (omega arith)) in
                let has = ap shown (is ∙ cond-false (short cap b) _ _ s) ∙ ap (λ z. accepted (Some (Native z))) e in
                stepped_by R cap W c done (cc) (has ∙ sym answers ∙ ap (λ (A : Answered M). reply c A.1) (sym performs));
            unchanged = λ _ _. (refl, refl);
            spare_constants = refl;
            spare_nodes = refl;
            spare_assertions = refl;
            spare_values = refl;
            spare_worked = refl;
          };
          stays = record { structure = unmoved o t.tables; lent_values = refl; lent_worked = refl; long_values = refl; long_worked = refl };
        }

    pub native_quotient : (x y : M) (F : FieldOf R) → means q ≡ R.times x (F.inverse y) → Made R means o o t t (divide F (Native x) (Native y)) (shown r)
    native_quotient x y F e = native_made (divide F (Native x) (Native y)) _ refl refl refl refl refl e

    pub native_inverse : (x : M) (F : FieldOf R) → means q ≡ F.inverse x → Made R means o o t t (invert F (Native x)) (shown r)
    native_inverse x F e = native_made (invert F (Native x)) _ refl refl refl refl refl e

  -- variables' values, seen through the view v
  module _ (v : Values E) {n : Counts} (is_n : n ≡ o.counts) (counts : v.counts ≡ n) (constants : v.constants.now ≡ t.tables.constants.now) (values : v.values.now ≡ t.values.now) (worked : v.worked.now ≡ t.worked.now) (F : FieldOf R) where
    abbrev seen : Var E → M
    seen a = worth (read R means v.counts v.constants.now v.values.now v.worked.now) (var_means means a)

    abbrev worth_of : Var E → M
    worth_of a = worth val (var_means means a)

    seen_by : (a : Var M) → worth (read R means v.counts v.constants.now v.values.now v.worked.now) a ≡ worth val a
    seen_by (Native x) = refl
    seen_by (Circuit i) = rw (counts, is_n, constants, values, worked) (look_by R W.sheet W.given W.worked i)

    -- the value z of a, which is x
    seen_is : (a x : Var E) → a ≡ x → (z : M) → z ≡ seen a → z ≡ worth_of x
    seen_is a x p z e = e ∙ seen_by (var_means means a) ∙ ap worth_of p

    -- what a call does with operands that are found to be x and y
    module _ {is : Builder} {t' : Ledger E} {p : Reply M} where
      pub divided : {a b x y : Var E} → a ≡ x → b ≡ y → {z w i q : M} → z ≡ seen a → w ≡ seen b → i ≡ F.inverse w → q ≡ R.times z i → ((K : FieldOf R) → q ≡ R.times (worth_of x) (K.inverse (worth_of y)) → Made R means o is t t' (divide K (var_means means x) (var_means means y)) p) → (K : FieldOf R) × Made R means o is t t' (divide K (var_means means a) (var_means means b)) p
      divided {a} {b} {x} {y} is_x is_y {z} {w} {i} {q} of_a of_b inverts product made =
          rw (is_x, is_y) (F, made F (product ∙ ap₂ R.times (seen_is a x is_x z of_a) (inverts ∙ ap F.inverse (seen_is b y is_y w of_b))))

      pub inverted : {a x : Var E} → a ≡ x → {z i : M} → z ≡ seen a → i ≡ F.inverse z → ((K : FieldOf R) → i ≡ K.inverse (worth_of x) → Made R means o is t t' (invert K (var_means means x)) p) → (K : FieldOf R) × Made R means o is t t' (invert K (var_means means a)) p
      inverted {a} {x} is_x {z} {i} of_a inverts made = rw is_x (F, made F (inverts ∙ ap F.inverse (seen_is a x is_x z of_a)))
