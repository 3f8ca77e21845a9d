-- The law on lowered worksheets holds.
use Rattle.std.proofs.Common.{◌≡◌, ℕ, zero, suc, ◌+◌, ◌*◌, ◌<◌, ◌≤◌, true, false, not, ltb, ◌↔◌, List, [], ◌∷◌, map, length, get_or, Some, None, Option, sym, refl, ap, ◌∙◌, subst, ap₂, inl, inr, arith}
use Rattle.std.proofs.Math.Nat.{max-le}
use Rattle.std.specs.List.{range_with_len}
use Rattle.std.proofs.lemmas.List.FromFn.{length-map-range_with_len, get_or-map-range_with_len}
use Rattle.std.proofs.lemmas.List.{get_or-map, length-map}
use Rattle.std.proofs.lemmas.Bool.{and_parts, and_from, or_parts, not-false, both_ways, cases_eq, lt-ltb}
use Rattle.refusal.specs.Outcome.{Outcome, accepted}
use Rattle.ring.specs.Algebra.{RingOn}
use Rattle.matrix.specs.Cells.{entry}
use Rattle.matrix.specs.Matrix.{Matrix, raised}
use Rattle.circuit.specs.Bulletproofs.{hadamard}
use Rattle.worksheet.specs.declared.CircuitIdx.{CircuitIdx}
use Rattle.worksheet.specs.declared.CircuitIdx.TheVariants.{Constant, Witness}
use Rattle.worksheet.specs.Sheet.{Sheet, WellFormed, Present, Holds, value}
use Rattle.worksheet.specs.Runs.{Role, prover, verifier, erase, Reply, Worksheet, run, values_of, present, refusal}
use Rattle.worksheet.specs.Law.{Alike}
use Rattle.worksheet.proofs.Built.{is_present}
use Rattle.worksheet.proofs.Stepping.{clear}
use Rattle.worksheet.proofs.Law as runs
use Rattle.lowering.specs.declared.Location.{Location}
use Rattle.lowering.specs.declared.Location.TheVariants.{One, Left, Right, Output, Committed}
use Rattle.lowering.specs.declared.Gate.{Gate}
use Rattle.lowering.specs.Committed.{entry_at}
use Rattle.lowering.specs.Lowering.{State, homeless, gate_of, finished}
use Rattle.lowering.specs.Outcome.{Lengths, Lowered, made, all_present, some_homeless, lower_causes, outcome_by, lower}
use Rattle.lowering.specs.Columns.{Columns, value_or_zero, out_of, written, at_place, read, there, all_there, ReadsBack, absent, missized, unsatisfied, reads}
use Rattle.lowering.specs.Law.{AlikeLowered, Satisfies, Faithful}
use Rattle.lowering.proofs.Explains.{gate_at, Complete}
use Rattle.lowering.proofs.Walk.{complete}
use Rattle.lowering.proofs.Valued.{Valued, valued, stored_valued}
use Rattle.lowering.proofs.Core.{Written, binds, carries}
use Rattle.lowering.proofs.Entries.{InPlain}
use Rattle.lowering.proofs.Ranges.{width_fits, agreeing_vanish, vanish_agreeing, in_witness}
use Rattle.lowering.proofs.Gates.{fine_finished, out_is}

are_present : {M : Type 0} (S : Sheet M) (C : List CircuitIdx) → all_present S C ≡ true → (i : ℕ) → i < length C → Present S (entry_at C i)
are_present S [] e i h = absurd (omega arith)
are_present S (a ∷ C) e zero h = is_present S a (and_parts (present S a) (all_present S C) e).0
are_present S (a ∷ C) e (suc i) h = are_present S C (and_parts (present S a) (all_present S C) e).1 i (omega arith)

none_homeless : {M : Type 0} (f : State M) (n : ℕ) → some_homeless f n ≡ false → (w : ℕ) → w < n → homeless f w ≡ false
none_homeless f zero e w h = absurd (omega arith)
none_homeless f (suc n) e w h =
    let p = or_parts (homeless f n) (some_homeless f n) e in
    elim (cases_eq w n) [
      | inl q ↦ rw q p.0
      | inr q ↦ none_homeless f n p.1 w (omega arith)
    ]

was_accepted : {A : Type 0} (o : Option ℕ) (k m : A) → outcome_by o k ≡ accepted m → (o ≡ None) × (k ≡ m)
was_accepted (Some n) k m e = (cc, cc)
was_accepted None k m e = (refl, cc)

is_there : (c n : ℕ) (p : Location) → InPlain c n p → there c n p ≡ true
is_there c n One h = refl
is_there c n (Location.Witness w) h = absurd h
is_there c n (Left k) h = lt-ltb k n h
is_there c n (Right k) h = lt-ltb k n h
is_there c n (Output k) h = lt-ltb k n h
is_there c n (Committed i) h = lt-ltb i c h

are_there : (c n : ℕ) (place : ℕ → Location) → ((w : ℕ) → InPlain c n (place w)) → (i m : ℕ) → all_there c n (map place (range_with_len i m)) ≡ true
are_there c n place h i zero = refl
are_there c n place h i (suc m) = and_from _ _ (is_there c n (place i) (h i)) (are_there c n place h (i + 1) m)

-- reading back has at most one answer
one_answer : {M : Type 0} (R : RingOn M) (m : Matrix M) (c n : ℕ) (ps : List Location) (v l r : List M) (a b : Outcome (List M)) → ReadsBack R m c n ps v l r a → ReadsBack R m c n ps v l r b → a ≡ b
one_answer R m c n ps v l r _ _ (absent e) (absent k) = refl
one_answer R m c n ps v l r _ _ (absent e) (missized k h) = absurd (both_ways _ e k)
one_answer R m c n ps v l r _ _ (absent e) (unsatisfied k z h) = absurd (both_ways _ e k)
one_answer R m c n ps v l r _ _ (absent e) (reads k s) = absurd (both_ways _ e k)
one_answer R m c n ps v l r _ _ (missized e h) (absent k) = absurd (both_ways _ k e)
one_answer R m c n ps v l r _ _ (missized e h) (missized k g) = refl
one_answer R m c n ps v l r _ _ (missized e h) (unsatisfied k z g) = absurd (h z)
one_answer R m c n ps v l r _ _ (missized e h) (reads k s) = absurd (h (s.v_size, s.left_size, s.right_size))
one_answer R m c n ps v l r _ _ (unsatisfied e z h) (absent k) = absurd (both_ways _ k e)
one_answer R m c n ps v l r _ _ (unsatisfied e z h) (missized k g) = absurd (g z)
one_answer R m c n ps v l r _ _ (unsatisfied e z h) (unsatisfied k y g) = refl
one_answer R m c n ps v l r _ _ (unsatisfied e z h) (reads k s) = absurd (h s)
one_answer R m c n ps v l r _ _ (reads e s) (absent k) = absurd (both_ways _ k e)
one_answer R m c n ps v l r _ _ (reads e s) (missized k g) = absurd (g (s.v_size, s.left_size, s.right_size))
one_answer R m c n ps v l r _ _ (reads e s) (unsatisfied k z g) = absurd (g s)
one_answer R m c n ps v l r _ _ (reads e s) (reads k t) = refl

products_are : {M : Type 0} (R : RingOn M) (d : Gate) (gs : List Gate) (a b o : Gate → M) → ((k : ℕ) → k < length gs → o (get_or gs k d) ≡ R.times (a (get_or gs k d)) (b (get_or gs k d))) → hadamard R (map a gs) (map b gs) ≡ map o gs
products_are R d [] a b o h = refl
products_are R d (g ∷ gs) a b o h = ap₂ (λ x xs. x ∷ xs) (sym (h 0 (omega arith))) (products_are R d gs a b o (λ k l. h (suc k) (omega arith)))

-- a worksheet that lowering accepts
module _ {M : Type 0} (R : RingOn M) (S : Sheet M) (wf : WellFormed S) (L : Lengths) (C : List CircuitIdx) (free : refusal (lower_causes R L S C) ≡ None) where
  abbrev f : State M
  f = finished R S C

  abbrev gs : List Gate
  gs = f.gates

  here : (i : ℕ) → i < length C → Present S (entry_at C i)
  here = are_present S C (not-false (all_present S C) (or_parts (not (all_present S C)) (ltb 65536 (length C)) (clear (lower_causes R L S C) free).1.0).0)

  done : Complete R S C f
  done = complete R S C wf here (none_homeless f S.witnesses (clear (lower_causes R L S C) free).1.1.1.1.1.1.0)

  -- written columns
  module _ (val : CircuitIdx → M) (vals : Valued R S val) (bs : Option (List M)) (h w : ℕ) (narrow : w ≤ 1 + length C + 3 * length gs) where
    abbrev cols : Columns M
    cols = written R val C gs bs

    at_gate : (g : Gate → M) (k : ℕ) → k < length gs → entry R (map g gs) k ≡ g (gate_at f k)
    at_gate g k l = get_or-map g gs k (gate_of (Constant 0) None) R.nought l

    wrote : Written R C f val cols.values cols.left cols.right
    wrote = record {
      at_value = λ i l. get_or-map val C i (Constant 0) R.nought l;
      at_left = at_gate (λ (g : Gate). val g.left);
      at_right = at_gate (λ (g : Gate). value_or_zero R val g.right);
    }

    carried : Satisfies R (made R S C) C h w cols.values cols.left cols.right ↔ Holds S val
    carried =
        let k = carries R S C f wf done val vals cols.values cols.left cols.right wrote in
        let a = length-map C val in
        let b = length-map gs (λ (g : Gate). val g.left) in
        let c = length-map gs (λ (g : Gate). value_or_zero R val g.right) in (
          λ s. k.0 (vanish_agreeing R S C f wf done cols.values cols.left cols.right a b c s.rows),
          λ y. record {
            v_size = a;
            left_size = b;
            right_size = c;
            fits = max-le (width_fits R S C f wf done) narrow;
            rows = agreeing_vanish R S C f wf done cols.values cols.left cols.right a b c (k.1 y);
          },
        )

    outs : hadamard R cols.left cols.right ≡ cols.out
    outs =
        products_are R (gate_of (Constant 0) None) gs (λ (g : Gate). val g.left) (λ (g : Gate). value_or_zero R val g.right) (λ (g : Gate). out_of R val g.left g.right g.product)
        (λ k l. out_is S R C wf val vals (gate_at f k) (fine_finished S R C wf here k l))

  -- satisfying columns
  module _ (h w : ℕ) (v l r : List M) (sat : Satisfies R (made R S C) C h w v l r) where
    abbrev ρ : List M
    ρ = read R (made R S C).places v l r

    places_count : length (made R S C).places ≡ S.witnesses
    places_count = length-map-range_with_len f.place 0 S.witnesses

    back : (x : ℕ) → x < S.witnesses → value R S ρ (Witness x) ≡ at_place R v l r (f.place x)
    back x lt =
        get_or-map (at_place R v l r) (made R S C).places x One R.nought (omega (arith, places_count))
        ∙ ap (at_place R v l r) (get_or-map-range_with_len f.place 0 S.witnesses x x One lt (omega arith))

    bound : Holds S (value R S ρ) × ((i : ℕ) → i < length C → value R S ρ (entry_at C i) ≡ entry R v i)
    bound =
        binds R S C f wf done here v l r (vanish_agreeing R S C f wf done v l r sat.v_size sat.left_size sat.right_size sat.rows)
        (value R S ρ) (valued R S ρ wf) back

    abbrev Reads : Outcome (List M) → Type 0
    Reads b = ReadsBack R (raised h w (made R S C).matrix) (length C) (length gs) (made R S C).places v l r b

    read_is : Reads (accepted ρ)
    read_is = reads (are_there (length C) (length gs) f.place (in_witness R S C f wf done) 0 S.witnesses) sat

    is_bound : ((b : Outcome (List M)) → Reads b ↔ (b ≡ accepted ρ)) × (length ρ ≡ S.witnesses) × Holds S (value R S ρ) × ((i : ℕ) → i < length C → value R S ρ (entry_at C i) ≡ entry R v i)
    is_bound = (
      λ b. (λ q. one_answer R _ _ _ _ v l r b (accepted ρ) q read_is, λ e. subst Reads (sym e) read_is),
      length-map (made R S C).places (at_place R v l r) ∙ places_count,
      bound.0,
      bound.1,
    )

alike : {M : Type 0} (R : RingOn M) {r s : Role} (x : Worksheet M r × List (Reply M)) (y : Worksheet M s × List (Reply M)) → Alike x y → AlikeLowered R x y
alike R x y k = record { runs = k; outcomes = λ L C. ap (λ S. lower R L S C) k.1 }

pub law : {M : Type 0} (R : RingOn M) → Faithful R
law {M} R = record {
  same_for_all = λ r s cap cs ds k. alike R (run R r cap cs) (run R s cap ds) ((runs.law R).same_for_all r s cap cs ds k);
  same_for_verifier = λ cap ps. alike R (run R prover cap ps) (run R verifier cap (map erase ps)) ((runs.law R).same_for_verifier cap ps);
  written_satisfy = λ cap ps L C m bs h w e.
      let W = (run R prover cap ps).0 in
      let S = W.sheet in
      let val = values_of R W in
      let wf = (runs.law R).well_formed prover cap ps in
      let k = was_accepted (refusal (lower_causes R L S C)) (made R S C) m e in
      subst (λ (x : Lowered M). w ≤ 1 + length C + 3 * length x.gates →
      let cols = written R val C x.gates bs in
      (Satisfies R x C h w cols.values cols.left cols.right ↔ Holds S val) × (hadamard R cols.left cols.right ≡ cols.out)) k.1
      (λ narrow. (carried R S wf L C k.0 val (stored_valued R cap ps) bs h w narrow, outs R S wf L C k.0 val (stored_valued R cap ps) bs h w narrow));
  satisfying_bind = λ r cap cs L C m h w v left right e.
      let S = (run R r cap cs).0.sheet in
      let wf = (runs.law R).well_formed r cap cs in
      let k = was_accepted (refusal (lower_causes R L S C)) (made R S C) m e in
      subst (λ (x : Lowered M). Satisfies R x C h w v left right →
      let ρ = read R x.places v left right in
      ((b : Outcome (List M)) → ReadsBack R (raised h w x.matrix) (length C) (length x.gates) x.places v left right b ↔ (b ≡ accepted ρ))
      × (length ρ ≡ S.witnesses) × Holds S (value R S ρ) × ((i : ℕ) → i < length C → value R S ρ (entry_at C i) ≡ entry R v i)) k.1
      (λ sat. is_bound R S wf L C k.0 h w v left right sat);
}
