-- One node more is worked out.
use Rattle.std.proofs.Common.{◌≡◌, ℕ, ◌+◌, ◌<◌, ◌≤◌, List, [], ◌∷◌, ◌++◌, map, length, get_or, take, drop, set, sym, ap, ◌∙◌, arith}
use Rattle.std.proofs.lemmas.List.{take_more_set, map_push, drop_more, get_or-take, length-take-le}
use Rattle.ring.specs.Algebra.{RingOn}
use Rattle.worksheet.specs.declared.CircuitNode.{CircuitNode}
use Rattle.worksheet.specs.Sheet.{Sheet, combine, left_of, right_of}
use Rattle.worksheet.specs.Runs.{look, work_out}

module _ {E M : Type 0} (R : RingOn M) (means : E → M) (S : Sheet M) (ρ : List M) (ns : List CircuitNode) (N : ℕ) (long : N ≤ length ns) (ws : List E) where
  abbrev nds : List CircuitNode
  nds = take N ns

  pub one_more : (k : ℕ) → k < N → k < length ws → (x : E) (d : CircuitNode) → (let nd = get_or ns k d in let done = map means (take k ws) in means x ≡ combine R nd (look R S ρ done (left_of nd)) (look R S ρ done (right_of nd))) → work_out R S ρ (map means (take (k + 1) (set ws k x))) (drop (k + 1) nds) ≡ work_out R S ρ (map means (take k ws)) (drop k nds)
  one_more k lt in_ws x d worth =
      let nd = get_or ns k d in
      let done = map means (take k ws) in
      let under : k < length nds = omega (arith, length-take-le N ns long) in
      let next : drop k nds ≡ nd ∷ drop (k + 1) nds = drop_more nds k d under ∙ ap (λ (m : CircuitNode). m ∷ drop (k + 1) nds) (get_or-take N ns k d lt) in
      let grown : map means (take (k + 1) (set ws k x)) ≡ done ++ (combine R nd (look R S ρ done (left_of nd)) (look R S ρ done (right_of nd)) ∷ []) = ap (map means) (take_more_set ws k x in_ws) ∙ map_push means (take k ws) x ∙ ap (λ (y : M). done ++ (y ∷ [])) worth in
      ap (λ (vs : List M). work_out R S ρ vs (drop (k + 1) nds)) grown ∙ sym (ap (λ (ms : List CircuitNode). work_out R S ρ done ms) next)
