-- Where each entry of the filled columns stands.
use Rattle.std.proofs.Common.{◌≡◌, ℕ, zero, suc, ◌+◌, ◌-◌, ◌<◌, Bool, true, false, Decides, MatchBool, List, [], ◌∷◌, ◌++◌, map, length, get_or, sym, refl, ◌∙◌, arith}
use Rattle.std.proofs.lemmas.Bool.{false≢true}
use Rattle.std.specs.List.{All, AllWithin, HoldsAt, zip}
use Rattle.std.proofs.lemmas.List.{length-map, get_or-append_right}
use Rattle.ring.specs.Algebra.{RingOn}
use Rattle.ring.proofs.Laws.{nought_times, times_nought}
use Rattle.matrix.specs.Cells.{entry}
use Rattle.circuit.specs.Bulletproofs.{hadamard}
use Rattle.circuit.specs.Verdict.{filled}

product_at : {M : Type 0} (R : RingOn M) (ls rs : List M) (k : ℕ) → get_or (hadamard R ls rs) k R.nought ≡ R.times (get_or ls k R.nought) (get_or rs k R.nought)
product_at R [] rs k = sym (nought_times R _)
product_at R (l ∷ ls) [] k = sym (times_nought R _)
product_at R (l ∷ ls) (r ∷ rs) zero = refl
product_at R (l ∷ ls) (r ∷ rs) (suc k) = product_at R ls rs k

-- the columns past the others are out
pub out_at : {E M : Type 0} (R : RingOn M) (f : E → M) (vs ls rs : List E) (k : ℕ) → length vs + length ls + length rs < k → (let j = k - 1 - length vs - length ls - length rs in entry R (filled R (map f vs) (map f ls) (map f rs)) k ≡ R.times (get_or (map f ls) j R.nought) (get_or (map f rs) j R.nought))
out_at {E} {M} R f vs ls rs k past =
    let outs = hadamard R (map f ls) (map f rs) in
    get_or-append_right (R.unit ∷ []) (map f vs ++ (map f ls ++ (map f rs ++ outs))) 1 k R.nought refl (omega arith)
    ∙ get_or-append_right (map f vs) (map f ls ++ (map f rs ++ outs)) (length vs) (k - 1) R.nought (length-map vs f) (omega arith)
    ∙ get_or-append_right (map f ls) (map f rs ++ outs) (length ls) (k - 1 - length vs) R.nought (length-map ls f) (omega arith)
    ∙ get_or-append_right (map f rs) outs (length rs) (k - 1 - length vs - length ls) R.nought (length-map rs f) (omega arith)
    ∙ product_at R (map f ls) (map f rs) (k - 1 - length vs - length ls - length rs)

module _ {E M : Type 0} (R : RingOn M) (f : E → M) where
  -- each out is its left times its right
  abbrev pub Agrees : (E × E) × E → Type 0
  Agrees p = f p.1 ≡ R.times (f p.0.0) (f p.0.1)

  pub hadamard_is : (ls rs os : List E) → length ls ≡ length rs → length ls ≡ length os → All Agrees (zip (zip ls rs) os) → hadamard R (map f ls) (map f rs) ≡ map f os
  hadamard_is [] [] [] p q h = refl
  hadamard_is [] (r ∷ rs) os p q h = absurd (omega arith)
  hadamard_is [] [] (o ∷ os) p q h = absurd (omega arith)
  hadamard_is (l ∷ ls) [] os p q h = absurd (omega arith)
  hadamard_is (l ∷ ls) (r ∷ rs) [] p q h = absurd (omega arith)
  hadamard_is (l ∷ ls) (r ∷ rs) (o ∷ os) p q h =
      let here = h 0 ((l, r), o) (omega arith) in
      let rest = hadamard_is ls rs os (omega arith) (omega arith) (λ k d lt. h (suc k) d (omega arith)) in
      cc

  pub hadamard_at : (ls rs os : List E) → hadamard R (map f ls) (map f rs) ≡ map f os → All Agrees (zip (zip ls rs) os)
  hadamard_at [] rs os h k d lt = absurd (omega arith)
  hadamard_at (l ∷ ls) [] os h k d lt = absurd (omega arith)
  hadamard_at (l ∷ ls) (r ∷ rs) [] h k d lt = absurd (omega arith)
  hadamard_at (l ∷ ls) (r ∷ rs) (o ∷ os) h zero d lt = cc
  hadamard_at (l ∷ ls) (r ∷ rs) (o ∷ os) h (suc k) d lt = hadamard_at ls rs os (cc) k d (omega arith)

  -- the first zipped place that does not agree, or none, decides it
  pub decided : (ls rs os : List E) → length ls ≡ length rs → length ls ≡ length os → (b : Bool) → MatchBool b (AllWithin Agrees (zip (zip ls rs) os) 0 (length (zip (zip ls rs) os))) ((k : ℕ) × (k < length (zip (zip ls rs) os)) × HoldsAt (λ p. Agrees p → ⊥) (zip (zip ls rs) os) k) → Decides b (hadamard R (map f ls) (map f rs) ≡ map f os)
  decided ls rs os p q true all = (λ _. hadamard_is ls rs os p q (λ k d lt. all k d (omega arith) lt), λ _. refl)
  decided [] rs os p q false apart = absurd (omega (arith, apart.1))
  decided (l ∷ ls) rs os p q false apart =
      (λ no'. absurd (false≢true no'), λ h. absurd (apart.2 ((l, l), l) (hadamard_at (l ∷ ls) rs os h apart.0 ((l, l), l) apart.1)))
