-- A rotation by one of the end of a list puts its last element in the middle.
use Rattle.std.proofs.Common.{◌≡◌, ℕ, ◌+◌, ◌-◌, ◌<◌, ◌≤◌, List, [], ◌∷◌, ◌++◌, length, take, drop, set, sym, ap, ◌∙◌, arith, length-append, length-drop, length-set, length-take}
use borrow.Rule.Slice.PartMut.{put_mid}
use Rattle.std.specs.List.{between, insert}
use Rattle.std.proofs.lemmas.List.{take_more_set, drop-append-le, drop_at, drop-set-lt, take_at, take-take, take-set-le}
use Rattle.std.proofs.lemmas.Slice.{between_is, take-put_mid, drop-put_mid}

abbrev pub turned : {X : Type 0} → List X → List X
turned p = drop (length p - 1) p ++ take (length p - 1) p

turned_push : {X : Type 0} (q : List X) (x : X) → turned (q ++ (x ∷ [])) ≡ x ∷ q
turned_push q x =
    let n : length q ≡ length (q ++ (x ∷ [])) - 1 = simp length-append (omega arith) in
    ap (λ t. t ++ take (length (q ++ (x ∷ [])) - 1) (q ++ (x ∷ []))) (drop_at q (x ∷ []) _ n)
    ∙ ap (λ t. x ∷ t) (take_at q (x ∷ []) _ n)

-- `rot` is the part from `at` to `count + 1` of the cells with x at `count`, once it is rotated
module _ {X : Type 0} (cs rot : List X) (count at : ℕ) (x : X) (room : count < length cs) (within : at ≤ count) (is : rot ≡ turned (between at (count + 1) (set cs count x))) where
  rotated : rot ≡ x ∷ drop at (take count cs)
  rotated =
      let front : at ≤ length (take count cs) = simp length-take (omega arith) in
      let part : between at (count + 1) (set cs count x) ≡ drop at (take count cs) ++ (x ∷ []) =
      between_is (set cs count x) at (count + 1)
      ∙ ap (drop at) (take_more_set cs count x room)
      ∙ drop-append-le at (take count cs) (x ∷ []) front in
      is ∙ ap turned part ∙ turned_push (drop at (take count cs)) x

  long : length rot ≡ count + 1 - at
  long = rw rotated (simp (length-drop, length-take) (omega arith))

  inside : at ≤ length (set cs count x)
  inside = simp length-set (omega arith)

  pub shifted : take (count + 1) (put_mid at (count + 1 - at) (set cs count x) rot) ≡ insert (take count cs) at x
  shifted =
      let n = long in
      take-put_mid at (count + 1 - at) (set cs count x) rot (count + 1) (omega arith) inside
      ∙ ap (λ t. t ++ rot) (take-set-le at cs count x within ∙ sym (take-take at count cs within))
      ∙ ap (λ t. take at (take count cs) ++ t) rotated

  pub spared : drop (count + 1) (put_mid at (count + 1 - at) (set cs count x) rot) ≡ drop (count + 1) cs
  spared = drop-put_mid at (count + 1 - at) (set cs count x) rot (count + 1) (omega arith) inside long ∙ drop-set-lt (count + 1) cs count x (omega arith)
