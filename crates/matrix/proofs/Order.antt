-- The order of cells as a test and as a fact of any two, and that meaning leaves order and cover alone.
use Rattle.std.proofs.Common.{◌≡◌, ℕ, ◌<◌, ◌≤◌, true, false, ◌&&◌, ltb, List, [], ◌∷◌, refl, ap, arith}
use Rattle.std.proofs.lemmas.Bool.{and_parts, and_from, lt-ltb, ltb-true}
use Rattle.std.proofs.lemmas.Bool.Decides.{nat_tests}
use Rattle.matrix.specs.declared.Cell.{Cell}
use Rattle.matrix.specs.Cells.{meant, before, same_place, rises_from, in_order, covers}

abbrev pub Later : ℕ → ℕ → ℕ → ℕ → Type 0
Later i j r c = before i j r c ≡ true

abbrev pub AllLater : {E : Type 0} → ℕ → ℕ → List (Cell E) → Type 0
AllLater r c [] = Unit {0}
AllLater r c (x ∷ xs) = Later r c x.row x.column × AllLater r c xs

abbrev pub Ordered : {E : Type 0} → List (Cell E) → Type 0
Ordered [] = Unit {0}
Ordered (x ∷ xs) = AllLater x.row x.column xs × Ordered xs

pub later_through : (a b i j r c : ℕ) → Later a b i j → Later i j r c → Later a b r c
later_through a b i j r c h k = grind (arith, nat_tests)

pub later_else : (i j r c : ℕ) → before i j r c ≡ false → same_place i j r c ≡ false → Later r c i j
later_else i j r c h k = grind (arith, nat_tests)

pub later_apart : (i j r c : ℕ) → Later i j r c → same_place i j r c ≡ false
later_apart i j r c h = grind (arith, nat_tests)

pub earlier_apart : (i j r c : ℕ) → Later r c i j → same_place i j r c ≡ false
earlier_apart i j r c h = grind (arith, nat_tests)

pub place_row : (i j r c : ℕ) → same_place i j r c ≡ true → i ≡ r
place_row i j r c h = grind (arith, nat_tests)

pub place_column : (i j r c : ℕ) → same_place i j r c ≡ true → j ≡ c
place_column i j r c h = grind (arith, nat_tests)

pub all_later_through : {E : Type 0} (a b i j : ℕ) (xs : List (Cell E)) → Later a b i j → AllLater i j xs → AllLater a b xs
all_later_through a b i j [] h k = tt
all_later_through a b i j (x ∷ xs) h k = (later_through a b i j x.row x.column h k.0, all_later_through a b i j xs h k.1)

chain : {E : Type 0} (r c : ℕ) (xs : List (Cell E)) → rises_from r c xs ≡ true → AllLater r c xs × Ordered xs
chain r c [] h = (tt, tt)
chain r c (x ∷ xs) h =
    let both = and_parts (before r c x.row x.column) (rises_from x.row x.column xs) h in
    let rest = chain x.row x.column xs both.1 in
    ((both.0, all_later_through r c x.row x.column xs both.0 rest.0), (rest.0, rest.1))

tested : {E : Type 0} (r c : ℕ) (xs : List (Cell E)) → AllLater r c xs → Ordered xs → rises_from r c xs ≡ true
tested r c [] h k = refl
tested r c (x ∷ xs) h k = and_from _ _ h.0 (tested x.row x.column xs k.0 k.1)

pub order_holds : {E : Type 0} (xs : List (Cell E)) → in_order xs ≡ true → Ordered xs
order_holds [] h = tt
order_holds (x ∷ xs) h = let both = chain x.row x.column xs h in (both.0, both.1)

pub order_tested : {E : Type 0} (xs : List (Cell E)) → Ordered xs → in_order xs ≡ true
order_tested [] h = refl
order_tested (x ∷ xs) h = tested x.row x.column xs h.0 h.1

module _ {E M : Type 0} (means : E → M) where
  rises_meant : (r c : ℕ) (xs : List (Cell E)) → rises_from r c (meant means xs) ≡ rises_from r c xs
  rises_meant r c [] = refl
  rises_meant r c (x ∷ xs) = ap (λ t. before r c x.row x.column && t) (rises_meant x.row x.column xs)

  pub order_meant : (xs : List (Cell E)) → in_order (meant means xs) ≡ in_order xs
  order_meant [] = refl
  order_meant (x ∷ xs) = rises_meant x.row x.column xs

  pub covers_meant : (h w : ℕ) (xs : List (Cell E)) → covers h w (meant means xs) ≡ covers h w xs
  covers_meant h w [] = refl
  covers_meant h w (x ∷ xs) = ap (λ t. (ltb x.row h && ltb x.column w) && t) (covers_meant h w xs)

-- what stands within a size stands within a larger one
pub covers_more : {E : Type 0} (h w g v : ℕ) (xs : List (Cell E)) → h ≤ g → w ≤ v → covers h w xs ≡ true → covers g v xs ≡ true
covers_more h w g v [] p q s = refl
covers_more h w g v (x ∷ xs) p q s =
    let both = and_parts (ltb x.row h && ltb x.column w) (covers h w xs) s in
    let here = and_parts (ltb x.row h) (ltb x.column w) both.0 in
    let low = ltb-true x.row h here.0 in
    let near = ltb-true x.column w here.1 in
    let under : x.row < g = omega arith in
    let beside : x.column < v = omega arith in
    and_from _ _ (and_from _ _ (lt-ltb _ _ under) (lt-ltb _ _ beside)) (covers_more h w g v xs p q both.1)
