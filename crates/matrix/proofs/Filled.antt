-- What calls of a closure leave in the list that they fill.
use Rattle.std.proofs.Common.{◌≡◌, zero, suc, List, [], ◌∷◌, refl, subst, arith}
use Rattle.std.specs.List.{FoldsTo, All}

-- a closure of which each call keeps I
pub filled : {A S : Type 0} (R : S → A → S → Type 0) (P : A → Type 0) (I : S → Type 0) → ((p : S) (x : A) (q : S) → I p → R p x q → P x × I q) → (xs : List A) (first last : S) → I first → FoldsTo R first xs last → All P xs
filled R P I each [] first last i ran k d lt = absurd (omega arith)
filled R P I each (x ∷ xs) first last i ran zero d lt = (each first x ran.0 i ran.1).0
filled R P I each (x ∷ xs) first last i ran (suc k) d lt = filled R P I each xs ran.0 last (each first x ran.0 i ran.1).1 ran.2 k d (omega arith)

-- a closure that stays as it is
pub filled_alike : {A S : Type 0} (R : S → A → S → Type 0) (P : A → Type 0) (s : S) → ((x : A) (q : S) → R s x q → P x × (q ≡ s)) → (xs : List A) (last : S) → FoldsTo R s xs last → All P xs
filled_alike R P s each xs last ran = filled R P (λ p. p ≡ s) (λ p x q same called. each x q (subst (λ y. R y x q) same called)) xs s last refl ran
