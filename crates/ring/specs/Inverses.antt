-- When a list is a table of the inverses modulo n: a test that is computed.
use Rattle.std.specs.Prelude.{Bool, ◌&&◌, List, [], ◌∷◌, ℕ, suc, min, ◌*◌, ◌%◌, ltb, eqb, get_or}

-- x, at the place k, is below n, and k times it leaves 1, or 0 where k is 0
abbrev pub right : ℕ → ℕ → ℕ → Bool
right n k x = ltb x n && eqb (k * x % n) (min k 1)

-- the list has the places from k up to n, and is right at each
abbrev pub right_from : ℕ → ℕ → List ℕ → Bool
right_from n k [] = eqb k n
right_from n k (x ∷ xs) = right n k x && right_from n (suc k) xs

abbrev pub inverts : ℕ → List ℕ → Bool
inverts n xs = eqb (get_or xs 0 0) 0 && right_from n 0 xs
