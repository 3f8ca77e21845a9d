-- The constraint system of the Bulletproofs paper (Bünz, Bootle, Boneh, Poelstra, Wuille and Maxwell, 2018):
-- n multiplication gates, m committed values and Q linear constraints,
--     W_L · a_L + W_R · a_R + W_O · a_O = W_V · v + c    and    a_L ∘ a_R = a_O
use Rattle.std.specs.Prelude.{◌≡◌, ℕ, List, [], ◌∷◌, map, length}
use Rattle.ring.specs.Algebra.{RingOn}

-- a dense matrix is the list of its rows
pub record System (M : Type 0) : Type 0 where
  pub n : ℕ
  pub m : ℕ
  pub W_L : List (List M)
  pub W_R : List (List M)
  pub W_O : List (List M)
  pub W_V : List (List M)
  pub c : List M

abbrev pub dot : {M : Type 0} → RingOn M → List M → List M → M
dot R [] xs = R.nought
dot R (w ∷ ws) [] = R.nought
dot R (w ∷ ws) (x ∷ xs) = R.plus (R.times w x) (dot R ws xs)

-- a matrix times a vector
abbrev pub apply : {M : Type 0} → RingOn M → List (List M) → List M → List M
apply R W xs = map (λ w. dot R w xs) W

abbrev pub entrywise : {M : Type 0} → (M → M → M) → List M → List M → List M
entrywise f [] ys = []
entrywise f (x ∷ xs) [] = []
entrywise f (x ∷ xs) (y ∷ ys) = f x y ∷ entrywise f xs ys

abbrev pub sum : {M : Type 0} → RingOn M → List M → List M → List M
sum R xs ys = entrywise R.plus xs ys

-- the Hadamard product, ∘
abbrev pub hadamard : {M : Type 0} → RingOn M → List M → List M → List M
hadamard R xs ys = entrywise R.times xs ys

abbrev pub Linear : {M : Type 0} → RingOn M → System M → List M → List M → List M → List M → Type 0
Linear R S v aL aR aO =
    sum R (sum R (apply R S.W_L aL) (apply R S.W_R aR)) (apply R S.W_O aO) ≡ sum R (apply R S.W_V v) S.c

pub record Holds {M : Type 0} (R : RingOn M) (S : System M) (v aL aR aO : List M) : Type 0 where
  pub v_size : length v ≡ S.m
  pub left_size : length aL ≡ S.n
  pub right_size : length aR ≡ S.n
  pub out_size : length aO ≡ S.n
  pub linear : Linear R S v aL aR aO
  pub gates : hadamard R aL aR ≡ aO
