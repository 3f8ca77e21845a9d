-- Worked figures, over the residues modulo 8,191.
use Rattle.std.specs.Prelude.{◌≡◌, ℕ, ◌+◌, ◌*◌, List, [], ◌∷◌, map, length, Some, None, ◌≢◌}
use Rattle.std.proofs.Common.{lit<}
use Rattle.refusal.specs.Outcome.{Outcome, accepted, refused}
use Rattle.ring.specs.Algebra.{RingOn, FieldOf}
use Rattle.ring.specs.Modular.{Class, class_of, modular}
use Rattle.matrix.specs.Matrix.{Matrix, raised}
use Rattle.circuit.specs.Verdict.{Satisfied}
use Rattle.worksheet.specs.declared.CircuitIdx.{CircuitIdx}
use Rattle.worksheet.specs.declared.CircuitIdx.TheVariants.{Witness, Node}
use Rattle.worksheet.specs.declared.Var.{Var}
use Rattle.worksheet.specs.declared.Var.TheVariants.{Native, Circuit}
use Rattle.worksheet.specs.Runs.{prover, Decided, Call, witness, add, multiply, divide, assert_equal, Capacities, Worksheet, run, values_of}
use Rattle.lowering.specs.Outcome.{Lengths, Lowered, made, lower}
use Rattle.lowering.specs.Columns.{Columns, written}

abbrev pub Residue : Type 0
Residue = Class 8191

abbrev pub residues : RingOn Residue
residues = modular 8191 (lit< tt)

abbrev pub residue : ℕ → Residue
residue k = class_of 8191 k

abbrev pub Calls : Type 0
Calls = List (Call residues prover)

abbrev pub w0 : Var Residue
w0 = Circuit (Witness 0)

abbrev pub w1 : Var Residue
w1 = Circuit (Witness 1)

abbrev pub n0 : Var Residue
n0 = Circuit (Node 0)

abbrev pub room : Capacities
room = record { constants = 9; witnesses = 9; nodes = 9; assertions = 9 }

abbrev pub ran : Calls → Worksheet Residue prover
ran ps = (run residues prover room ps).0

-- tables with so long a walk table, and long others
abbrev pub tables : ℕ → Lengths
tables walk = record { walk = walk; index = 99; places = 99; terms = 99; gates = 99; rows = 99; cells = 99 }

abbrev pub lowering : Calls → List CircuitIdx → Outcome (Lowered Residue)
lowering ps C = lower residues (tables 99) (ran ps).sheet C

abbrev pub lowered : Calls → List CircuitIdx → Lowered Residue
lowered ps C = made residues (ran ps).sheet C

abbrev pub columns : Calls → List CircuitIdx → Columns Residue
columns ps C = written residues (values_of residues (ran ps)) C (lowered ps C).gates None

-- the rows' verdict on the columns v, l, r, given as numbers
abbrev pub Passes : Calls → List CircuitIdx → List ℕ → List ℕ → List ℕ → Type 0
Passes ps C v l r =
    Satisfied residues (lowered ps C).matrix (length C) (length (lowered ps C).gates) (map residue v) (map residue l) (map residue r)

abbrev pub numbers : List Residue → List ℕ
numbers xs = map (λ x. x.value) xs

-- row, column and weight of each cell
abbrev pub cells : Matrix Residue → List (ℕ × ℕ × ℕ)
cells m = map (λ x. (x.row, x.column, x.weight.value)) m.cells

-- 3 and 5, and their product asserted to be 15
abbrev pub fifteen : Calls
fifteen = witness (residue 3) ∷ (witness (residue 5) ∷ (multiply w0 w1 ∷ (assert_equal n0 (Native (residue 15)) tt ∷ [])))

-- two witnesses and their product, or their sum
abbrev pub times : Calls
times = witness (residue 3) ∷ (witness (residue 5) ∷ (multiply w0 w1 ∷ []))

abbrev pub plus : Calls
plus = witness (residue 3) ∷ (witness (residue 5) ∷ (add w0 w1 ∷ []))

-- W0 times W0 asserted to be 9
abbrev pub nine : Calls
nine = witness (residue 8188) ∷ (multiply w0 w0 ∷ (assert_equal n0 (Native (residue 9)) tt ∷ []))

-- W0 divided by W1, the quotient being W2
abbrev pub divided : FieldOf residues → ℕ → ℕ → Calls
divided F a b = witness (residue a) ∷ (witness (residue b) ∷ (divide F w0 w1 ∷ []))

abbrev pub w0_committed : List CircuitIdx
w0_committed = Witness 0 ∷ []

abbrev pub w0_twice : List CircuitIdx
w0_twice = Witness 0 ∷ (Witness 0 ∷ [])

pub record Figures : Type 0 where
  -- witnesses 3 and 5, product asserted to be 15, W0 committed
  pub fifteen_accepted : lowering fifteen w0_committed ≡ accepted (lowered fifteen w0_committed)
  pub fifteen_gates : length (lowered fifteen w0_committed).gates ≡ 2
  pub fifteen_height : (lowered fifteen w0_committed).matrix.height ≡ 4
  pub fifteen_width : (lowered fifteen w0_committed).matrix.width ≡ 7
  pub fifteen_cells : cells (lowered fifteen w0_committed).matrix ≡ (0, 0, 15) ∷ ((0, 6, 8190) ∷ ((1, 2, 8190) ∷ ((1, 3, 1) ∷ ((2, 4, 0) ∷ ((3, 1, 8190) ∷ ((3, 3, 1) ∷ []))))))
  pub fifteen_left : numbers (columns fifteen w0_committed).left ≡ 3 ∷ (3 ∷ [])
  pub fifteen_right : numbers (columns fifteen w0_committed).right ≡ 5 ∷ (0 ∷ [])
  -- its width is no circuit's, and padded to 8 it is that of two gates
  pub not_a_circuit : (n : ℕ) → (lowered fifteen w0_committed).matrix.width ≢ 1 + 1 + 3 * n
  pub padded_circuit : (raised 0 8 (lowered fifteen w0_committed).matrix).width ≡ 1 + 1 + 3 * 2
  -- W0 committed twice and no assertion: two values in its slots are refused
  pub two_slots : lowering (witness (residue 3) ∷ []) w0_twice ≡ accepted (lowered (witness (residue 3) ∷ []) w0_twice)
  pub two_values : (l r : List ℕ) → Passes (witness (residue 3) ∷ []) w0_twice (3 ∷ (4 ∷ [])) l r → ⊥
  -- nothing at all
  pub nothing : lowering [] [] ≡ accepted (lowered [] [])
  pub nothing_height : (lowered [] []).matrix.height ≡ 0
  pub nothing_width : (lowered [] []).matrix.width ≡ 0
  pub nothing_passes : Passes [] [] [] [] []
  -- W0 times W0 is 9: minus 3 is a root, and 3 times 4 is none
  pub root : Passes nine [] [] (8188 ∷ []) (8188 ∷ [])
  pub no_root : Passes nine [] [] (3 ∷ []) (4 ∷ []) → ⊥
  -- W0 divided by W1: gate 0 has the quotient and W1, gate 1 has W0
  pub quotient_gates : (F : FieldOf residues) → (lowered (divided F 0 0) []).gates ≡ record { left = Witness 2; right = Some (Witness 1); product = Some (Node 0) } ∷ (record { left = Witness 0; right = None; product = None } ∷ [])
  pub zero_by_zero : (F : FieldOf residues) (q : ℕ) → Passes (divided F 0 0) [] [] (q ∷ (0 ∷ [])) (0 ∷ (0 ∷ []))
  pub one_by_zero : (F : FieldOf residues) (q x : ℕ) → Passes (divided F 1 0) [] [] (q ∷ (1 ∷ [])) (0 ∷ (x ∷ [])) → ⊥
  -- a committed sum leaves its witnesses without a place, a committed product does not
  pub sum_refused : lowering plus (Node 0 ∷ []) ≡ refused 14
  pub product_accepted : lowering times (Node 0 ∷ []) ≡ accepted (lowered times (Node 0 ∷ []))
  -- one node asks for a walk table of three
  pub walk_of_three : lower residues (tables 3) (ran times).sheet [] ≡ accepted (lowered times [])
  pub walk_of_two : lower residues (tables 2) (ran times).sheet [] ≡ refused 10
  -- 3 and 4 asserted equal, whoever compares them
  pub unequal : (d : Decided (residue 3) (residue 4)) → (run residues prover room (assert_equal (Native (residue 3)) (Native (residue 4)) d ∷ [])).1 ≡ refused 4 ∷ []
