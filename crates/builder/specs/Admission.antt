-- Whether a call is refused, by counts alone.
use Rattle.std.specs.Prelude.{ℕ, ◌+◌, Bool, true, not, ◌&&◌, List, [], ◌∷◌, nat_lt}
use Rattle.worksheet.specs.declared.CircuitIdx.{CircuitIdx}
use Rattle.worksheet.specs.declared.CircuitIdx.TheVariants.{Constant, Witness, Node}
use Rattle.worksheet.specs.declared.Counts.{Counts}
use Rattle.worksheet.specs.declared.Var.{Var}
use Rattle.worksheet.specs.declared.Var.TheVariants.{Native, Circuit}

-- a variable is native, or its id is below its count
abbrev pub known_id : Counts → CircuitIdx → Bool
known_id n (Constant k) = nat_lt k n.constants
known_id n (Witness w) = nat_lt w n.witnesses
known_id n (Node m) = nat_lt m n.nodes

abbrev pub known_by : {E : Type 0} → Counts → Var E → Bool
known_by n (Native x) = true
known_by n (Circuit a) = known_id n a

abbrev pub all_by : {E : Type 0} → Counts → List (Var E) → Bool
all_by n [] = true
all_by n (v ∷ vs) = known_by n v && all_by n vs

-- the causes of a call that would append so much, in the order in which they are tried
abbrev pub causes : Counts → Counts → Bool → Bool → Bool → Counts → List (Bool × ℕ)
causes cap n short known clash more =
    (short, 2)
    ∷ ((not known, 3)
    ∷ ((clash, 4)
    ∷ ((nat_lt cap.constants (n.constants + more.constants), 5)
    ∷ ((nat_lt cap.witnesses (n.witnesses + more.witnesses), 6)
    ∷ ((nat_lt cap.nodes (n.nodes + more.nodes), 7)
    ∷ ((nat_lt cap.assertions (n.assertions + more.assertions), 8) ∷ []))))))
