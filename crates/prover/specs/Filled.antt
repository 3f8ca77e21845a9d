-- The values that are written once the structure is.
use Rattle.std.specs.Prelude.{◌≡◌, if◌then◌else◌, map, take, drop, nat_lt, slice_set}
use Rattle.ring.specs.Algebra.{RingOn}
use Rattle.worksheet.specs.declared.Counts.{Counts}
use Rattle.worksheet.specs.Runs.{work_out}
use Rattle.prover.specs.Book.{Book, of_constants}

-- between the counts n and n', a new witness has the value x, and the nodes theirs
pub record Filled {E M : Type 0} (R : RingOn M) (means : E → M) (n n' : Counts) (x : E) (t t' : Book E) : Type 0 where
  pub hands : t'.values ≡ (if nat_lt n.witnesses n'.witnesses then slice_set t.values n.witnesses x else t.values)
  pub works : map means (take n'.nodes t'.worked) ≡ work_out R (of_constants (map means (take n'.constants t.constants))) (map means (take n'.witnesses t'.values)) (map means (take n.nodes t.worked)) (drop n.nodes (take n'.nodes t.nodes))
  pub past : drop n'.nodes t'.worked ≡ drop n'.nodes t.worked
