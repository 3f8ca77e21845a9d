-- The law on runs holds.
use Rattle.std.proofs.Common.{map}
use Rattle.ring.specs.Algebra.{RingOn}
use Rattle.worksheet.specs.Runs.{prover, verifier, erase}
use Rattle.worksheet.specs.Law.{LawOfRuns}
use Rattle.worksheet.proofs.OnTheWay.{beginning, ran_is}
use Rattle.worksheet.proofs.Built.{built, within}
use Rattle.worksheet.proofs.Alike.{alike, all_erased}
use Rattle.worksheet.proofs.Holding.{kept, held}

pub law : {M : Type 0} (R : RingOn M) → LawOfRuns R
law R = record {
  beginning = beginning R;
  ran_is = ran_is R;
  well_formed = built R;
  within = within R;
  same_for_all = λ r s cap cs ds k. alike R cap r s cs ds k;
  same_for_verifier = λ cap ps. alike R cap prover verifier ps (map erase ps) (all_erased R cap ps);
  stored_all = λ cap ps. let k = kept R cap ps in (k.given_count, k.good.count);
  stored = held R;
}
