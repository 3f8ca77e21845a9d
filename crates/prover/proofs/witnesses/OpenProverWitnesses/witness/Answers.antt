use Rattle.std.proofs.Common.{refl}
use Rattle.prover.proofs.witnesses.OpenProverWitnesses.witness.Goals as goal

pub returns : goal.returns
returns g c = c.call.ensures.called _ refl
