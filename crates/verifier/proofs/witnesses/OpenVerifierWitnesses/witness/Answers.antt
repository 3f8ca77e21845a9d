use Rattle.std.proofs.Common.{rules}
use Rattle.verifier.proofs.Handed.{any_element, any_bit}
use Rattle.verifier.proofs.witnesses.OpenVerifierWitnesses.witness.Goals as goal

pub returns : goal.returns
returns g c = search (rules, any_element, any_bit)
