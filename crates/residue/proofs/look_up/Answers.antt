use Rattle.std.proofs.Common.{lit<}
use Rattle.ring.proofs.Inverses.{inverse_by}
use Rattle.residue.proofs.look_up.Goals as goal

pub returns : goal.returns
returns c = inverse_by 8191 _ c.requires (lit< tt) _ c.args.of.below
