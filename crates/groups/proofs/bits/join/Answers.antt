use Rattle.groups.proofs.Masks.{join_seven}
use Rattle.groups.proofs.bits.join.Goals as goal

pub returns : goal.returns
returns c = join_seven c.args.high c.args.low c.requires.0 c.requires.1
