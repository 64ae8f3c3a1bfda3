use Rattle.groups.proofs.Masks.{top_test}
use Rattle.groups.proofs.bits.goes_on.Goals as goal

pub returns : goal.returns
returns c = top_test c.args.b c.ranges.b.fits
