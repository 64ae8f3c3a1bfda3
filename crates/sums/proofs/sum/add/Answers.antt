-- Cutting the sum and the value to their remainders first changes nothing. Assumes nothing.
use Rattle.sums.specs.Sums.{summed}
use Rattle.sums.proofs.Remainders.{times_plus_mod}
use Rattle.sums.proofs.sum.add.Goals as goal

pub returns : goal.returns
unfolding summed
returns c = times_plus_mod c.args.h 48271 c.args.value 4294967291
