use Rattle.std.proofs.Common.{arith}
use Rattle.sums.proofs.Sums.{values_step}
use Rattle.sums.proofs.sum.of_values.Goals as goal

pub loop-value-preserved : goal.loop-value-preserved
loop-value-preserved c = values_step c.args.h c.args.values.now _ _ _ (omega arith) c.loop-value.invariant (cc)
