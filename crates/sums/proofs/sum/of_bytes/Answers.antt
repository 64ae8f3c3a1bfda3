use Rattle.std.proofs.Common.{arith}
use Rattle.sums.proofs.Sums.{values_step}
use Rattle.sums.proofs.sum.of_bytes.Goals as goal

pub loop-byte-preserved : goal.loop-byte-preserved
loop-byte-preserved c = values_step 1 c.args.bytes.now _ _ _ (omega arith) c.loop-byte.invariant (cc)
