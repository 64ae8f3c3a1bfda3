use Rattle.std.proofs.Common.{refl}
use Rattle.sums.specs.Sums.{each, packet_at}
use Rattle.sums.proofs.Sums.{sum_step}
use Rattle.sums.proofs.sum.of_packets.Goals as goal

pub loop-j-init : goal.loop-j-init
unfolding each
loop-j-init c = refl

pub loop-j-preserved : goal.loop-j-preserved
loop-j-preserved c = sum_step _ (packet_at c.args.f.now) _ _ _ c.loop-j.invariant c.of_packet-sum.ensures
