use Rattle.std.proofs.Common.{refl}
use Rattle.sums.specs.Sums.{each, link_at}
use Rattle.sums.proofs.Sums.{sum_step}
use Rattle.sums.proofs.sum.of_links.Goals as goal

pub loop-k-init : goal.loop-k-init
unfolding each
loop-k-init c = refl

pub loop-k-preserved : goal.loop-k-preserved
loop-k-preserved c = sum_step _ (link_at c.args.p.now c.args.a.now) _ _ _ c.loop-k.invariant c.of_link-sum.ensures
