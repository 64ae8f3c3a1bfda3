use Rattle.std.proofs.Common.{refl}
use Rattle.sums.specs.Sums.{each, turns_at}
use Rattle.sums.proofs.Sums.{sum_step}
use Rattle.sums.proofs.sum.of_turns.Goals as goal

pub loop-v-init : goal.loop-v-init
unfolding each
loop-v-init c = refl

pub loop-v-preserved : goal.loop-v-preserved
loop-v-preserved c = sum_step _ (turns_at c.args.a.now) _ _ _ c.loop-v.invariant (cc)
