use Rattle.arrays.proofs.Loops.{any_none, any_more}
use Rattle.pairs.proofs.walks.some_sets.Goals as goal

pub loop-v-init : goal.loop-v-init
loop-v-init c = any_none _

pub loop-v-preserved : goal.loop-v-preserved
loop-v-preserved c = any_more _ c.loop-v.v c.loop-v.invariant
