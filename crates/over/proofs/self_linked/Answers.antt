use Rattle.arrays.proofs.Loops.{any_none, any_more}
use Rattle.over.proofs.self_linked.Goals as goal

pub loop-l-init : goal.loop-l-init
loop-l-init c = any_none _

pub loop-l-preserved : goal.loop-l-preserved
loop-l-preserved c = any_more _ c.loop-l.l c.loop-l.invariant
