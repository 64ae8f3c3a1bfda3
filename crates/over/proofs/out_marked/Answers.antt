use Rattle.std.proofs.Common.{refl}
use Rattle.arrays.proofs.Loops.{none_none, none_more, none_end}
use Rattle.over.proofs.out_marked.Goals as goal

pub loop-x-init : goal.loop-x-init
loop-x-init c = none_none _

pub loop-x-preserved : goal.loop-x-preserved
loop-x-preserved c = none_more _ c.loop-x.x c.loop-x.invariant refl

pub returns : goal.returns
returns c = let h = c.loop-x in none_end _ h.x c.args.ends h.invariant h.auto.x-end c.loop-x-test.false
