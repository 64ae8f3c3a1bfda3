-- No link before the one that is looked at leads out. Assumes nothing.
use Prim.Native.Nat.{◌-◌}
use Rattle.ways.proofs.Chains.{Walked}
use Rattle.ways.proofs.chain.along.Given as goal

abbrev pub invariant-loop-l : goal.invariant-loop-l
invariant-loop-l l = Walked l.plan l.arrows l.v l.l

abbrev pub decreases-loop-l : goal.decreases-loop-l
decreases-loop-l l = l.plan.links - l.l
