-- The last k links are threaded. Assumes nothing.
use Prim.Native.Nat.{◌-◌}
use Rattle.ways.specs.Chains.{Threaded}
use Rattle.ways.proofs.chain.thread.Given as goal

abbrev pub invariant-loop-k : goal.invariant-loop-k
invariant-loop-k l = Threaded l.plan (record { heads = l.heads; next = l.next }) (l.plan.links - l.k)
