-- The ends passed have had their part. Assumes nothing.
use Prim.Native.Nat.{◌+◌}
use Rattle.turning.specs.Turned.{Part}
use Rattle.turning.proofs.arrows.turn_block.Given as goal

abbrev pub invariant-loop-x : goal.invariant-loop-x
invariant-loop-x l = Part l.plan l.v l.full l.from (l.from + l.x) l.initial.arrows l.arrows
