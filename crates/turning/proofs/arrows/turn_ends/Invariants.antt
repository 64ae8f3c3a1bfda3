-- The blocks passed have had their part: where they have no end of the node, none is needed. Assumes nothing.
use Prim.Native.Nat.{◌*◌}
use Rattle.turning.specs.Turned.{Part}
use Rattle.turning.proofs.arrows.turn_ends.Given as goal

abbrev pub invariant-loop-block : goal.invariant-loop-block
invariant-loop-block l = Part l.plan l.v l.full 0 (16 * l.block) l.initial.arrows l.arrows
