-- The events passed are gathered. Assumes nothing.
use Rattle.replay.specs.Chunks.{Gathers}
use Rattle.replay.proofs.chunk.gather.Given as goal

abbrev pub invariant-loop-i : goal.invariant-loop-i
invariant-loop-i l = Gathers l.file l.from l.most l.kinds l.arguments l.i l.at
