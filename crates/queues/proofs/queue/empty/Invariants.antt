-- The slots passed that were on the link are empty. Assumes nothing.
use Rattle.queues.specs.Queue.{Emptied}
use Rattle.queues.proofs.queue.empty.Given as goal

abbrev pub invariant-loop-j : goal.invariant-loop-j
invariant-loop-j l = Emptied l.l l.j l.initial.lane l.lane
