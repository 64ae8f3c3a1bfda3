-- The slots from i on are in queues. Assumes nothing.
use Rattle.queues.specs.Queue.{Idle}
use Rattle.slots.proofs.Threads.{Threading, Aside}
use Rattle.slots.proofs.thread_lanes.Given as goal

abbrev pub invariant-loop-i : goal.invariant-loop-i
invariant-loop-i l =
    let s = l.initial.queues in
    let q = l.queues in
    Threading s.lane s.used l.i q.first q.last q.after × Idle s.used q.first s.last s.after q.last q.after × Aside s q
