-- The calls passed have been made. Assumes nothing.
use Rattle.arrays.specs.View.{shown}
use Rattle.queues.specs.Queue.{flown}
use Rattle.runs.proofs.Going.{Going}
use Rattle.runs.proofs.run.Given as goal

abbrev pub invariant-loop-i : goal.invariant-loop-i
invariant-loop-i l =
    Going l.plan (shown l.plan l.initial.arrows (flown l.initial.queues) l.initial.t) l.kinds l.arguments l.initial.answers l.initial.packets l.initial.ways
    l.arrows l.queues l.answers l.packets l.ways l.t l.i
