-- Of the slots passed, the packets that stand are gathered. Assumes nothing.
use Rattle.arrays.specs.Flight.{Slots}
use Rattle.slots.proofs.Gathered.{Gathered}
use Rattle.packets.specs.Moves.{Stays}
use Rattle.slots.proofs.gather.Given as goal

abbrev pub invariant-loop-j : goal.invariant-loop-j
invariant-loop-j l =
    Gathered l.queues.number l.queues.lane l.queues.bit l.j l.w l.flight.number l.flight.lane l.flight.bit
    × Stays l.w l.initial.flight l.flight
    × Slots l.flight
