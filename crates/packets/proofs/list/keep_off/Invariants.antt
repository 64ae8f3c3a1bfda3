-- Of the packets passed, those off the link are kept. Assumes nothing.
use Prim.Native.Nat.{◌≤◌}
use Rattle.packets.proofs.Packets.{Kept}
use Rattle.packets.specs.Moves.{Stays}
use Rattle.packets.proofs.list.keep_off.Given as goal

abbrev pub invariant-loop-j : goal.invariant-loop-j
invariant-loop-j l =
    (l.w ≤ l.j)
    × Kept l.initial.flight.number l.initial.flight.lane l.initial.flight.bit l.l l.j l.w l.flight.number l.flight.lane l.flight.bit
    × Stays l.w l.initial.flight l.flight
