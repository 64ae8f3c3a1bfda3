-- The packets so far are summed. Assumes nothing.
use mathlib.Core.Path.{◌≡◌}
use Rattle.sums.specs.Sums.{sum_from, each, packet_at}
use Rattle.sums.proofs.sum.of_packets.Given as goal

abbrev pub invariant-loop-j : goal.invariant-loop-j
invariant-loop-j l = l.sum ≡ sum_from l.h (each (packet_at l.f) l.j)
