-- The starts of the last three lines stand in order, none past what was read. Assumes nothing.
use Rattle.std.proofs.Common.{◌≤◌}
use Rattle.drills.proofs.show.last_two.Given as goal

abbrev pub invariant-loop-i : goal.invariant-loop-i
invariant-loop-i l = (l.first ≤ l.second) × (l.second ≤ l.third) × (l.third ≤ l.i)
