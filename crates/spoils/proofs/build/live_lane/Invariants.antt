-- The lane is one of the record's. Assumes nothing.
use Rattle.std.proofs.Common.{◌<◌}
use Rattle.spoils.proofs.build.live_lane.Given as goal

abbrev pub invariant-loop : goal.invariant-loop
invariant-loop l = l.y < l.lanes
