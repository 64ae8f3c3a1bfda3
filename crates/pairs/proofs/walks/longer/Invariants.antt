-- By node, whether one of the links so far leads to a shorter walk. Assumes nothing.
use Rattle.std.proofs.Common.{◌≡◌}
use Rattle.model.specs.Limits.{nodes_most}
use Rattle.model.specs.Below.{tab}
use Rattle.pairs.proofs.ClosedWalks.{leads}
use Rattle.pairs.proofs.walks.longer.Given as goal

abbrev pub invariant-loop-l : goal.invariant-loop-l
invariant-loop-l l = l.sets ≡ tab (leads l.list l.shorter l.l) nodes_most
