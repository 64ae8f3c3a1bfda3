-- The nodes of the ends so far. Assumes nothing.
use Rattle.std.proofs.Common.{◌≡◌}
use Rattle.model.specs.Limits.{ends_most}
use Rattle.model.specs.Below.{tab}
use Rattle.model.specs.Opening.{node_in}
use Rattle.pairs.proofs.Filling.{up_to}
use Rattle.pairs.proofs.fill.nodes_of.Given as goal

abbrev pub invariant-loop-x : goal.invariant-loop-x
invariant-loop-x l = l.node ≡ tab (up_to (node_in l.list) 0 l.x) ends_most
