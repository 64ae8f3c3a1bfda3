-- No end so far is at no node, or some is. Assumes nothing.
use Rattle.std.proofs.Common.{◌≡◌, not, leb, eqb, get_or}
use Rattle.model.specs.Below.{any}
use Rattle.over.proofs.node_over.Given as goal

abbrev pub invariant-loop-a : goal.invariant-loop-a
invariant-loop-a l = eqb l.over 0 ≡ not (any (λ x. leb l.nodes (get_or l.node x 0)) l.a-index)
