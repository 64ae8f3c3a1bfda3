-- No Out end so far is marked, or some is. Assumes nothing.
use Rattle.std.proofs.Common.{◌≡◌, false, not, ◌&&◌, get_or}
use Rattle.model.specs.Below.{any}
use Rattle.over.proofs.out_marked.Given as goal

abbrev pub invariant-loop-x : goal.invariant-loop-x
invariant-loop-x l = l.fit ≡ not (any (λ y. get_or l.out y false && get_or l.mark y false) l.x)
