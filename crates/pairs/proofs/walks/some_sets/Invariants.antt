-- Some node so far has a walk, or none. Assumes nothing.
use Rattle.std.proofs.Common.{◌≡◌, false, get_or}
use Rattle.model.specs.Below.{any}
use Rattle.pairs.proofs.walks.some_sets.Given as goal

abbrev pub invariant-loop-v : goal.invariant-loop-v
invariant-loop-v l = l.found ≡ any (λ u. get_or l.sets u false) l.v
