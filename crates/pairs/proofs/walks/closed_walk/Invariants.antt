-- After so many rounds the nodes from which a walk of so many arrows sets out are known. Assumes nothing.
use Rattle.std.proofs.Common.{◌≡◌, take}
use Rattle.model.specs.Opening.{sets_out}
use Rattle.pairs.proofs.walks.closed_walk.Given as goal

abbrev pub invariant-loop : goal.invariant-loop
invariant-loop l = take l.nodes l.sets ≡ sets_out l.nodes l.list l.counter
