-- No link so far is bad. Assumes nothing.
use Rattle.std.proofs.Common.{◌≡◌, ◌-◌}
use Rattle.model.specs.Below.{first}
use Rattle.model.specs.Opening.{first_bad_link}
use Rattle.pairs.proofs.BadLinks.{bad_link_at}
use Rattle.pairs.proofs.tests.first_bad.Given as goal

abbrev pub invariant-loop-l : goal.invariant-loop-l
invariant-loop-l l = first_bad_link l.nodes l.list ≡ first (bad_link_at l.nodes l.list) l.l (l.links - l.l)
