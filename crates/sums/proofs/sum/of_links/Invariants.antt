-- The links so far are summed. Assumes nothing.
use mathlib.Core.Path.{◌≡◌}
use Rattle.sums.specs.Sums.{sum_from, each, link_at}
use Rattle.sums.proofs.sum.of_links.Given as goal

abbrev pub invariant-loop-k : goal.invariant-loop-k
invariant-loop-k l = l.sum ≡ sum_from l.h (each (link_at l.p l.a) l.k)
