-- The turns so far are summed. Assumes nothing.
use mathlib.Core.Path.{◌≡◌}
use Rattle.sums.specs.Sums.{sum_from, each, turns_at}
use Rattle.sums.proofs.sum.of_turns.Given as goal

abbrev pub invariant-loop-v : goal.invariant-loop-v
invariant-loop-v l = l.sum ≡ sum_from l.h (each (turns_at l.a) l.v)
