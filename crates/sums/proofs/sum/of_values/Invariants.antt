-- The values so far are summed. Assumes nothing.
use mathlib.Core.Path.{◌≡◌}
use lib.ListN.{take}
use Rattle.sums.specs.Sums.{sum_from}
use Rattle.sums.proofs.sum.of_values.Given as goal

abbrev pub invariant-loop-value : goal.invariant-loop-value
invariant-loop-value l = l.sum ≡ sum_from l.h (take l.value-index l.values)
