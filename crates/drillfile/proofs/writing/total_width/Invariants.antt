-- The sum so far, with the width of what is left, is the whole width. Assumes nothing.
use Rattle.drillfile.proofs.Runs.{Summed}
use Rattle.drillfile.proofs.writing.total_width.Given as goal

abbrev pub invariant-loop-n : goal.invariant-loop-n
invariant-loop-n l = Summed l.list l.sum l.n-index
