-- What was stored, with the stores that are left, is the whole. Assumes nothing.
use Rattle.drillfile.proofs.Runs.{Stored}
use Rattle.drillfile.proofs.writing.put_numbers.Given as goal

abbrev pub invariant-loop-n : goal.invariant-loop-n
invariant-loop-n l = Stored l.initial.out l.at l.list l.out l.next l.n-index
