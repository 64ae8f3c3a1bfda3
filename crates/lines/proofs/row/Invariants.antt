-- The word, then the numbers passed. Assumes nothing.
use lib.ListN.{length}
use Rattle.letters.proofs.Pending.{Pending}
use Rattle.lines.proofs.LineParts.{fields}
use Rattle.lines.proofs.row.Given as goal

abbrev pub invariant-loop-n : goal.invariant-loop-n
invariant-loop-n l = Pending l.initial.page (fields l.list 0 (length l.list)) l.page (fields l.list l.n-index (length l.list))
