-- The word, then the turns of the nodes passed. Assumes nothing.
use Rattle.letters.proofs.Pending.{Pending}
use Rattle.lines.proofs.LineParts.{fields}
use Rattle.lines.proofs.turns.Given as goal

abbrev pub invariant-loop-n : goal.invariant-loop-n
invariant-loop-n l = Pending l.initial.page (fields l.turns 0 l.nodes) l.page (fields l.turns l.n-index l.nodes)
