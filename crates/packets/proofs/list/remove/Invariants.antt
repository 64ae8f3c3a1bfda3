-- The blocks passed have moved. Assumes nothing.
use Rattle.packets.specs.Moves.{Moved}
use Rattle.packets.proofs.list.remove.Given as goal

abbrev pub invariant-loop-j : goal.invariant-loop-j
invariant-loop-j g l = (d : g.row.T.Denot) → Moved d l.i l.j l.initial.a l.a
