-- The entries passed have moved. Assumes nothing.
use Prim.Native.Nat.{◌+◌}
use Rattle.packets.specs.Moves.{Moved}
use Rattle.packets.proofs.list.move_down.Given as goal

abbrev pub invariant-loop-k : goal.invariant-loop-k
invariant-loop-k g l = (d : g.row.T.Denot) → Moved d l.from (l.from + l.k) l.initial.a l.a
