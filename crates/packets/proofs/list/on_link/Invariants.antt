-- The packets passed that are on the link are counted. Assumes nothing.
use Prim.Native.Nat.{ℕ, ◌≤◌}
use mathlib.Core.Bool.{Bool}
use mathlib.Core.List.{List}
use Rattle.arrays.specs.View.{packet_at}
use Rattle.packets.proofs.Counts.{Counted}
use Rattle.packets.proofs.list.on_link.Given as goal

abbrev pub invariant-loop-x : goal.invariant-loop-x
invariant-loop-x l = (l.gone ≤ l.x-index) × ((number : List ℕ) (bit : List Bool) → Counted l.l (packet_at number l.lanes bit) l.gone l.x-index)
