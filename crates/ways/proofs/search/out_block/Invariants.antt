-- The ends passed are those that were tested. Assumes nothing.
use Prim.Native.Nat.{◌+◌}
use mathlib.Core.Path.{◌≡◌}
use mathlib.Core.Bool.{false, ◌&&◌}
use lib.Dec.{eqb}
use lib.ListN.{get_or}
use Rattle.model.specs.Below.{any}
use Rattle.ways.proofs.search.out_block.Given as goal

abbrev pub invariant-loop-j : goal.invariant-loop-j
invariant-loop-j l = l.some ≡ any (λ i. eqb (get_or l.plan.node (l.from + i) 0) l.v && get_or l.arrows.out (l.from + i) false) l.j
