-- The numbers passed are those that were tested. Assumes nothing.
use Prim.Native.Nat.{◌+◌}
use mathlib.Core.Path.{◌≡◌}
use lib.Dec.{eqb}
use lib.ListN.{get_or}
use Rattle.model.specs.Below.{any}
use Rattle.arrays.proofs.block.block_has.Given as goal

abbrev pub invariant-loop-x : goal.invariant-loop-x
invariant-loop-x l = l.some ≡ any (λ j. eqb (get_or l.numbers (l.from + j) 0) l.number) l.x-index
