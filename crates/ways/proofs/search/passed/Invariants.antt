-- The blocks passed have no Out end at the node. Assumes nothing.
use Prim.Native.Nat.{◌*◌}
use mathlib.Core.Path.{◌≡◌}
use mathlib.Core.Bool.{false, ◌&&◌}
use lib.Dec.{eqb}
use lib.ListN.{get_or}
use Rattle.model.specs.Below.{any}
use Rattle.ways.proofs.search.passed.Given as goal

abbrev pub invariant-loop-b : goal.invariant-loop-b
invariant-loop-b l = any (λ x. eqb (get_or l.plan.node x 0) l.v && get_or l.arrows.out x false) (l.b * 16) ≡ false
