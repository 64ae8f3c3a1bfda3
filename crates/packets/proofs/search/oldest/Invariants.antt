-- The blocks passed hold no packet of the lane. Assumes nothing.
use Prim.Native.Nat.{◌-◌, min}
use mathlib.Core.Path.{◌≡◌}
use lib.Dec.{eqb}
use lib.ListN.{get_or}
use Rattle.model.specs.Below.{first}
use Rattle.packets.proofs.search.oldest.Given as goal

abbrev pub invariant-loop-base : goal.invariant-loop-base
invariant-loop-base l =
    first (λ i. eqb (get_or l.flight.lane i 0) l.x) 0 l.flying
    ≡ first (λ i. eqb (get_or l.flight.lane i 0) l.x) (min l.base l.flying) (l.flying - min l.base l.flying)

abbrev pub decreases-loop-base : goal.decreases-loop-base
decreases-loop-base l = l.flying - l.base
