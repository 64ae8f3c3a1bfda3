-- The links passed do not lead out. Assumes nothing.
use Prim.Native.Nat.{◌-◌, ◌≤◌}
use mathlib.Core.Path.{◌≡◌}
use Rattle.model.specs.Below.{first}
use Rattle.model.specs.Departure.{out_link}
use Rattle.arrays.specs.View.{ends_seen}
use Rattle.ways.proofs.search.lowest.Given as goal

abbrev pub invariant-loop-l : goal.invariant-loop-l
invariant-loop-l l = (l.l ≤ l.plan.links)
    × (first (out_link (ends_seen l.plan l.arrows) l.v) 0 l.plan.links ≡ first (out_link (ends_seen l.plan l.arrows) l.v) l.l (l.plan.links - l.l))

abbrev pub decreases-loop-l : goal.decreases-loop-l
decreases-loop-l l = l.plan.links - l.l
