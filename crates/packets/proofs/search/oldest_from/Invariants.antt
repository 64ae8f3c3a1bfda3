-- The packets passed are on other lanes. Assumes nothing.
use Prim.Native.Nat.{◌-◌}
use mathlib.Core.Path.{◌≡◌}
use lib.Dec.{eqb}
use lib.ListN.{get_or}
use Rattle.model.specs.Below.{first}
use Rattle.packets.proofs.search.oldest_from.Given as goal

abbrev pub invariant-loop-i : goal.invariant-loop-i
invariant-loop-i l =
    first (λ k. eqb (get_or l.flight.lane k 0) l.x) l.from (l.flying - l.from)
    ≡ first (λ k. eqb (get_or l.flight.lane k 0) l.x) l.i (l.flying - l.i)
