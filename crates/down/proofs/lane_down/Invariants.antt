-- Some packet of the blocks so far is on a link that is down, or none. Assumes nothing.
use Rattle.std.proofs.Common.{◌≡◌, ℕ, Bool, List, false, not, ◌*◌, ◌/◌, min, get_or}
use Rattle.model.specs.Below.{any}
use Rattle.down.proofs.lane_down.Given as goal

abbrev pub bad_at : List ℕ → List Bool → ℕ → Bool
bad_at lane live i = not (get_or live (get_or lane i 0 / 2) false)

abbrev pub invariant-loop-b : goal.invariant-loop-b
invariant-loop-b l = l.bad ≡ any (bad_at l.lane l.live) (min (l.b * 16) l.flying)
