-- Some link of the blocks so far is down with a marked end, or none. Assumes nothing.
use Rattle.std.proofs.Common.{◌≡◌, ℕ, Bool, List, false, not, ◌&&◌, ◌||◌, ◌+◌, ◌*◌, min, get_or}
use Rattle.model.specs.Below.{any}
use Rattle.down.proofs.down_marked.Given as goal

abbrev pub bad_at : List Bool → List Bool → ℕ → Bool
bad_at live mark l = not (get_or live l false) && (get_or mark (2 * l) false || get_or mark (2 * l + 1) false)

abbrev pub invariant-loop-b : goal.invariant-loop-b
invariant-loop-b l = l.bad ≡ any (bad_at l.live l.mark) (min (l.b * 16) l.links)
