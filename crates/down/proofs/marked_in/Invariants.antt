-- Some link so far is down with a marked end, or none. Assumes nothing.
use Rattle.std.proofs.Common.{◌≡◌, false, not, ◌&&◌, ◌||◌, ◌+◌, ◌*◌, get_or}
use Rattle.model.specs.Below.{any}
use Rattle.down.proofs.marked_in.Given as goal

abbrev pub invariant-loop-l : goal.invariant-loop-l
invariant-loop-l l = l.bad ≡ any (λ k. not (get_or l.live k false) && (get_or l.mark (2 * k) false || get_or l.mark (2 * k + 1) false)) l.l
