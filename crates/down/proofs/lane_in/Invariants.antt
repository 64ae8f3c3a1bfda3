-- The flags so far are all set, or some is not. Assumes nothing.
use Rattle.std.proofs.Common.{◌≡◌, false, not, cond, ◌/◌, get_or}
use Rattle.model.specs.Below.{any}
use Rattle.down.proofs.lane_in.Given as goal

abbrev pub invariant-loop-a : goal.invariant-loop-a
invariant-loop-a l = l.up ≡ cond (any (λ k. not (get_or l.live (get_or l.lane k 0 / 2) false)) l.a-index) 0 1
