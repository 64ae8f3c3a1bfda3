-- The ends passed are those that were tested. Assumes nothing.
use mathlib.Core.Path.{◌≡◌}
use Rattle.model.specs.Below.{any}
use Rattle.model.specs.Departure.{mark_at}
use Rattle.arrays.specs.View.{ends_seen}
use Rattle.turning.proofs.marked.marked.Given as goal

abbrev pub invariant-loop-x : goal.invariant-loop-x
invariant-loop-x l = l.some ≡ any (mark_at (ends_seen l.plan l.arrows) l.v) l.x
