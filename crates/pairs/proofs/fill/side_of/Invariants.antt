-- The ends so far on this side of their links. Assumes nothing.
use Rattle.std.proofs.Common.{◌≡◌, ◌%◌, false, eqb}
use Rattle.model.specs.Limits.{ends_most}
use Rattle.model.specs.Below.{tab}
use Rattle.pairs.proofs.Filling.{up_to}
use Rattle.pairs.proofs.fill.side_of.Given as goal

abbrev pub invariant-loop-x : goal.invariant-loop-x
invariant-loop-x l = l.on ≡ tab (up_to (λ y. eqb (y % 2) l.side) false l.x) ends_most
