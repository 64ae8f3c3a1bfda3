-- The sum and the remainder are those of the definition. Assumes nothing.
use native.Mathlib.Omega.{arith}
use Rattle.sums.specs.Draws.{start_of}
use Rattle.sums.proofs.generator.Draws.start.Goals as goal

pub returns : goal.returns
unfolding start_of
returns c = omega arith
