-- By its side. Assumes nothing.
use native.Mathlib.Omega.{arith}
use Rattle.model.specs.State.{opp}
use Rattle.arrays.proofs.number.other.Goals as goal

pub returns : goal.returns
unfolding opp
returns c = (omega arith, omega arith)
