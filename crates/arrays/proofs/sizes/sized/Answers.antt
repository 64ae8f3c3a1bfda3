-- The tests in the order of the definition. Assumes nothing.
use mathlib.Core.Path.{refl}
use Rattle.model.specs.Formed.{sized}
use Rattle.arrays.proofs.sizes.sized.Goals as goal

pub returns : goal.returns
unfolding sized
returns c = refl
