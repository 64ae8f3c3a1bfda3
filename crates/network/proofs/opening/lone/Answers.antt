-- The fields as they stand. Assumes nothing.
use mathlib.Core.Path.{refl}
use Rattle.network.specs.Opening.{lone_network}
use Rattle.network.proofs.opening.lone.Goals as goal

pub returns : goal.returns
unfolding lone_network
returns c = refl
