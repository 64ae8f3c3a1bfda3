-- The space, then the digits. Assumes nothing.
use native.Mathlib.Omega.{arith}
use mathlib.Core.List.{[], ◌∷◌}
use Rattle.model.specs.Text.{ascii}
use Rattle.letters.proofs.Pending.{begin, room, step, room_all, last}
use Rattle.lines.proofs.field.Goals as goal

pub bytes-requires : goal.bytes-requires
unfolding ascii
bytes-requires c = (omega arith, room (32 ∷ []) _ (begin c.requires))

pub number-requires : goal.number-requires
unfolding ascii
number-requires c = room_all (step (32 ∷ []) _ (begin c.requires) c.bytes.ensures)

pub returns : goal.returns
unfolding ascii
returns c = last (step (32 ∷ []) _ (begin c.requires) c.bytes.ensures) c.number.ensures
