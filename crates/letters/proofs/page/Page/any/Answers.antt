-- The digits, then the space. Assumes nothing.
use native.Mathlib.Omega.{arith}
use Rattle.model.specs.Text.{ascii}
use Rattle.letters.proofs.Pending.{begin, room, step, room_all, last}
use Rattle.letters.proofs.page.Page.any.Goals as goal

pub number-requires : goal.number-requires
number-requires c = room _ _ (begin c.requires)

pub bytes-requires : goal.bytes-requires
unfolding ascii
bytes-requires c = (omega arith, room_all (step _ _ (begin c.requires) c.number.ensures))

pub returns : goal.returns
unfolding ascii
returns c = last (step _ _ (begin c.requires) c.number.ensures) c.bytes.ensures
