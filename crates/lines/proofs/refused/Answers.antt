-- A row of two numbers. Assumes nothing.
use Rattle.model.specs.Text.{ascii}
use Rattle.letters.proofs.Pending.{begin, say, room_all, last}
use Rattle.lines.proofs.LastLines.{refused_row}
use Rattle.lines.proofs.refused.Goals as goal

pub row-requires : goal.row-requires
unfolding ascii
row-requires c = room_all (say (refused_row c.args.answer c.args.place) (begin c.requires))

pub returns : goal.returns
unfolding ascii
returns c = last (say (refused_row c.args.answer c.args.place) (begin c.requires)) c.row.ensures
