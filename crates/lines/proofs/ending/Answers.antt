-- The total's row, then the turns. Assumes nothing.
use Rattle.model.specs.Text.{ascii}
use Rattle.letters.proofs.Pending.{begin, say, room, step, room_all, last}
use Rattle.lines.proofs.LastLines.{ending_rows}
use Rattle.lines.proofs.ending.Goals as goal

pub row-page-requires : goal.row-page-requires
unfolding ascii
row-page-requires c =
    let rows = ending_rows c.args.n in
    room _ _ (say rows (begin c.requires.0))

pub turns-requires : goal.turns-requires
unfolding ascii
turns-requires c =
    let rows = ending_rows c.args.n in
    (room_all (step _ _ (say rows (begin c.requires.0)) c.row-page.ensures), c.requires.1)

pub returns : goal.returns
unfolding ascii
returns c =
    let rows = ending_rows c.args.n in
    last (step _ _ (say rows (begin c.requires.0)) c.row-page.ensures) c.turns.ensures
