-- A row of two numbers, then the last lines. Assumes nothing.
use mathlib.Core.Path.{ap}
use mathlib.Core.List.{◌++◌}
use Rattle.model.specs.Text.{ascii}
use Rattle.network.specs.View.{view}
use Rattle.lines.specs.Lines.{ending_of}
use Rattle.letters.proofs.Pending.{begin, say, room, step, room_all, last}
use Rattle.lines.proofs.LastLines.{spoilt_row}
use Rattle.lines.proofs.spoilt.Goals as goal

pub row-page-requires : goal.row-page-requires
unfolding ascii
row-page-requires c =
    let rows = ap (λ l. l ++ ending_of (view c.args.n)) (spoilt_row c.args.place) in
    room _ _ (say rows (begin c.requires.0))

pub ending-requires : goal.ending-requires
unfolding ascii
ending-requires c =
    let rows = ap (λ l. l ++ ending_of (view c.args.n)) (spoilt_row c.args.place) in
    (room_all (step _ _ (say rows (begin c.requires.0)) c.row-page.ensures), c.requires.1)

pub returns : goal.returns
unfolding ascii
returns c =
    let rows = ap (λ l. l ++ ending_of (view c.args.n)) (spoilt_row c.args.place) in
    last (step _ _ (say rows (begin c.requires.0)) c.row-page.ensures) c.ending.ensures
