-- The two halves. Assumes nothing.
use mathlib.Core.Path.{◌∙◌}
use Rattle.letters.proofs.DigitRows.{row_made}
use Rattle.letters.proofs.table.row.Goals as goal

pub returns : goal.returns
returns c =
    row_made c.args.rows.now _ _ c.args.n c.requires.0 c.requires.1 (c.copy_from_slice.ensures.after ∙ c.front.ensures)
    (c.copy_from_slice-2.ensures.after ∙ c.back.ensures)
