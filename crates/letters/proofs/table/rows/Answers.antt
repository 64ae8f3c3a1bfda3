use mathlib.Core.Path.{refl, ap, ◌∙◌}
use lib.ListN.{length}
use lib.Seq.{length-sets}
use native.Mathlib.Omega.{arith}
use Rattle.letters.specs.Digits.{rows_below}
use Rattle.letters.proofs.DigitRows.{rows_more, rows_all}
use Rattle.letters.proofs.table.rows.Goals as goal

pub loop-n-init : goal.loop-n-init
unfolding rows_below
loop-n-init c = (refl, refl)

pub row-requires : goal.row-requires
row-requires c =
    let inv = c.loop-n.invariant in
    (omega arith, ap length inv.1 ∙ length-sets _ 0 (rows_below _) ∙ inv.0)

pub loop-n-preserved : goal.loop-n-preserved
loop-n-preserved c =
    let inv = c.loop-n.invariant in
    (inv.0, rows_more _ _ _ _ (omega arith) inv.1 c.row.ensures)

pub returns : goal.returns
returns c =
    let loop = c.loop-n in
    rows_all _ _ _ loop.invariant.0 (omega arith) loop.invariant.1
