use native.Mathlib.Omega.{arith}
use mathlib.Core.Path.{◌∙◌}
use borrow.Author.Tests.{eq-eqb, ne_eqb}
use Rattle.arrays.proofs.Searches.{first_yes, first_no, first_end}
use Rattle.packets.proofs.Uses.{used_here, used_past}
use Rattle.packets.proofs.search.oldest_from.Goals as goal

pub loop-i-preserved : goal.loop-i-preserved
loop-i-preserved c =
    let h = c.loop-i in
    h.invariant ∙ first_no _ h.i _ (omega arith) (ne_eqb _ _ c.if-flight-i.false)

pub returns-then-flight-i : goal.returns-then-flight-i
returns-then-flight-i c =
    let h = c.loop-i in
    used_here c.args.flying (h.invariant ∙ first_yes _ h.i _ (omega arith) (eq-eqb _ _ c.if-flight-i.true)) (omega arith)

pub returns : goal.returns
returns c =
    let h = c.loop-i in
    used_past c.args.flying (omega (arith, h.invariant ∙ first_end _ h.i c.args.flying (omega arith) (omega arith)))
