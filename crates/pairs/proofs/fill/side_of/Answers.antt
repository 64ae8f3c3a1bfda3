use Rattle.std.proofs.Common.{◌%◌, false, refl, eqb, arith}
use Rattle.model.specs.Limits.{ends_most}
use Rattle.pairs.proofs.Filling.{fill_none, fill_more}
use Rattle.pairs.proofs.fill.side_of.Goals as goal

pub loop-x-init : goal.loop-x-init
loop-x-init c = fill_none (λ y. eqb (y % 2) c.args.side) false ends_most

pub loop-x-preserved : goal.loop-x-preserved
loop-x-preserved c =
    let h = c.loop-x in
    fill_more (λ y. eqb (y % 2) c.args.side) false ends_most h.x h.on _ (omega arith) refl h.invariant
