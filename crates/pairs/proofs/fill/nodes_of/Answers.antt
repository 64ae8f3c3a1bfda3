use Rattle.std.proofs.Common.{refl, arith}
use Rattle.model.specs.Limits.{ends_most}
use Rattle.model.specs.Opening.{node_in}
use Rattle.pairs.proofs.Filling.{fill_none, fill_more}
use Rattle.pairs.proofs.fill.nodes_of.Goals as goal

pub loop-x-init : goal.loop-x-init
loop-x-init c = fill_none (node_in c.args.list.now) 0 ends_most

pub loop-x-preserved : goal.loop-x-preserved
loop-x-preserved c =
    let h = c.loop-x in
    let list = c.args.list.now in
    fill_more (node_in list) 0 ends_most h.x h.node (node_in list h.x) (omega arith) refl h.invariant
