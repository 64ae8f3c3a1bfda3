use Rattle.pairs.proofs.ClosedWalks.{round_none, round_more, round_end}
use Rattle.pairs.proofs.walks.closed_walk.Goals as goal

pub loop-init : goal.loop-init
loop-init c = round_none c.args.nodes c.args.list.now c.requires.0

pub loop-preserved : goal.loop-preserved
loop-preserved c =
    let h = c.loop in
    round_more c.args.nodes c.args.list.now c.requires.0 c.requires.1 h.counter h.sets _ h.invariant c.longer-sets.ensures

pub returns : goal.returns
returns c =
    let h = c.loop in
    let a = c.args in
    round_end a.nodes a.list.now c.requires.0 h.counter h.sets _ h.invariant h.auto.counter-end c.loop-test.false c.some_sets.ensures
