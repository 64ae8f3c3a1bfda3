use Rattle.drillfile.proofs.Runs.{stored_none, has_room, stored_more, stored_all}
use Rattle.drillfile.proofs.writing.put_numbers.Goals as goal

pub loop-n-init : goal.loop-n-init
loop-n-init c = stored_none c.args.out.now c.args.at c.args.list.now

pub put_number-next-requires : goal.put_number-next-requires
put_number-next-requires c =
    let room = has_room c.args.out.now c.args.at c.args.list.now _ _ _ c.loop-n.invariant
    c.loop-n-test.true c.requires.0 in
    (c.requires.1 c.loop-n.n-index, room)

pub loop-n-preserved : goal.loop-n-preserved
loop-n-preserved c =
    stored_more c.args.out.now c.args.at c.args.list.now _ _ _ c.loop-n.invariant _ _
    c.loop-n-test.true c.put_number-next.ensures.0 c.put_number-next.ensures.1

pub shape_of-out : goal.shape_of-out
shape_of-out c = c.loop-n.invariant.size

pub returns : goal.returns
returns c = stored_all c.args.out.now c.args.at c.args.list.now _ _ _ c.loop-n.invariant c.loop-n-test.false
