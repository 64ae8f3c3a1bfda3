use native.Mathlib.Omega.{arith}
use mathlib.Core.Path.{refl}
use lib.ListN.{length}
use Rattle.letters.proofs.Pending.{begin, room_all, last}
use Rattle.lines.proofs.LineParts.{room_row, step_row, room_number, step_number, room_over, last_over}
use Rattle.lines.proofs.row.Goals as goal

pub word-page-requires : goal.word-page-requires
word-page-requires c =
    let list = c.args.list.now in
    room_row c.args.w.now list (length list) (begin c.requires)

pub loop-n-init : goal.loop-n-init
loop-n-init c =
    let list = c.args.list.now in
    begin (room_all (step_row c.args.w.now list (length list) (begin c.requires) c.word-page.ensures))

pub field-page-requires : goal.field-page-requires
field-page-requires c = room_number _ _ _ c.loop-n.invariant (omega arith) refl

pub loop-n-preserved : goal.loop-n-preserved
loop-n-preserved c = step_number _ _ _ c.loop-n.invariant (omega arith) refl c.field-page.ensures

pub bytes-requires : goal.bytes-requires
bytes-requires c = (omega arith, room_over _ _ _ c.loop-n.invariant (omega arith))

pub returns : goal.returns
returns c =
    let list = c.args.list.now in
    last (step_row c.args.w.now list (length list) (begin c.requires) c.word-page.ensures)
    (last_over _ _ _ c.loop-n.invariant (omega arith) c.bytes.ensures)
