use native.Mathlib.Omega.{arith}
use Rattle.std.proofs.lemmas.List.{get_or-take}
use Rattle.model.specs.Text.{ascii}
use Rattle.letters.proofs.Pending.{begin, room_all, last}
use Rattle.lines.proofs.LineParts.{room_row, step_row, room_number, step_number, room_over, last_over}
use Rattle.lines.proofs.turns.Goals as goal

pub word-page-requires : goal.word-page-requires
unfolding ascii
word-page-requires c = room_row (ascii "turns") c.args.turns.now c.args.nodes (begin c.requires.0)

pub loop-n-init : goal.loop-n-init
unfolding ascii
loop-n-init c = begin (room_all (step_row (ascii "turns") c.args.turns.now c.args.nodes (begin c.requires.0) c.word-page.ensures))

pub field-page-requires : goal.field-page-requires
field-page-requires c = room_number _ _ _ c.loop-n.invariant (omega arith) (get_or-take c.args.nodes c.args.turns.now c.loop-n.n-index 0 (omega arith))

pub loop-n-preserved : goal.loop-n-preserved
loop-n-preserved c = step_number _ _ _ c.loop-n.invariant (omega arith) (get_or-take c.args.nodes c.args.turns.now c.loop-n.n-index 0 (omega arith)) c.field-page.ensures

pub bytes-requires : goal.bytes-requires
bytes-requires c = (omega arith, room_over _ _ _ c.loop-n.invariant (omega arith))

pub returns : goal.returns
unfolding ascii
returns c =
    last (step_row (ascii "turns") c.args.turns.now c.args.nodes (begin c.requires.0) c.word-page.ensures)
    (last_over _ _ _ c.loop-n.invariant (omega arith) c.bytes.ensures)
