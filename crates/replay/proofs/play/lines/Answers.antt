use native.Mathlib.Omega.{arith}
use Rattle.letters.specs.Digits.{joined}
use Rattle.letters.proofs.Pending.{begin, say, finish}
use Rattle.replay.proofs.ChunkLines.{lines_none, lines_all, room_line, step_line}
use Rattle.replay.proofs.play.lines.Goals as goal

pub loop-i-init : goal.loop-i-init
loop-i-init c =
    let a = c.args in
    say (lines_all a.answers.now a.packets.now a.ways.now (joined a.thousands a.rest) a.count) (begin c.requires.0)

pub event-page-requires : goal.event-page-requires
event-page-requires c =
    let a = c.args in
    let k = c.loop-i.i in
    let more = c.loop-i-test.true in (
      room_line a.answers.now a.packets.now a.ways.now a.thousands a.rest k a.count more c.loop-i.invariant,
      c.requires.1,
      omega (arith, c.requires.2, more),
    )

pub loop-i-preserved : goal.loop-i-preserved
loop-i-preserved c =
    let a = c.args in
    let k = c.loop-i.i in
    let more = c.loop-i-test.true in
    step_line a.answers.now a.packets.now a.ways.now a.thousands a.rest k a.count more c.loop-i.invariant c.event-page.ensures

pub returns : goal.returns
returns c =
    let a = c.args in
    finish (lines_none a.answers.now a.packets.now a.ways.now (joined a.thousands a.rest) c.loop-i.i a.count c.loop-i-test.false) c.loop-i.invariant
