-- By the way that the code stands for. Assumes nothing.
use native.Mathlib.Omega.{arith}
use Rattle.letters.proofs.Pending.{begin, say, room_all, last}
use Rattle.lines.proofs.CodeWords.{way_lane, way_in, way_lost, way_end, way_none}
use Rattle.lines.proofs.parts.way.Goals as goal

pub small-requires : goal.small-requires
small-requires c =
    (room_all (say (way_lane c.args.code c.if-code-lt-ENDS.true) (begin c.requires)), omega (arith, c.if-code-lt-ENDS.true))

pub returns-then-code-lt-ENDS : goal.returns-then-code-lt-ENDS
returns-then-code-lt-ENDS c = last (say (way_lane c.args.code c.if-code-lt-ENDS.true) (begin c.requires)) c.small.ensures

pub bytes-requires : goal.bytes-requires
bytes-requires c = (omega arith, room_all (say (way_in c.args.code c.if-code-eq-ENDS.true) (begin c.requires)))

pub returns-then-code-eq-ENDS : goal.returns-then-code-eq-ENDS
returns-then-code-eq-ENDS c = last (say (way_in c.args.code c.if-code-eq-ENDS.true) (begin c.requires)) c.bytes.ensures

pub bytes-requires-then-code : goal.bytes-requires-then-code
bytes-requires-then-code c = (omega arith, room_all (say (way_lost c.args.code c.if-code.true) (begin c.requires)))

pub returns-then-code : goal.returns-then-code
returns-then-code c = last (say (way_lost c.args.code c.if-code.true) (begin c.requires)) c.bytes-then-code.ensures

pub bytes-requires-then-code-2 : goal.bytes-requires-then-code-2
bytes-requires-then-code-2 c = (omega arith, room_all (say (way_end c.args.code c.if-code-2.true) (begin c.requires)))

pub returns-then-code-2 : goal.returns-then-code-2
returns-then-code-2 c = last (say (way_end c.args.code c.if-code-2.true) (begin c.requires)) c.bytes-then-code-2.ensures

pub bytes-requires-2 : goal.bytes-requires-2
bytes-requires-2 c =
    let none = way_none c.args.code c.if-code-lt-ENDS.false c.if-code-eq-ENDS.false c.if-code.false c.if-code-2.false in
    (omega arith, room_all (say none (begin c.requires)))

pub returns : goal.returns
returns c =
    let none = way_none c.args.code c.if-code-lt-ENDS.false c.if-code-eq-ENDS.false c.if-code.false c.if-code-2.false in
    last (say none (begin c.requires)) c.bytes-2.ensures
