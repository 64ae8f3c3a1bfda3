-- By how many digits the number has. Assumes nothing.
use native.Mathlib.Omega.{arith}
use Rattle.letters.proofs.Pending.{begin, say, room_all, last}
use Rattle.letters.proofs.DigitRows.{small_one, small_two, small_three}
use Rattle.letters.proofs.page.Page.small.Goals as goal

pub bytes-requires : goal.bytes-requires
bytes-requires c =
    (omega arith, room_all (say (small_one c.args.n c.args.after c.if-n-lt10.true c.digit.ensures) (begin c.requires.0)))

pub returns-then-n-lt10 : goal.returns-then-n-lt10
returns-then-n-lt10 c =
    last (say (small_one c.args.n c.args.after c.if-n-lt10.true c.digit.ensures) (begin c.requires.0)) c.bytes.ensures

pub bytes-requires-then-n-lt100 : goal.bytes-requires-then-n-lt100
bytes-requires-then-n-lt100 c =
    let digits = small_two c.args.table.now.right c.args.n c.requires.1 c.args.after c.if-n-lt10.false c.if-n-lt100.true in
    (omega arith, room_all (say digits (begin c.requires.0)))

pub returns-then-n-lt100 : goal.returns-then-n-lt100
returns-then-n-lt100 c =
    let digits = small_two c.args.table.now.right c.args.n c.requires.1 c.args.after c.if-n-lt10.false c.if-n-lt100.true in
    last (say digits (begin c.requires.0)) c.bytes-then-n-lt100.ensures

pub bytes-requires-2 : goal.bytes-requires-2
bytes-requires-2 c =
    let digits = small_three c.args.table.now.right c.args.n c.requires.1 c.args.after c.if-n-lt100.false in
    (omega arith, room_all (say digits (begin c.requires.0)))

pub returns : goal.returns
returns c =
    let digits = small_three c.args.table.now.right c.args.n c.requires.1 c.args.after c.if-n-lt100.false in
    last (say digits (begin c.requires.0)) c.bytes-2.ensures
