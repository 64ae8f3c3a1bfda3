-- One digit, or any number. Assumes nothing.
use native.Mathlib.Omega.{arith}
use Rattle.letters.proofs.Pending.{begin, say, room_all, last}
use Rattle.lines.proofs.CodeWords.{answer_one}
use Rattle.lines.proofs.parts.answer.Goals as goal

pub bytes-requires : goal.bytes-requires
bytes-requires c =
    (omega arith, room_all (say (answer_one c.args.n c.if-n-lt10.true c.digit.ensures) (begin c.requires)))

pub returns-then-n-lt10 : goal.returns-then-n-lt10
returns-then-n-lt10 c =
    last (say (answer_one c.args.n c.if-n-lt10.true c.digit.ensures) (begin c.requires))
    c.bytes.ensures
