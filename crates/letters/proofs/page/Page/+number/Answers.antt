-- The digits but the last, then this one. Assumes nothing.
use native.Mathlib.Omega.{arith}
use Rattle.std.proofs.Common.{◌/◌, [], ◌∷◌, arith}
use Rattle.model.specs.Text.{digits}
use Rattle.model.proofs.Digits.{digits_more}
use Rattle.letters.specs.Digits.{last_digit}
use Rattle.letters.proofs.Pending.{begin, say, room, step, room_byte, last_byte}
use Rattle.letters.proofs.Decimals.{one_digit}
use Rattle.letters.proofs.page.Page.+number.Goals as goal

pub bytes-requires : goal.bytes-requires
bytes-requires t c = (omega arith, room_byte c.digit.ensures (say (one_digit c.args.n c.if-n-lt10.true) (begin c.requires)))

pub returns-then-n-lt10 : goal.returns-then-n-lt10
returns-then-n-lt10 t c = last_byte c.digit.ensures (say (one_digit c.args.n c.if-n-lt10.true) (begin c.requires)) c.bytes.ensures

pub number-requires : goal.number-requires
number-requires t c =
    (omega arith, room (digits (c.args.n / 10)) (last_digit c.args.n ∷ []) (say (digits_more c.args.n c.if-n-lt10.false) (begin c.requires)))

pub bytes-requires-2 : goal.bytes-requires-2
bytes-requires-2 t c =
    let n = c.args.n in
    let whole = say (digits_more n c.if-n-lt10.false) (begin c.requires) in
    (omega arith, room_byte c.digit-2.ensures (step (digits (n / 10)) (last_digit n ∷ []) whole c.number.ensures))

pub returns : goal.returns
returns t c =
    let n = c.args.n in
    let whole = say (digits_more n c.if-n-lt10.false) (begin c.requires) in
    last_byte c.digit-2.ensures (step (digits (n / 10)) (last_digit n ∷ []) whole c.number.ensures) c.bytes-2.ensures
