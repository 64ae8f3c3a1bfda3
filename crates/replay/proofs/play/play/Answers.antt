-- The burst, then its lines. Assumes nothing.
use native.Mathlib.Omega.{arith}
use Rattle.letters.specs.Digits.{joined}
use Rattle.letters.proofs.Pending.{begin, say, room_all, last}
use Rattle.replay.proofs.Played.{played_state, played_lines}
use Rattle.replay.proofs.play.play.Goals as goal

pub lines-page-requires : goal.lines-page-requires
lines-page-requires c =
    let pre = c.requires in
    let lines = played_lines c.burst-burst.ensures (omega (arith, pre.few)) pre.same (omega arith, omega arith, omega arith) pre.formed (joined c.args.thousands c.args.rest) in
    (room_all (say lines (begin pre.room)), pre.early, pre.few)

pub returns : goal.returns
returns c =
    let pre = c.requires in
    let lines = played_lines c.burst-burst.ensures (omega (arith, pre.few)) pre.same (omega arith, omega arith, omega arith) pre.formed (joined c.args.thousands c.args.rest) in
    record {
      state = played_state c.burst-burst.ensures (omega (arith, pre.few)) pre.same (omega arith, omega arith, omega arith);
      written = last (say lines (begin pre.room)) c.lines-page.ensures;
    }
