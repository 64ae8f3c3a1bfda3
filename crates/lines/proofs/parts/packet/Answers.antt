-- By whether there is a packet. Assumes nothing.
use native.Mathlib.Omega.{arith}
use Rattle.letters.proofs.Pending.{begin, say, room_all, last}
use Rattle.lines.proofs.CodeWords.{packet_joined, packet_none, packet_some}
use Rattle.lines.proofs.parts.packet.Goals as goal

pub million-requires : goal.million-requires
million-requires c = (
  room_all (say (packet_joined c.args.code c.if-code-lt-EVENTS.true) (begin c.requires)),
  omega (arith, c.if-code-lt-EVENTS.true),
  omega arith,
)

pub returns-then-code-lt-EVENTS : goal.returns-then-code-lt-EVENTS
returns-then-code-lt-EVENTS c =
    last (say (packet_joined c.args.code c.if-code-lt-EVENTS.true) (begin c.requires)) c.million.ensures

pub bytes-requires : goal.bytes-requires
bytes-requires c = (omega arith, room_all (say (packet_none c.args.code c.if-code-eq-EVENTS.true) (begin c.requires)))

pub returns-then-code-eq-EVENTS : goal.returns-then-code-eq-EVENTS
returns-then-code-eq-EVENTS c = last (say (packet_none c.args.code c.if-code-eq-EVENTS.true) (begin c.requires)) c.bytes.ensures

pub any-requires : goal.any-requires
any-requires c = room_all (say (packet_some c.args.code c.if-code-eq-EVENTS.false) (begin c.requires))

pub returns : goal.returns
returns c = last (say (packet_some c.args.code c.if-code-eq-EVENTS.false) (begin c.requires)) c.any.ensures
