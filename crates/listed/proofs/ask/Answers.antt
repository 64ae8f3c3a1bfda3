-- Nothing for a send, the count on a link, or the oldest packet that the search found. Assumes nothing.
use native.Mathlib.Omega.{arith}
use mathlib.Core.Path.{sym, ◌∙◌}
use Rattle.packets.specs.Moves.{oldest_at}
use Rattle.packets.proofs.Counts.{counted_part}
use Rattle.packets.proofs.Uses.{used_some, used_none}
use Rattle.listed.proofs.Listing.{listed_send, listed_link, listed_past, listed_none, listed_oldest}
use Rattle.listed.proofs.ask.Goals as goal

pub returns-then-kind-eq-SEND : goal.returns-then-kind-eq-SEND
returns-then-kind-eq-SEND c =
    let a = c.args in
    listed_send a.flight.now a.flying a.kind a.argument _ c.none.ensures c.if-kind-eq-SEND.true

pub returns-then-kind-eq-FAIL : goal.returns-then-kind-eq-FAIL
returns-then-kind-eq-FAIL c =
    let a = c.args in
    let f = a.flight.now in
    listed_link f a.flying a.kind a.argument _ _ c.none-then-kind-eq-FAIL.ensures c.if-kind-eq-FAIL.true
    (counted_part f.number f.lane f.bit a.flying a.argument c.on_link.result (omega arith) (c.on_link.ensures f.number f.bit))

pub returns-then-argument-ge-ENDS : goal.returns-then-argument-ge-ENDS
returns-then-argument-ge-ENDS c =
    let a = c.args in
    listed_past a.flight.now a.flying a.kind a.argument c.if-kind-eq-SEND.false c.if-kind-eq-FAIL.false _
    c.none-then-argument-ge-ENDS.ensures c.requires.1 (omega (arith, c.if-argument-ge-ENDS.true))

pub returns-in-Some : goal.returns-in-Some
returns-in-Some c =
    let a = c.args in
    let f = a.flight.now in
    let at = used_some a.flying (oldest_at f.lane a.flying a.argument) (sym c.in-Some.is ∙ c.oldest.ensures) in
    listed_oldest f a.flying a.kind a.argument c.if-kind-eq-SEND.false c.if-kind-eq-FAIL.false _ at.0
    (omega (arith, c.if-argument-ge-ENDS.false)) at.1

pub returns-in-None : goal.returns-in-None
returns-in-None c =
    let a = c.args in
    let f = a.flight.now in
    listed_none f a.flying a.kind a.argument c.if-kind-eq-SEND.false c.if-kind-eq-FAIL.false _ c.none-in-None.ensures
    (used_none a.flying (oldest_at f.lane a.flying a.argument) (sym c.in-None.is ∙ c.oldest.ensures))
