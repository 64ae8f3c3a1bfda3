-- Nothing for a send, the count on a link, or the first slot of the lane. Assumes nothing.
use native.Mathlib.Omega.{arith}
use mathlib.Core.Path.{ap}
use lib.ListN.{length}
use Rattle.queues.proofs.Oldest.{queued_none, no_such_lane, no_such_link}
use Rattle.queued.proofs.Queuing.{told_send, told_link, told_none, told_first}
use Rattle.queued.proofs.ask.Goals as goal

pub returns-then-kind-eq-SEND : goal.returns-then-kind-eq-SEND
returns-then-kind-eq-SEND c =
    let a = c.args in
    λ last after s. told_send a.queues.now a.kind a.argument c.if-kind-eq-SEND.true _ c.none.ensures

pub returns-then-argument-ge-LINKS : goal.returns-then-argument-ge-LINKS
returns-then-argument-ge-LINKS c =
    let a = c.args in
    let q = a.queues.now in
    λ last after s.
    told_link q a.kind a.argument c.if-kind-eq-FAIL.true 0
    (omega (arith, ap length (no_such_link q.number q.lane q.bit q.used a.argument s.named c.if-argument-ge-LINKS.true))) _
    c.none-then-argument-ge-LINKS.ensures

pub returns-then-kind-eq-FAIL : goal.returns-then-kind-eq-FAIL
returns-then-kind-eq-FAIL c =
    let a = c.args in
    λ last after s. told_link a.queues.now a.kind a.argument c.if-kind-eq-FAIL.true _ c.on_link.ensures _ c.none-then-kind-eq-FAIL.ensures

pub returns-then-argument-ge-ENDS : goal.returns-then-argument-ge-ENDS
returns-then-argument-ge-ENDS c =
    let a = c.args in
    let q = a.queues.now in
    λ last after s.
    told_none q a.kind a.argument c.if-kind-eq-SEND.false c.if-kind-eq-FAIL.false
    (no_such_lane q.number q.lane q.bit q.used a.argument s.named c.if-argument-ge-ENDS.true) _ c.none-then-argument-ge-ENDS.ensures

pub returns-then-i-ge-ROOM : goal.returns-then-i-ge-ROOM
returns-then-i-ge-ROOM c =
    let a = c.args in
    let q = a.queues.now in
    let l = c.if-argument-ge-ENDS.false in
    λ last after s.
    told_none q a.kind a.argument c.if-kind-eq-SEND.false c.if-kind-eq-FAIL.false
    (queued_none s q.number q.bit a.argument (omega (arith, l))
    (omega (arith, (s.begins a.argument (omega (arith, l))).most, c.from-i.ensures, c.if-i-ge-ROOM.true))) _ c.none-then-i-ge-ROOM.ensures

pub returns : goal.returns
returns c =
    let a = c.args in
    λ last after s.
    told_first a.queues.now a.kind a.argument c.if-kind-eq-SEND.false c.if-kind-eq-FAIL.false s _
    (omega (arith, c.if-argument-ge-ENDS.false)) c.from-i.ensures (omega (arith, c.if-i-ge-ROOM.false))
