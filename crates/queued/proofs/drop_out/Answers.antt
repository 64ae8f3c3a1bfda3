-- A send leaves all, a failure cuts its link's queues, a delivery or loss takes the first slot of its lane. Assumes nothing.
use native.Mathlib.Omega.{arith}
use mathlib.Core.Path.{refl, sym, ap, ◌∙◌}
use Rattle.queues.specs.declared.queue.Queues.{Queues}
use Rattle.queues.specs.Queue.{flown, relaned}
use Rattle.queues.proofs.Oldest.{no_such_link}
use Rattle.arrays.proofs.Leaving.{left_send, left_off, left_less, left_none}
use Rattle.queued.proofs.drop_out.Goals as goal

pub returns-then-kind-eq-SEND : goal.returns-then-kind-eq-SEND
returns-then-kind-eq-SEND c =
    let a = c.args in
    (c.requires.0, left_send a.kind a.argument (flown a.queues.now) c.if-kind-eq-SEND.true, refl, refl)

pub returns-then-argument-lt-LINKS : goal.returns-then-argument-lt-LINKS
returns-then-argument-lt-LINKS c =
    let a = c.args in
    let e = c.cut.ensures in (
      e.queued c.requires.0,
      e.packets ∙ left_off a.kind a.argument (flown a.queues.now) c.if-kind-eq-SEND.false c.if-kind-eq-FAIL.true,
      ap (λ (q : Queues). q.used) e.is,
      e.is ∙ sym (ap (λ (q : Queues). relaned a.queues.now q.lane q.first) e.is),
    )

pub returns-else-argument-lt-LINKS : goal.returns-else-argument-lt-LINKS
returns-else-argument-lt-LINKS c =
    let a = c.args in
    let q = a.queues.now in (
      c.requires.0,
      sym (no_such_link q.number q.lane q.bit q.used a.argument c.requires.0.named (omega (arith, c.if-argument-lt-LINKS.false)))
          ∙ left_off a.kind a.argument (flown q) c.if-kind-eq-SEND.false c.if-kind-eq-FAIL.true,
      refl,
      refl,
    )

pub take-requires : goal.take-requires
take-requires c = let h = c.requires.1.at _ c.in-Some.is in (h.2, h.0)

pub returns-in-Some : goal.returns-in-Some
returns-in-Some c =
    let a = c.args in
    let e = c.take.ensures in
    let h = e.queued c.requires.0 (sym (c.requires.1.at _ c.in-Some.is).1) in (
      h.0,
      h.1 ∙ left_less a.kind a.argument (flown a.queues.now) c.if-kind-eq-SEND.false c.if-kind-eq-FAIL.false,
      ap (λ (q : Queues). q.used) e.is,
      e.is ∙ sym (ap (λ (q : Queues). relaned a.queues.now q.lane q.first) e.is),
    )

pub returns-in-None : goal.returns-in-None
returns-in-None c =
    let a = c.args in (
      c.requires.0,
      left_none a.kind a.argument (flown a.queues.now) c.if-kind-eq-SEND.false c.if-kind-eq-FAIL.false a.asked.told c.requires.1.told c.in-None.is,
      refl,
      refl,
    )
