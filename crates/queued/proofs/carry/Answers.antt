-- The event's packets go where it is accepted, and the packet that it handled comes. Assumes nothing.
use native.Mathlib.Omega.{arith}
use mathlib.Core.Path.{◌≡◌, refl, ◌∙◌}
use Rattle.arrays.specs.Told.{left}
use Rattle.queues.specs.Queue.{flown, Queued}
use Rattle.arrays.proofs.Leaving.{left_refused, flies_on}
use Rattle.queued.proofs.carry.Goals as goal
use Rattle.queued.proofs.carry.Goals.{Joined-answer-eq0, then-answer-eq0, else-answer-eq0}

-- what stays
stays : (c : Joined-answer-eq0) → let a = c.args in
    Queued c.if-answer-eq0.queues
    × (flown c.if-answer-eq0.queues ≡ left a.kind a.argument a.answer (flown a.queues.now))
    × (c.if-answer-eq0.queues.used ≡ a.queues.now.used)
stays c =
    let a = c.args in
    let p = c.requires in
    elim c.if-answer-eq0.branch [
      | then-answer-eq0 w ↦ let e = w.drop_out.ensures in rw (w.queues-is, w.if-answer-eq0.true) (e.0, e.1, e.2)
      | else-answer-eq0 w ↦ rw w.queues-is (p.2, left_refused a.kind a.argument (flown a.queues.now) a.answer w.if-answer-eq0.false, refl)
    ]

pub drop_out-requires : goal.drop_out-requires
drop_out-requires c = (c.requires.2, c.requires.3)

pub pass_on-requires : goal.pass_on-requires
pass_on-requires c =
    let p = c.requires in
    let s = stays (goal.at.pass_on-requires c).Joined-answer-eq0 in
    (omega (arith, p.0, s.2), p.1, s.0)

pub returns : goal.returns
returns c =
    let a = c.args in
    let s = stays (goal.at.returns c).Joined-answer-eq0 in
    let e = c.pass_on.ensures in
    record {
      packets = e.packets ∙ flies_on a.kind a.argument a.arrows.now.local (flown a.queues.now) a.answer a.handled a.went _ s.1;
      queued = e.queued;
      long = e.long;
    }
