-- Those that stay, and then the one that passes on. Assumes nothing.
use mathlib.Core.Path.{◌≡◌, sym, ap, ◌∙◌}
use Rattle.arrays.specs.Flight.{flying_in}
use Rattle.arrays.specs.Told.{left}
use Rattle.arrays.proofs.Leaving.{left_refused, flies_on}
use Rattle.listed.proofs.Listing.{flies_room}
use Rattle.listed.proofs.carry.Goals as goal
use Rattle.listed.proofs.carry.Goals.{Joined-answer-eq0, then-answer-eq0, else-answer-eq0}

stayed : (c : Joined-answer-eq0) → flying_in c.if-answer-eq0.flight c.if-answer-eq0.stay ≡ left c.args.kind c.args.argument c.args.answer (flying_in c.args.flight.now c.args.flying)
stayed c =
    let a = c.args in
    let flight = flying_in a.flight.now a.flying in
    elim c.if-answer-eq0.branch [
      | then-answer-eq0 w ↦
          rw (w.flight-is, w.stay-is) (w.drop_out-stay.ensures.0 ∙ ap (λ r. left a.kind a.argument r flight) (sym w.if-answer-eq0.true))
      | else-answer-eq0 w ↦
          rw (w.flight-is, w.stay-is) (left_refused a.kind a.argument flight a.answer w.if-answer-eq0.false)
    ]

pub pass_on-requires : goal.pass_on-requires
pass_on-requires c =
    let a = c.args in
    let p = c.requires in
    λ n x f g. (
      p.1 x g,
      flies_room a.kind a.argument a.arrows.now.local (flying_in a.flight.now a.flying) a.answer a.handled a.went c.if-answer-eq0.flight
          c.if-answer-eq0.stay (stayed (goal.at.pass_on-requires c).Joined-answer-eq0) p.2 n x f g,
    )

pub returns-clause-packets : goal.returns-clause-packets
returns-clause-packets c =
    let a = c.args in
    c.pass_on.ensures.packets
    ∙ flies_on a.kind a.argument a.arrows.now.local (flying_in a.flight.now a.flying) a.answer a.handled a.went _ (stayed (goal.at.returns-clause-packets c).Joined-answer-eq0)
