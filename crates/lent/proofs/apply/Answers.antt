-- The check, what the packets tell, the step, the packets moved; and nothing where it refused. Assumes nothing.
use mathlib.Core.Path.{sym, ap, ◌∙◌}
use Rattle.model.specs.Outcome.{Outcome}
use Rattle.steps.proofs.Calls.{call_lane}
use Rattle.lent.proofs.InPlace.{flying, seen, many, few, sound, lanes_named, few_after, gone, not_formed, refused, accepted}
use Rattle.lent.proofs.apply.Goals as goal

pub returns-then-not-formed : goal.returns-then-not-formed
returns-then-not-formed c =
    let a = c.args in
    not_formed a.plan.now a.arrows.now a.flight.now a.tally a.kind a.argument c.bare.result c.bare.ensures (sym c.formed.ensures ∙ c.if-not-formed.true)

pub ask-asked-requires : goal.ask-asked-requires
ask-asked-requires c =
    let a = c.args in
    let sure = sym c.formed.ensures ∙ c.if-not-formed.false in
    (few a.plan.now a.arrows.now a.flight.now a.tally sure, lanes_named a.plan.now a.arrows.now a.flight.now a.tally sure)

pub step-r-requires-clause-sound : goal.step-r-requires-clause-sound
step-r-requires-clause-sound c = let a = c.args in sound a.plan.now a.arrows.now a.flight.now a.tally (sym c.formed.ensures ∙ c.if-not-formed.false)

pub step-r-requires-clause-gone : goal.step-r-requires-clause-gone
step-r-requires-clause-gone c = let a = c.args in gone a.plan.now a.arrows.now a.flight.now a.tally a.kind a.argument c.ask-asked.ensures.told

pub returns-then-answer-ne0 : goal.returns-then-answer-ne0
returns-then-answer-ne0 c =
    let a = c.args in
    let k = c.step-r.ensures.refused c.if-answer-ne0.true in
    refused a.plan.now a.arrows.now a.flight.now a.tally a.kind a.argument c.step-r.result c.step-r.new.arrows _
    (c.step-r.ensures.outcome (flying a.plan.now a.arrows.now a.flight.now a.tally) c.ask-asked.ensures.told (many a.plan.now a.arrows.now a.flight.now a.tally) (sym c.formed.ensures ∙ c.if-not-formed.false))
    c.if-answer-ne0.true k.1 k.0

pub carry-requires : goal.carry-requires
carry-requires c =
    let a = c.args in
    let sure = sym c.formed.ensures ∙ c.if-not-formed.false in
    let o = c.step-r.ensures.outcome (flying a.plan.now a.arrows.now a.flight.now a.tally) c.ask-asked.ensures.told (many a.plan.now a.arrows.now a.flight.now a.tally) sure in (
      few a.plan.now a.arrows.now a.flight.now a.tally sure,
      λ x e. call_lane (seen a.plan.now a.arrows.now a.flight.now a.tally) a.kind a.argument sure x (sym (ap (λ (z : Outcome). z.went) o) ∙ e),
      few_after a.plan.now a.arrows.now a.flight.now a.tally sure a.kind a.argument _ o,
      c.ask-asked.ensures,
    )

pub returns : goal.returns
returns c =
    let a = c.args in
    let all = many a.plan.now a.arrows.now a.flight.now a.tally in
    accepted a.plan.now a.arrows.now a.flight.now a.tally a.kind a.argument c.step-r.result c.step-r.new.arrows c.carry.new.flight c.carry.result _ c.carry.ensures.packets
    (c.step-r.ensures.flying (flying a.plan.now a.arrows.now a.flight.now a.tally) c.ask-asked.ensures.told all)
    (c.step-r.ensures.outcome (flying a.plan.now a.arrows.now a.flight.now a.tally) c.ask-asked.ensures.told all (sym c.formed.ensures ∙ c.if-not-formed.false))
    c.if-answer-ne0.false
