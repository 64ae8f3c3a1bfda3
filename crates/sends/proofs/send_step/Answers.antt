-- One way through after the other. Assumes nothing.
use Prim.Native.Nat.{◌+◌, ◌*◌, ◌/◌}
use native.Mathlib.Omega.{arith}
use mathlib.Core.Path.{refl, sym, ap, ◌∙◌}
use mathlib.Core.Bool.{false}
use Rattle.model.specs.declared.Went.TheVariants as went
use Rattle.model.specs.State.{State}
use Rattle.model.specs.Departure.{has_live, has_out, door}
use Rattle.model.specs.Outcome.{gives, onward}
use Rattle.arrays.specs.View.{shown, ends_seen}
use Rattle.arrays.proofs.Below.{used_in}
use Rattle.departs.proofs.Ways.{has_way, way_within, no_way, onward_by, onward_turned, turn_finds}
use Rattle.departs.proofs.Tallies.{counted_is, done_stays, done_leaves, bare_stays}
use Rattle.sends.proofs.Sends.{out_live, send_no_such, send_arrives, send_strands, send_full, send_goes}
use Rattle.sends.proofs.send_step.Goals as goal

pub returns-then-plan-v-clause-outcome : goal.returns-then-plan-v-clause-outcome
returns-then-plan-v-clause-outcome c flight many formed =
    let a = c.args in
    bare_stays a.plan.now a.arrows.now flight c.bare.ensures
    ∙ send_no_such (shown a.plan.now a.arrows.now flight a.tally) a.v formed c.requires.room c.if-plan-v.true

pub returns-then-v-destination-clause-outcome : goal.returns-then-v-destination-clause-outcome
returns-then-v-destination-clause-outcome c flight many formed =
    let a = c.args in
    done_stays a.plan.now a.arrows.now flight c.done.ensures refl
    ∙ ap (λ (s : State). gives s a.tally.admitted went.Delivered) (counted_is a.plan.now a.arrows.now flight a.tally a.tally.flying 1 1 0 0 c.counted.ensures)
    ∙ send_arrives (shown a.plan.now a.arrows.now flight a.tally) a.v formed c.requires.room c.if-plan-v.false c.if-v-destination.true

pub returns-then-not-held-clause-outcome : goal.returns-then-not-held-clause-outcome
unfolding has_live
returns-then-not-held-clause-outcome c flight many formed =
    let a = c.args in
    done_stays a.plan.now a.arrows.now flight c.done-then-not-held.ensures refl
    ∙ ap (λ (s : State). gives s a.tally.admitted went.Stranded) (counted_is a.plan.now a.arrows.now flight a.tally a.tally.flying 1 0 0 1 c.counted-then-not-held.ensures)
    ∙ send_strands (shown a.plan.now a.arrows.now flight a.tally) a.v formed c.requires.room c.if-plan-v.false c.if-v-destination.false (sym c.held.ensures ∙ c.if-not-held.true)

pub returns-then-flying-ge-FLIGHT-clause-outcome : goal.returns-then-flying-ge-FLIGHT-clause-outcome
unfolding has_live
returns-then-flying-ge-FLIGHT-clause-outcome c flight many formed =
    let a = c.args in
    bare_stays a.plan.now a.arrows.now flight c.bare-then-flying-ge-FLIGHT.ensures
    ∙ send_full (shown a.plan.now a.arrows.now flight a.tally) a.v formed c.requires.room c.if-plan-v.false c.if-v-destination.false (sym c.held.ensures ∙ c.if-not-held.false) (omega (arith, many, c.if-flying-ge-FLIGHT.true))

pub turned_way-y-requires-clause-finds : goal.turned_way-y-requires-clause-finds
unfolding has_live has_out door
turned_way-y-requires-clause-finds c =
    let a = c.args in
    let p = a.plan.now in
    let r = a.arrows.now in
    turn_finds (ends_seen p r) a.v
    (λ x h m. used_in p.links false r.live (x / 2) (omega arith) ∙ c.requires.sound.marks x h (sym (used_in (2 * p.links) false r.mark x h) ∙ m))
    (sym c.held.ensures ∙ c.if-not-held.false) (no_way (ends_seen p r) a.v (sym c.in_default.is ∙ c.way.ensures))

pub returns-in_default-clause-outcome : goal.returns-in_default-clause-outcome
unfolding has_live has_out door
returns-in_default-clause-outcome c flight many formed =
    let a = c.args in
    let t = c.counted-in_default.result in
    let s = shown a.plan.now a.arrows.now flight t in
    done_leaves a.plan.now _ flight c.done-in_default.ensures c.turned_way-y.ensures.within
    ∙ c.turned_way-y.ensures.leaves flight t a.tally.admitted
    ∙ onward_turned s a.v a.tally.admitted (no_way s a.v (sym c.in_default.is ∙ c.way.ensures))
    ∙ ap (λ (s : State). onward s a.v a.tally.admitted) (counted_is a.plan.now a.arrows.now flight a.tally (a.tally.flying + 1) 1 0 0 0 c.counted-in_default.ensures)
    ∙ send_goes (shown a.plan.now a.arrows.now flight a.tally) a.v formed c.requires.room c.if-plan-v.false c.if-v-destination.false (sym c.held.ensures ∙ c.if-not-held.false) (omega (arith, many, c.if-flying-ge-FLIGHT.false))

pub returns-then-flying-ge-FLIGHT-2-clause-outcome : goal.returns-then-flying-ge-FLIGHT-2-clause-outcome
unfolding has_out door
returns-then-flying-ge-FLIGHT-2-clause-outcome c flight many formed =
    let a = c.args in
    let s = shown a.plan.now a.arrows.now flight a.tally in
    bare_stays a.plan.now a.arrows.now flight c.bare-then-flying-ge-FLIGHT-2.ensures
    ∙ send_full s a.v formed c.requires.room c.if-plan-v.false c.if-v-destination.false
    (out_live _ a.v (has_way s a.v _ (sym c.in-Some.is ∙ c.way.ensures)).0) (omega (arith, many, c.if-flying-ge-FLIGHT-2.true))

pub returns-clause-outcome : goal.returns-clause-outcome
unfolding has_out door
returns-clause-outcome c flight many formed =
    let a = c.args in
    let t = c.counted-2.result in
    let s = shown a.plan.now a.arrows.now flight a.tally in
    let w = sym c.in-Some.is ∙ c.way.ensures in
    done_leaves a.plan.now a.arrows.now flight c.done-2.ensures (way_within s a.v _ w)
    ∙ onward_by (shown a.plan.now a.arrows.now flight t) a.v _ a.tally.admitted w
    ∙ ap (λ (s : State). onward s a.v a.tally.admitted) (counted_is a.plan.now a.arrows.now flight a.tally (a.tally.flying + 1) 1 0 0 0 c.counted-2.ensures)
    ∙ send_goes s a.v formed c.requires.room c.if-plan-v.false c.if-v-destination.false
    (out_live _ a.v (has_way s a.v _ w).0) (omega (arith, many, c.if-flying-ge-FLIGHT-2.false))
