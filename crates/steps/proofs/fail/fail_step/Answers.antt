-- The refusals, then the cut. Assumes nothing.
use Prim.Native.Nat.{◌-◌}
use native.Mathlib.Omega.{arith}
use mathlib.Core.Path.{refl, ap, ◌∙◌}
use mathlib.Core.Bool.{false}
use Rattle.model.specs.declared.Went.TheVariants as went
use Rattle.model.specs.declared.Handled.TheVariants as handled
use Rattle.model.specs.State.{State}
use Rattle.model.specs.Outcome.{counted}
use Rattle.model.specs.Fail.{off}
use Rattle.model.proofs.Lanes.{off_length}
use Rattle.arrays.specs.declared.record.Tally.{Tally}
use Rattle.arrays.specs.View.{shown}
use Rattle.arrays.proofs.Below.{used_in}
use Rattle.departs.proofs.Tallies.{counted_is}
use Rattle.steps.proofs.Cuts.{fail_no_such, fail_down, fail_cuts, cut_arrows, cut_is, bare_keeps, bare_cuts, bare_long}
use Rattle.steps.proofs.fail.fail_step.Goals as goal

pub returns-then-plan-l-clause-outcome : goal.returns-then-plan-l-clause-outcome
returns-then-plan-l-clause-outcome c flight gone formed =
    let a = c.args in
    bare_keeps a.plan.now a.arrows.now flight a.l c.bare.ensures refl
    ∙ fail_no_such (shown a.plan.now a.arrows.now flight a.tally) a.l formed c.requires.fair.events c.if-plan-l.true

pub returns-then-not-arrows-l-clause-outcome : goal.returns-then-not-arrows-l-clause-outcome
returns-then-not-arrows-l-clause-outcome c flight gone formed =
    let a = c.args in
    bare_keeps a.plan.now a.arrows.now flight a.l c.bare-then-not-arrows-l.ensures refl
    ∙ fail_down (shown a.plan.now a.arrows.now flight a.tally) a.l formed c.requires.fair.events c.if-plan-l.false
    (used_in a.plan.now.links false a.arrows.now.live a.l c.if-plan-l.false ∙ c.if-not-arrows-l.true)

pub returns-clause-outcome : goal.returns-clause-outcome
returns-clause-outcome c flight gone formed =
    let a = c.args in
    let p = a.plan.now in
    let r = a.arrows.now in
    let cut = cut_arrows p r flight a.tally a.l c.if-plan-l.false c.requires.links_fit (omega arith) (omega arith) in
    bare_cuts p cut flight a.l c.bare-2.ensures
    ∙ ap (λ (s : State). record { state = s; answer = 0; handled = handled.Nothing; went = went.Nowhere })
    (counted_is p cut (off a.l flight) a.tally (a.tally.flying - a.gone) 0 0 a.gone 0 c.counted.ensures
    ∙ ap (λ (s : State). counted s 0 0 a.gone 0) (cut_is p r flight a.tally a.l c.if-plan-l.false c.requires.links_fit (omega arith) (omega arith)))
    ∙ fail_cuts (shown p r flight a.tally) a.l formed c.requires.fair.events c.if-plan-l.false (used_in p.links false r.live a.l c.if-plan-l.false ∙ c.if-not-arrows-l.false) a.gone gone

pub returns-clause-flying : goal.returns-clause-flying
returns-clause-flying c flight gone many =
    let a = c.args in
    bare_long a.arrows.now.local flight a.l c.bare-2.ensures (omega (arith, gone, many, off_length a.l flight, ap (λ (t : Tally). t.flying) c.counted.ensures))
