-- The destination, back, or onward. Assumes nothing.
use Prim.Native.Nat.{◌+◌, ◌*◌}
use mathlib.Core.Path.{refl, sym, ap, ◌∙◌}
use mathlib.Core.Bool.{false}
use Rattle.model.specs.declared.Went.TheVariants as went
use Rattle.model.specs.Outcome.{gives, leaves, onward}
use Rattle.arrays.specs.View.{shown}
use Rattle.arrays.proofs.Below.{used_in}
use Rattle.departs.proofs.Tallies.{counted_is, done_stays, done_leaves}
use Rattle.arrivals.proofs.Deliveries.{lands_home, lands_back, lands_on}
use Rattle.arrivals.proofs.deliver.land.Goals as goal

pub returns-then-v-destination-clause-outcome : goal.returns-then-v-destination-clause-outcome
returns-then-v-destination-clause-outcome c flight =
    let a = c.args in
    let p = a.plan.now in
    done_stays p a.arrows.now flight c.done.ensures refl
    ∙ ap (λ s. gives s a.n went.Delivered) (counted_is p a.arrows.now flight a.tally a.tally.flying 0 1 0 0 c.counted.ensures)
    ∙ lands_home (shown p a.arrows.now flight a.tally) a.y a.n (used_in (2 * p.links) 0 p.node a.y c.requires.inside ∙ sym c.from-v.ensures) c.if-v-destination.true

pub returns-then-arrows-y-clause-outcome : goal.returns-then-arrows-y-clause-outcome
returns-then-arrows-y-clause-outcome c flight =
    let a = c.args in
    let p = a.plan.now in
    done_leaves p a.arrows.now flight c.done-then-arrows-y.ensures c.requires.inside
    ∙ ap (λ s. leaves s a.y a.n) (counted_is p a.arrows.now flight a.tally (a.tally.flying + 1) 0 0 0 0 c.counted-t.ensures)
    ∙ lands_back (shown p a.arrows.now flight a.tally) a.y a.n (used_in (2 * p.links) 0 p.node a.y c.requires.inside ∙ sym c.from-v.ensures) c.if-v-destination.false
    (used_in (2 * p.links) false a.arrows.now.out a.y c.requires.inside ∙ c.if-arrows-y.true)

pub returns-clause-outcome : goal.returns-clause-outcome
returns-clause-outcome c flight =
    let a = c.args in
    let p = a.plan.now in
    done_leaves p _ flight c.done-2.ensures c.onward-x.ensures.within
    ∙ c.onward-x.ensures.leaves flight c.counted-t.result a.n
    ∙ ap (λ s. onward s c.from-v.result a.n) (counted_is p a.arrows.now flight a.tally (a.tally.flying + 1) 0 0 0 0 c.counted-t.ensures)
    ∙ lands_on (shown p a.arrows.now flight a.tally) a.y a.n (used_in (2 * p.links) 0 p.node a.y c.requires.inside ∙ sym c.from-v.ensures) c.if-v-destination.false
    (used_in (2 * p.links) false a.arrows.now.out a.y c.requires.inside ∙ c.if-arrows-y.false)
