-- The refusals, then the loss. Assumes nothing.
use Prim.Native.Nat.{ℕ, ◌-◌}
use native.Mathlib.Omega.{arith}
use mathlib.Core.Path.{sym, ap, ◌∙◌}
use Rattle.model.specs.declared.Went.TheVariants as went
use Rattle.model.specs.State.{State}
use Rattle.model.specs.Outcome.{counted, gives}
use Rattle.model.specs.Lanes.{on_lane, less, taken}
use Rattle.model.specs.Lose.{lose_on}
use Rattle.arrays.specs.View.{shown}
use Rattle.arrays.specs.declared.record.Tally.{Tally}
use Rattle.departs.proofs.Tallies.{counted_is}
use Rattle.arrivals.proofs.OffLanes.{is_there, told_first, off_refused, off_found, first_same, refused_not_done, took_is, bare_keeps, done_takes, bare_long, lost_long}
use Rattle.arrivals.proofs.lose.lose_step.Goals as goal

pub overflow_sub-tally : goal.overflow_sub-tally
overflow_sub-tally c =
    let a = c.args in
    omega (arith, c.requires.flying _ (is_there a.plan.now a.arrows.now a.x a.told (sym c.first_on.ensures ∙ c.in-Ok.is)).one)

pub returns-in-Ok-clause-outcome : goal.returns-in-Ok-clause-outcome
unfolding lose_on
returns-in-Ok-clause-outcome c p r flight g h e formed =
    let a = c.args in
    let t = is_there p r a.x a.told (first_same p a.plan.now r a.arrows.now a.x a.told g h ∙ sym c.first_on.ensures ∙ c.in-Ok.is) in
    let o = told_first (on_lane a.x flight) e t.one in
    done_takes p r flight a.x c.done.ensures
    ∙ ap (λ s. gives s c.in-Ok.oldest.number went.Lost) (counted_is p r (less a.x flight) a.tally (a.tally.flying - 1) 0 0 1 0 c.counted.ensures)
    ∙ ap (λ (s : State). gives (counted s 0 0 1 0) c.in-Ok.oldest.number went.Lost) (took_is p r flight a.tally a.x)
    ∙ ap (λ (n : ℕ). gives (counted (taken (shown p r flight a.tally) a.x) 0 0 1 0) n went.Lost) o.number
    ∙ off_found p r a.x a.told flight a.tally e formed c.requires.fair.events _ t o.first

pub returns-in-Ok-clause-flying : goal.returns-in-Ok-clause-flying
returns-in-Ok-clause-flying c flight e l =
    let a = c.args in
    let t = is_there a.plan.now a.arrows.now a.x a.told (sym c.first_on.ensures ∙ c.in-Ok.is) in
    lost_long a.arrows.now.local flight a.x c.done.ensures (told_first (on_lane a.x flight) e t.one).first
    (omega (arith, l, c.requires.flying _ t.one, ap (λ (t : Tally). t.flying) c.counted.ensures))

pub returns-in-Err-clause-outcome : goal.returns-in-Err-clause-outcome
unfolding lose_on
returns-in-Err-clause-outcome c p r flight g h e formed =
    let a = c.args in
    let q = first_same p a.plan.now r a.arrows.now a.x a.told g h ∙ sym c.first_on.ensures ∙ c.in-Err.is in
    bare_keeps p r flight a.x c.bare.ensures (refused_not_done p r a.x a.told q)
    ∙ off_refused p r a.x a.told flight a.tally e formed c.requires.fair.events _ q

pub returns-in-Err-clause-flying : goal.returns-in-Err-clause-flying
returns-in-Err-clause-flying c flight e l =
    let a = c.args in
    let q = sym c.first_on.ensures ∙ c.in-Err.is in
    bare_long a.arrows.now.local flight a.x c.bare.ensures (refused_not_done a.plan.now a.arrows.now a.x a.told q) l
