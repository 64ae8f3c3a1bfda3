-- By the kind, after the two refusals that need none. Assumes nothing.
use Prim.Native.Nat.{ℕ}
use native.Mathlib.Omega.{arith}
use mathlib.Core.Path.{◌≡◌, refl, sym, ap, ◌∙◌}
use mathlib.Core.List.{List}
use lib.ListN.{length}
use Rattle.model.specs.declared.Handled.TheVariants as handled
use Rattle.model.specs.declared.Went.TheVariants as went
use Rattle.model.specs.State.{Packet, State}
use Rattle.model.specs.Outcome.{Outcome}
use Rattle.arrays.specs.declared.record.Plan.{Plan}
use Rattle.arrays.specs.declared.record.Arrows.{Arrows}
use Rattle.arrays.specs.View.{shown}
use Rattle.arrays.specs.Told.{flies}
use Rattle.departs.specs.declared.tally.Step.{Step}
use Rattle.steps.specs.Call.{call}
use Rattle.departs.specs.Steps.{outcome_of}
use Rattle.steps.proofs.Tellings.{told_deliver, told_lose, told_fail, flies_send, flies_deliver, flies_lose, flies_fail, flies_not}
use Rattle.steps.proofs.Calls.{call_send, call_deliver, call_lose, call_fail, call_no_more, call_unknown}
use Rattle.steps.proofs.step.Goals as goal
use Rattle.steps.proofs.step.Goals.{Start}

-- the packets are where the event's own law has them
with_flight : (p : Plan) (a : Arrows) (r : Step) {flight flight' : List Packet} {o : Outcome}
    → flight ≡ flight' → outcome_of (shown p a flight' r.tally) r ≡ o → outcome_of (shown p a flight r.tally) r ≡ o
with_flight p a r e h = ap (λ (f : List Packet). outcome_of (shown p a f r.tally) r) e ∙ h

-- a refusal by number alone
module _ (c : goal.Start) (flight : List Packet) {r : Step} {answer : ℕ} where
  refusal : r ≡ record { tally = c.args.tally; answer = answer; handled = handled.Nothing; went = went.Nowhere } → (answer ≡ 0 → ⊥)
      → outcome_of (shown c.args.plan.now c.args.arrows.now (flies c.args.kind c.args.argument c.args.arrows.now.local flight r.answer r.handled r.went) r.tally) r
      ≡ record { state = shown c.args.plan.now c.args.arrows.now flight c.args.tally; answer = answer; handled = handled.Nothing; went = went.Nowhere }
  refusal q n = rw (q, flies_not c.args.argument c.args.arrows.now.local flight answer c.args.kind n)

  refused_long : r ≡ record { tally = c.args.tally; answer = answer; handled = handled.Nothing; went = went.Nowhere } → (answer ≡ 0 → ⊥) → length flight ≡ c.args.tally.flying
      → length (flies c.args.kind c.args.argument c.args.arrows.now.local flight r.answer r.handled r.went) ≡ r.tally.flying
  refused_long q n e = rw (q, flies_not c.args.argument c.args.arrows.now.local flight answer c.args.kind n) e

-- the call of the kind that it is
of_kind_lem : (s : State) (a : ℕ) {kind : ℕ} (k : ℕ) {o : Outcome} → kind ≡ k → o ≡ call s k a → o ≡ call s kind a
of_kind_lem s a k e h = h ∙ ap (λ n. call s n a) (sym e)

pub returns-then-tally-ge-EVENTS-clause-outcome : goal.returns-then-tally-ge-EVENTS-clause-outcome
returns-then-tally-ge-EVENTS-clause-outcome c flight told many formed =
    let a = c.args in
    refusal (goal.at.returns-then-tally-ge-EVENTS-clause-outcome c).Start flight c.bare.ensures (λ e. omega (arith, e))
    ∙ call_no_more (shown a.plan.now a.arrows.now flight a.tally) a.kind a.argument formed c.if-tally-ge-EVENTS.true

pub returns-then-tally-ge-EVENTS-clause-flying : goal.returns-then-tally-ge-EVENTS-clause-flying
returns-then-tally-ge-EVENTS-clause-flying c flight told many = refused_long (goal.at.returns-then-tally-ge-EVENTS-clause-flying c).Start flight c.bare.ensures (λ e. omega (arith, e)) many

pub returns-in-1-clause-outcome : goal.returns-in-1-clause-outcome
returns-in-1-clause-outcome c flight told many formed =
    let kind : c.args.kind ≡ 1 = omega arith in
    let a = c.args in
    let r = c.send_step.result in
    let s = shown a.plan.now a.arrows.now flight a.tally in
    with_flight a.plan.now c.send_step.new.arrows r (flies_send a.argument c.send_step.new.arrows.local flight r.answer r.handled r.went kind)
    (of_kind_lem s a.argument 1 kind (c.send_step.ensures.outcome flight many formed ∙ call_send s a.argument))

pub returns-in-1-clause-flying : goal.returns-in-1-clause-flying
returns-in-1-clause-flying c flight told many =
    let kind : c.args.kind ≡ 1 = omega arith in
    let r = c.send_step.result in
    ap (λ (f : List Packet). length f) (flies_send c.args.argument c.send_step.new.arrows.local flight r.answer r.handled r.went kind)
    ∙ c.send_step.ensures.flying flight many

pub returns-in-2-clause-outcome : goal.returns-in-2-clause-outcome
returns-in-2-clause-outcome c flight told many formed =
    let kind : c.args.kind ≡ 2 = omega arith in
    let a = c.args in
    let r = c.deliver_step.result in
    let s = shown a.plan.now a.arrows.now flight a.tally in
    with_flight a.plan.now c.deliver_step.new.arrows r (flies_deliver a.argument c.deliver_step.new.arrows.local flight r.answer r.handled r.went kind)
    (of_kind_lem s a.argument 2 kind (c.deliver_step.ensures.outcome flight (told_deliver flight a.argument kind told) formed ∙ call_deliver s a.argument))

pub returns-in-2-clause-flying : goal.returns-in-2-clause-flying
returns-in-2-clause-flying c flight told many =
    let kind : c.args.kind ≡ 2 = omega arith in
    let a = c.args in
    let r = c.deliver_step.result in
    ap (λ (f : List Packet). length f) (flies_deliver a.argument c.deliver_step.new.arrows.local flight r.answer r.handled r.went kind)
    ∙ c.deliver_step.ensures.flying flight (told_deliver flight a.argument kind told) many

pub returns-in-3-clause-outcome : goal.returns-in-3-clause-outcome
returns-in-3-clause-outcome c flight told many formed =
    let kind : c.args.kind ≡ 3 = omega arith in
    let a = c.args in
    let r = c.lose_step.result in
    let s = shown a.plan.now a.arrows.now flight a.tally in
    with_flight a.plan.now a.arrows.now r (flies_lose a.argument a.arrows.now.local flight r.answer r.handled r.went kind)
    (of_kind_lem s a.argument 3 kind (c.lose_step.ensures.outcome a.plan.now a.arrows.now flight refl refl (told_lose flight a.argument kind told) formed ∙ call_lose s a.argument))

pub returns-in-3-clause-flying : goal.returns-in-3-clause-flying
returns-in-3-clause-flying c flight told many =
    let kind : c.args.kind ≡ 3 = omega arith in
    let a = c.args in
    let r = c.lose_step.result in
    ap (λ (f : List Packet). length f) (flies_lose a.argument a.arrows.now.local flight r.answer r.handled r.went kind)
    ∙ c.lose_step.ensures.flying flight (told_lose flight a.argument kind told) many

pub returns-in-4-clause-outcome : goal.returns-in-4-clause-outcome
returns-in-4-clause-outcome c flight told many formed =
    let kind : c.args.kind ≡ 4 = omega arith in
    let a = c.args in
    let r = c.fail_step.result in
    let s = shown a.plan.now a.arrows.now flight a.tally in
    with_flight a.plan.now c.fail_step.new.arrows r (flies_fail a.argument c.fail_step.new.arrows.local flight r.answer r.handled r.went kind)
    (of_kind_lem s a.argument 4 kind (c.fail_step.ensures.outcome flight (told_fail flight a.argument kind told) formed ∙ call_fail s a.argument))

pub returns-in-4-clause-flying : goal.returns-in-4-clause-flying
returns-in-4-clause-flying c flight told many =
    let kind : c.args.kind ≡ 4 = omega arith in
    let a = c.args in
    let r = c.fail_step.result in
    ap (λ (f : List Packet). length f) (flies_fail a.argument c.fail_step.new.arrows.local flight r.answer r.handled r.went kind)
    ∙ c.fail_step.ensures.flying flight (told_fail flight a.argument kind told) many

pub returns-in_default-clause-outcome : goal.returns-in_default-clause-outcome
returns-in_default-clause-outcome c flight told many formed =
    let a = c.args in
    refusal (goal.at.returns-in_default-clause-outcome c).Start flight c.bare-in_default.ensures (λ e. omega (arith, e))
    ∙ call_unknown (shown a.plan.now a.arrows.now flight a.tally) a.kind a.argument formed c.if-tally-ge-EVENTS.false (λ e. omega (arith, e)) (λ e. omega (arith, e)) (λ e. omega (arith, e)) (λ e. omega (arith, e))

pub returns-in_default-clause-flying : goal.returns-in_default-clause-flying
returns-in_default-clause-flying c flight told many = refused_long (goal.at.returns-in_default-clause-flying c).Start flight c.bare-in_default.ensures (λ e. omega (arith, e)) many
