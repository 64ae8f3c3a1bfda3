-- The refusals, the bit out of step, then the packet lands, its news heard. Assumes nothing.
use Prim.Native.Nat.{ℕ, ◌-◌, ◌*◌, ◌/◌, ◌<◌}
use native.Mathlib.Omega.{arith}
use mathlib.Core.Path.{◌≡◌, sym, ap, ◌∙◌}
use mathlib.Core.Bool.{Bool, true, false, not, beq, cond, xor, ◌&&◌}
use mathlib.Core.List.{List}
use lib.ListN.{get_or, length}
use Rattle.model.specs.Answers as answers
use Rattle.model.specs.State.{State, Packet}
use Rattle.model.specs.Departure.{has_live}
use Rattle.model.specs.Formed.{well_formed}
use Rattle.model.specs.Outcome.{Outcome, refuse}
use Rattle.model.specs.Deliver.{news, deliver_on}
use Rattle.model.specs.Lanes.{on_lane, less, taken, off_lane}
use Rattle.model.proofs.Ends.{opp_below, link_opp}
use Rattle.model.proofs.Lanes.{less_length}
use Rattle.arrays.specs.declared.record.Arrows.{Arrows}
use Rattle.arrays.specs.View.{shown, ends_seen}
use Rattle.arrays.specs.Told.{oldest_in}
use Rattle.arrays.proofs.Below.{used_in}
use Rattle.arrivals.specs.Landing.{landed}
use Rattle.arrivals.proofs.OffLanes.{There, is_there, First, told_first, off_refused, off_found, refused_not_done, took_is, took_gives, took_long, bare_keeps, bare_long}
use Rattle.arrivals.proofs.Deliveries.{fresh_is, if_out_of_step, deal_lands, held_at, heard_is}
use Rattle.arrivals.proofs.deliver.deliver_step.Goals as goal
use Rattle.arrivals.proofs.deliver.deliver_step.Goals.{In-Ok, After-other-y}

pub returns-in-Err-clause-outcome : goal.returns-in-Err-clause-outcome
unfolding deliver_on
returns-in-Err-clause-outcome c flight e formed =
    let a = c.args in
    let q = sym c.first_on.ensures ∙ c.in-Err.is in
    bare_keeps a.plan.now a.arrows.now flight a.x c.bare.ensures (refused_not_done a.plan.now a.arrows.now a.x a.told q)
    ∙ off_refused a.plan.now a.arrows.now a.x a.told flight a.tally e formed c.requires.room _ q

pub returns-in-Err-clause-flying : goal.returns-in-Err-clause-flying
returns-in-Err-clause-flying c flight e l =
    let a = c.args in
    let q = sym c.first_on.ensures ∙ c.in-Err.is in
    bare_long a.arrows.now.local flight a.x c.bare.ensures (refused_not_done a.plan.now a.arrows.now a.x a.told q) l

-- there is a packet
there : (c : goal.In-Ok) → let a = c.args in There a.plan.now a.arrows.now a.x a.told c.in-Ok.oldest
there c = let a = c.args in is_there a.plan.now a.arrows.now a.x a.told (sym c.first_on.ensures ∙ c.in-Ok.is)

-- the end that it comes to
within : (c : goal.After-other-y) → c.other-y.result < 2 * c.args.plan.now.links
within c =
    let a = c.args in
    omega (arith, c.other-y.ensures.0, opp_below a.x a.plan.now.links (is_there a.plan.now a.arrows.now a.x a.told (sym c.first_on.ensures ∙ c.in-Ok.is)).inside)

pub other-y-requires : goal.other-y-requires
other-y-requires c = omega (arith, (there c).inside, c.requires.sound.links_fit)

-- what the packet says to the end that it comes to
module _ (c : goal.After-other-y) where
  abbrev seen : List Packet → State
  seen flight = let a = c.args in shown a.plan.now a.arrows.now flight a.tally

  abbrev y : ℕ
  y = c.other-y.result

  abbrev was : Bool
  was = get_or c.args.arrows.now.out y false

  abbrev fresh : Bool
  fresh = not (beq c.in-Ok.oldest.bit (get_or c.args.arrows.now.remote y false))

  module _ (flight : List Packet) (e : c.args.told ≡ oldest_in (on_lane c.args.x flight)) where
    there_is : There c.args.plan.now c.args.arrows.now c.args.x c.args.told c.in-Ok.oldest
    there_is = let a = c.args in is_there a.plan.now a.arrows.now a.x a.told (sym c.first_on.ensures ∙ c.in-Ok.is)

    abbrev one : First (on_lane c.args.x flight) c.in-Ok.oldest
    one = told_first (on_lane c.args.x flight) e there_is.one

    was_out : (seen flight).ends.out y ≡ was
    was_out = used_in (2 * c.args.plan.now.links) false c.args.arrows.now.out y (within c)

    said : xor one.packet.bit ((seen flight).ends.remote y) ≡ fresh
    said =
        ap (λ b. xor b ((seen flight).ends.remote y)) (sym one.bit)
        ∙ ap (xor c.in-Ok.oldest.bit) (used_in (2 * c.args.plan.now.links) false c.args.arrows.now.remote y (within c))
        ∙ sym (fresh_is c.in-Ok.oldest.bit (get_or c.args.arrows.now.remote y false))

    one_less : length flight ≡ c.args.tally.flying → length (less c.args.x flight) ≡ c.args.tally.flying - 1
    one_less l = omega (arith, l, less_length c.args.x flight one.first)

    module _ (formed : well_formed (seen flight) ≡ true) where
      taken_off : (f : Packet → Outcome) → f one.packet ≡ off_lane (seen flight) c.args.x f
      taken_off f = let a = c.args in off_found a.plan.now a.arrows.now a.x a.told flight a.tally e formed c.requires.room f there_is one.first

      refused : (not was && fresh) ≡ true → refuse (seen flight) answers.out_of_step ≡ deliver_on (seen flight) c.args.x
      unfolding deliver_on
      refused h = sym (if_out_of_step (seen flight) c.args.x one.packet y c.other-y.ensures.0 was fresh was_out said h) ∙ taken_off _

      lands : (not was && fresh) ≡ false
          → landed (cond fresh (news (taken (seen flight) c.args.x) y) (taken (seen flight) c.args.x)) y c.in-Ok.oldest.number ≡ deliver_on (seen flight) c.args.x
      unfolding deliver_on
      lands h =
          ap (landed (cond fresh (news (taken (seen flight) c.args.x) y) (taken (seen flight) c.args.x)) y) one.number
          ∙ sym (deal_lands (seen flight) c.args.x one.packet y c.other-y.ensures.0 was fresh was_out said h)
          ∙ taken_off _

pub returns-then-arrows-y-clause-outcome : goal.returns-then-arrows-y-clause-outcome
returns-then-arrows-y-clause-outcome c flight e formed =
    let a = c.args in
    bare_keeps a.plan.now a.arrows.now flight a.x c.bare-then-arrows-y.ensures (λ z. omega (arith, z))
    ∙ refused (goal.at.returns-then-arrows-y-clause-outcome c).After-other-y flight e formed c.if-arrows-y.true

pub overflow_sub-taken : goal.overflow_sub-taken
overflow_sub-taken c = omega (arith, c.requires.flying _ (there (goal.at.overflow_sub-taken c).In-Ok).one)

pub land-requires-clause-inside : goal.land-requires-clause-inside
land-requires-clause-inside c = within (goal.at.land-requires-clause-inside c).After-other-y

pub land-requires-clause-named : goal.land-requires-clause-named
land-requires-clause-named c = c.requires.sound.named _ (within (goal.at.land-requires-clause-named c).After-other-y)

pub land-requires-clause-turns : goal.land-requires-clause-turns
land-requires-clause-turns c =
    let v = get_or c.args.plan.now.node c.other-y.result 0 in
    rw c.hear.ensures (omega (arith, c.requires.sound.turned v (c.requires.sound.named _ (within (goal.at.land-requires-clause-turns c).After-other-y)), c.requires.room))

pub land-requires-clause-live : goal.land-requires-clause-live
unfolding has_live
land-requires-clause-live c =
    let a = c.args in
    let y = c.other-y.result in
    let inside = within (goal.at.land-requires-clause-live c).After-other-y in
    let link : get_or a.arrows.now.live (y / 2) false ≡ true = ap (λ l. get_or a.arrows.now.live l false) (ap (λ z. z / 2) c.other-y.ensures.0 ∙ link_opp a.x) ∙ (there (goal.at.land-requires-clause-live c).In-Ok).up in
    rw c.hear.ensures
    (held_at (ends_seen a.plan.now a.arrows.now) (get_or a.plan.now.node y 0) y inside (used_in (2 * a.plan.now.links) 0 a.plan.now.node y inside) (used_in a.plan.now.links false a.arrows.now.live (y / 2) (omega (arith, inside)) ∙ link))

pub returns-clause-outcome : goal.returns-clause-outcome
returns-clause-outcome c flight e formed =
    let a = c.args in
    let p = a.plan.now in
    let y = c.other-y.result in
    let o = (goal.at.returns-clause-outcome c).After-other-y in
    took_gives p c.land.new.arrows flight a.x c.land.result c.land.ensures.accepted
    (c.land.ensures.outcome (less a.x flight)
    ∙ ap (λ (r : Arrows). landed (shown p r (less a.x flight) a.tally) y c.in-Ok.oldest.number) c.hear.ensures
    ∙ ap (λ (s : State). landed s y c.in-Ok.oldest.number)
    (heard_is p a.arrows.now (less a.x flight) a.tally y (within o) c.requires.sound.links_fit (omega arith) (omega arith) (fresh o) (took_is p a.arrows.now flight a.tally a.x))
    ∙ lands o flight e formed c.if-arrows-y.false)

pub returns-clause-flying : goal.returns-clause-flying
returns-clause-flying c flight e l =
    let a = c.args in
    let o = (goal.at.returns-clause-flying c).After-other-y in
    took_long a.plan.now c.land.new.arrows flight a.x c.land.result c.land.ensures.accepted (c.land.ensures.flying (less a.x flight) (one_less o flight e l))
