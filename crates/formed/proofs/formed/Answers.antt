-- Limits first, then the tests of the arrays in groups; dead links are looked at only where there are some. Assumes nothing.
use Prim.Native.Nat.{◌*◌}
use native.Mathlib.Omega.{arith}
use mathlib.Core.Path.{sym, ◌∙◌}
use borrow.Author.Tests.{leb-false}
use Rattle.model.proofs.Below.{or_neither, any_false}
use Rattle.formed.proofs.WellFormed.{shown as checked, bits_unread, Within, within, limits_refused, first_refused, then_refused, Passed, passed_down, passed_live}
use mathlib.Core.Path.{ap}
use mathlib.Core.Bool.{not}
use mathlib.Core.Path.{◌≡◌}
use Rattle.model.specs.Formed.{well_formed}
use Rattle.arrays.specs.declared.record.Plan.{Plan}
use Rattle.arrays.specs.declared.record.Arrows.{Arrows}
use Rattle.arrays.specs.declared.record.Flight.{Flight}
use Rattle.arrays.specs.declared.record.Tally.{Tally}
use Rattle.arrays.specs.View.{shown}
use Rattle.arrays.specs.Flight.{flying_in}
use Rattle.formed.proofs.formed.Goals as goal
use Rattle.formed.proofs.formed.Goals.{Else-not-limits_hold, Else-turns_over-number_over}

-- what the limits give to the loops
bounds : (c : goal.Else-not-limits_hold) → let a = c.args in Within a.plan.now.nodes a.plan.now.destination a.plan.now.links a.tally
bounds c =
    let a = c.args in
    within a.plan.now.nodes a.plan.now.destination a.plan.now.links a.tally (sym c.limits_hold.ensures ∙ c.if-not-limits_hold.false)

-- what the first two groups of tests give
passed : (c : goal.Else-turns_over-number_over) → let a = c.args in Passed a.plan.now.node a.arrows.now.live a.arrows.now.out a.arrows.now.mark a.arrows.now.turns a.flight.now.number a.flight.now.lane a.plan.now.nodes a.plan.now.destination a.plan.now.links a.tally
passed c =
    let a = c.args in
    let w = within a.plan.now.nodes a.plan.now.destination a.plan.now.links a.tally (sym c.limits_hold.ensures ∙ c.if-not-limits_hold.false) in
    let first = or_neither _ _ c.if-node_over-self_linked.false in
    let link = or_neither _ _ first.0 in
    let second = or_neither _ _ c.if-turns_over-number_over.false in
    let count = or_neither _ _ second.0 in
    record {
      limits = sym c.limits_hold.ensures ∙ c.if-not-limits_hold.false;
      named = sym c.node_over.ensures ∙ link.0;
      joined = sym c.self_linked.ensures ∙ link.1;
      outs = sym c.out_marked.ensures ∙ first.1;
      turned = sym c.turns_over.ensures ∙ count.0;
      numbers = sym c.number_over.ensures ∙ count.1;
      lanes = sym c.lane_over.ensures ∙ second.1;
    }

-- neither the bits of ends nor those of packets are read
unread : (p : Plan) (a : Arrows) (f : Flight) (t : Tally) → well_formed (checked p.node a.live a.out a.mark a.turns f.number f.lane p.nodes p.destination p.links t)
    ≡ well_formed (shown p a (flying_in f t.flying) t)
unread p a f t = bits_unread p.node a.live a.out a.mark a.local a.remote f.bit a.turns f.number f.lane p.nodes p.destination p.links t

pub returns-then-not-limits_hold : goal.returns-then-not-limits_hold
returns-then-not-limits_hold c =
    let a = c.args in
    limits_refused a.plan.now.node a.arrows.now.live a.arrows.now.out a.arrows.now.mark a.arrows.now.turns a.flight.now.number a.flight.now.lane a.plan.now.nodes a.plan.now.destination a.plan.now.links a.tally _ c.limits_hold.ensures (ap not c.if-not-limits_hold.true)
    ∙ unread a.plan.now a.arrows.now a.flight.now a.tally

pub overflow_mul-ends : goal.overflow_mul-ends
overflow_mul-ends c = let w = bounds (goal.at.overflow_mul-ends c).Else-not-limits_hold in omega arith

pub overflow_cast-plan : goal.overflow_cast-plan
overflow_cast-plan c = let w = bounds (goal.at.overflow_cast-plan c).Else-not-limits_hold in omega arith

pub node_over-requires : goal.node_over-requires
node_over-requires c = let w = bounds (goal.at.node_over-requires c).Else-not-limits_hold in omega arith

pub self_linked-requires : goal.self_linked-requires
self_linked-requires c = let w = bounds (goal.at.self_linked-requires c).Else-not-limits_hold in omega arith

pub out_marked-requires : goal.out_marked-requires
out_marked-requires c = let w = bounds (goal.at.out_marked-requires c).Else-not-limits_hold in omega arith

pub returns-then-node_over-self_linked : goal.returns-then-node_over-self_linked
returns-then-node_over-self_linked c =
    let a = c.args in
    let w = bounds (goal.at.returns-then-node_over-self_linked c).Else-not-limits_hold in
    first_refused a.plan.now.node a.arrows.now.live a.arrows.now.out a.arrows.now.mark a.arrows.now.turns a.flight.now.number a.flight.now.lane a.plan.now.nodes a.plan.now.destination a.plan.now.links a.tally
    _ _ _ c.node_over.ensures c.self_linked.ensures c.out_marked.ensures c.if-node_over-self_linked.true
    ∙ unread a.plan.now a.arrows.now a.flight.now a.tally

pub turns_over-requires : goal.turns_over-requires
turns_over-requires c = let w = bounds (goal.at.turns_over-requires c).Else-not-limits_hold in omega arith

pub number_over-requires : goal.number_over-requires
number_over-requires c = let w = bounds (goal.at.number_over-requires c).Else-not-limits_hold in omega arith

pub overflow_cast-ends : goal.overflow_cast-ends
overflow_cast-ends c = let w = bounds (goal.at.overflow_cast-ends c).Else-not-limits_hold in omega arith

pub lane_over-requires : goal.lane_over-requires
lane_over-requires c = let w = bounds (goal.at.lane_over-requires c).Else-not-limits_hold in omega arith

pub returns-then-turns_over-number_over : goal.returns-then-turns_over-number_over
returns-then-turns_over-number_over c =
    let a = c.args in
    then_refused a.plan.now.node a.arrows.now.live a.arrows.now.out a.arrows.now.mark a.arrows.now.turns a.flight.now.number a.flight.now.lane a.plan.now.nodes a.plan.now.destination a.plan.now.links a.tally
    _ _ _ c.turns_over.ensures c.number_over.ensures c.lane_over.ensures c.if-turns_over-number_over.true
    ∙ unread a.plan.now a.arrows.now a.flight.now a.tally

pub some_down-requires : goal.some_down-requires
some_down-requires c = let w = bounds (goal.at.some_down-requires c).Else-not-limits_hold in omega arith

pub down_marked-requires : goal.down_marked-requires
down_marked-requires c = let w = bounds (goal.at.down_marked-requires c).Else-not-limits_hold in omega arith

pub lane_down-requires : goal.lane_down-requires
lane_down-requires c =
    let a = c.args in
    let w = bounds (goal.at.lane_down-requires c).Else-not-limits_hold in
    let z = passed (goal.at.lane_down-requires c).Else-turns_over-number_over in
    (w.flight_fits, λ i h. omega (arith, leb-false (2 * a.plan.now.links) _ (any_false _ a.tally.flying i z.lanes h)))

pub returns-then-some_down : goal.returns-then-some_down
returns-then-some_down c =
    let a = c.args in
    passed_down a.plan.now.node a.arrows.now.live a.arrows.now.out a.arrows.now.mark a.arrows.now.turns a.flight.now.number a.flight.now.lane a.plan.now.nodes a.plan.now.destination a.plan.now.links a.tally
    (passed (goal.at.returns-then-some_down c).Else-turns_over-number_over) _ _ c.down_marked.ensures c.lane_down.ensures
    ∙ unread a.plan.now a.arrows.now a.flight.now a.tally

pub returns : goal.returns
returns c =
    let a = c.args in
    passed_live a.plan.now.node a.arrows.now.live a.arrows.now.out a.arrows.now.mark a.arrows.now.turns a.flight.now.number a.flight.now.lane a.plan.now.nodes a.plan.now.destination a.plan.now.links a.tally
    (passed (goal.at.returns c).Else-turns_over-number_over) (sym c.some_down.ensures ∙ c.if-some_down.false)
    ∙ unread a.plan.now a.arrows.now a.flight.now a.tally
