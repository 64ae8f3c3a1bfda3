use Prim.Native.Nat.{◌<◌}
use native.Mathlib.Omega.{arith}
use mathlib.Core.Path.{◌≡◌, ◌∙◌}
use lib.ListN.{length-set}
use Rattle.model.specs.Limits.{flight_most}
use Rattle.slots.proofs.Gathered.{gathered_none, gathered_many, gathered_gone, gathered_room, gathered_stays}
use Rattle.packets.proofs.Stays.{stay_all, stay_more}
use borrow.Author.Rules.{rules}
use Rattle.slots.proofs.gather.Goals as goal
use Rattle.slots.proofs.gather.Goals.{Then-x-ne-NO_LANE, then-x-ne-NO_LANE, else-x-ne-NO_LANE}

pub loop-j-init : goal.loop-j-init
loop-j-init c =
    let q = c.args.queues.now in
    let f = c.args.flight.now in (
      gathered_none q.number q.lane q.bit f.number f.lane f.bit,
      stay_all 0 _ _ _,
      record { number_long = omega arith; lane_long = omega arith; bit_long = omega arith },
    )

-- a packet that stands finds a slot free
free : (c : Then-x-ne-NO_LANE) → c.loop-j.w < flight_most
free c =
    let q = c.args.queues.now in
    let h = c.loop-j in
    gathered_room q.number q.lane q.bit h.j h.w h.flight.number h.flight.lane h.flight.bit h.invariant.0 c.if-x-ne-NO_LANE.true q.used (omega arith) c.requires.1

pub offset_bounds-flight-w : goal.offset_bounds-flight-w
offset_bounds-flight-w c = let l = free (goal.at.offset_bounds-flight-w c).Then-x-ne-NO_LANE in search rules

pub bounds-flight-w : goal.bounds-flight-w
bounds-flight-w c = let l = free (goal.at.bounds-flight-w c).Then-x-ne-NO_LANE in search rules

pub offset_bounds-flight-w-then-x-ne-NO_LANE : goal.offset_bounds-flight-w-then-x-ne-NO_LANE
offset_bounds-flight-w-then-x-ne-NO_LANE c =
    let l = free (goal.at.offset_bounds-flight-w-then-x-ne-NO_LANE c).Then-x-ne-NO_LANE in
    search rules

pub bounds-flight-w-then-x-ne-NO_LANE : goal.bounds-flight-w-then-x-ne-NO_LANE
bounds-flight-w-then-x-ne-NO_LANE c = let l = free (goal.at.bounds-flight-w-then-x-ne-NO_LANE c).Then-x-ne-NO_LANE in search rules

pub bounds-flight-w-then-x-ne-NO_LANE-2 : goal.bounds-flight-w-then-x-ne-NO_LANE-2
bounds-flight-w-then-x-ne-NO_LANE-2 c =
    let l = free (goal.at.bounds-flight-w-then-x-ne-NO_LANE-2 c).Then-x-ne-NO_LANE in
    search rules

pub overflow_add-w : goal.overflow_add-w
overflow_add-w c = let l = free (goal.at.overflow_add-w c).Then-x-ne-NO_LANE in search rules

pub loop-j-preserved : goal.loop-j-preserved
loop-j-preserved c =
    let q = c.args.queues.now in
    let h = c.loop-j in
    elim c.if-x-ne-NO_LANE.branch [
      | then-x-ne-NO_LANE w ↦
          let l = gathered_room q.number q.lane q.bit h.j h.w h.flight.number h.flight.lane h.flight.bit h.invariant.0 w.if-x-ne-NO_LANE.true q.used (omega arith) c.requires.1 in
          rw (w.flight-is, w.w-is) (
            gathered_stays q.number q.lane q.bit h.j h.w h.flight.number h.flight.lane h.flight.bit h.invariant.0 w.if-x-ne-NO_LANE.true
                (omega arith) (omega arith) (omega arith),
            stay_more h.w h.flight.number h.flight.lane h.flight.bit _ _ _ h.invariant.1,
            record {
              number_long = length-set h.flight.number h.w _ ∙ h.invariant.2.number_long;
              lane_long = length-set h.flight.lane h.w _ ∙ h.invariant.2.lane_long;
              bit_long = length-set h.flight.bit h.w _ ∙ h.invariant.2.bit_long;
            },
          )
      | else-x-ne-NO_LANE w ↦
          rw (w.flight-is, w.w-is) (
            gathered_gone q.number q.lane q.bit h.j h.w h.flight.number h.flight.lane h.flight.bit h.invariant.0 w.if-x-ne-NO_LANE.false,
            h.invariant.1,
            h.invariant.2,
          )
    ]

pub returns : goal.returns
returns c =
    let q = c.args.queues.now in
    let h = c.loop-j in
    let e : h.j ≡ q.used = omega arith in
    record {
      many = rw e at (gathered_many q.number q.lane q.bit h.j h.w h.flight.number h.flight.lane h.flight.bit h.invariant.0);
      packets = rw e at h.invariant.0.gathered;
      stays = h.invariant.1;
      long = h.invariant.2;
    }
