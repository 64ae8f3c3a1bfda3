use native.Mathlib.Omega.{arith}
use mathlib.Core.Path.{◌≡◌}
use Rattle.packets.proofs.Packets.{kept_none, kept_gone, kept_stays}
use Rattle.packets.proofs.Stays.{stay_all, stay_more}
use Rattle.packets.proofs.list.keep_off.Goals as goal
use Rattle.packets.proofs.list.keep_off.Goals.{then-from-l, else-from-l}

pub loop-j-init : goal.loop-j-init
loop-j-init c =
    let f = c.args.flight.now in
    (omega arith, kept_none f.number f.lane f.bit c.args.l, stay_all 0 _ _ _)

pub loop-j-preserved : goal.loop-j-preserved
loop-j-preserved c =
    let f = c.args.flight.now in
    let h = c.loop-j in
    let k = h.invariant.1 in
    elim c.if-from-l.branch [
      | then-from-l w ↦
          rw (w.flight-is, w.w-is) (
            omega arith,
            kept_stays f.number f.lane f.bit c.args.l h.j h.w h.flight.number h.flight.lane h.flight.bit k h.invariant.0
                (λ e. w.if-from-l.true (omega (arith, c.from.ensures, e))) (omega arith) (omega arith) (omega arith),
            stay_more h.w h.flight.number h.flight.lane h.flight.bit _ _ _ h.invariant.2,
          )
      | else-from-l w ↦
          rw (w.flight-is, w.w-is) (
            omega arith,
            kept_gone f.number f.lane f.bit c.args.l h.j h.w h.flight.number h.flight.lane h.flight.bit k h.invariant.0
                (omega (arith, c.from.ensures, w.if-from-l.false)),
            h.invariant.2,
          )
    ]

pub returns : goal.returns
returns c =
    let h = c.loop-j in
    let e : h.j ≡ c.args.flying = omega arith in
    record {
      within = omega arith;
      packets = rw e at h.invariant.1.kept;
      stays = h.invariant.2;
      long = record { number_long = omega arith; lane_long = omega arith; bit_long = omega arith };
    }
