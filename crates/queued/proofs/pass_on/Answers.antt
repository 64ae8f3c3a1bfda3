-- The packet is pushed, or nothing moves. Assumes nothing.
use native.Mathlib.Omega.{arith}
use mathlib.Core.Path.{◌∙◌}
use Rattle.queues.specs.Queue.{flown}
use Rattle.arrays.proofs.Leaving.{passed_lane, passed_nothing, passed_none}
use Rattle.queued.proofs.pass_on.Goals as goal

pub bounds-arrows-x : goal.bounds-arrows-x
bounds-arrows-x c = c.requires.1 _ c.in-Lane.is

pub push-requires : goal.push-requires
push-requires c = let p = c.requires in (p.0, p.1 _ c.in-Lane.is, p.2)

pub returns-in-Lane : goal.returns-in-Lane
returns-in-Lane c =
    let a = c.args in
    let e = c.push.ensures in
    record {
      packets = e.packets ∙ passed_lane a.arrows.now.local (flown a.queues.now) _ _ a.handled a.went c.in-Packet.is c.in-Lane.is;
      queued = e.queued;
      long = e.long;
    }

pub returns-in_default : goal.returns-in_default
returns-in_default c =
    let a = c.args in
    record {
      packets = passed_none a.arrows.now.local (flown a.queues.now) a.handled a.went c.in_default.not-Lane;
      queued = c.requires.2;
      long = record { number_long = omega arith; lane_long = omega arith; bit_long = omega arith };
    }

pub returns-in-Nothing : goal.returns-in-Nothing
returns-in-Nothing c =
    let a = c.args in
    record {
      packets = passed_nothing a.arrows.now.local (flown a.queues.now) a.handled a.went c.in-Nothing.is;
      queued = c.requires.2;
      long = record { number_long = omega arith; lane_long = omega arith; bit_long = omega arith };
    }
