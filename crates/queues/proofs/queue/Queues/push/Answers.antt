-- Six stores, and the lane's first or the packet before it. Assumes nothing.
use Prim.Native.Nat.{◌<◌}
use native.Mathlib.Omega.{arith}
use mathlib.Core.Path.{◌≡◌, refl, ◌∙◌}
use lib.ListN.{get_or, length-set}
use borrow.Author.Tests.{eq-eqb, ne_eqb}
use Rattle.queues.specs.Queue.{room}
use Rattle.queues.proofs.Standing.{flown_more}
use Rattle.queues.proofs.Pushes.{last_below, queued_first, queued_last}
use Rattle.queues.proofs.queue.Queues.push.Goals as goal

pub bounds-self-newest : goal.bounds-self-newest
bounds-self-newest c =
    let m = last_below c.requires.2 c.args.x c.requires.1 (λ e. omega (arith, e, c.from.ensures, c.if-from-eq-ROOM)) in
    omega (arith, m, c.requires.0, c.from-newest.ensures)

pub returns-then-from-eq-ROOM : goal.returns-then-from-eq-ROOM
returns-then-from-eq-ROOM c =
    let a = c.args in
    let s = a.self.now in
    let p = c.requires in
    let none : get_or s.first a.x 0 ≡ room = omega (arith, c.from.ensures, c.if-from-eq-ROOM.true) in
    let tested = eq-eqb (get_or s.first a.x 0) room none in
    record {
      packets = flown_more s.number s.lane s.bit s.used a.n a.x a.b (omega arith) (omega arith) (omega arith) p.1;
      queued = queued_first s.lane s.first s.last s.after s.used p.2 a.x p.1 p.0 (omega arith) none _ _ refl refl;
      pushed =
          record {
            numbered = refl;
            on = refl;
            with = refl;
            newest = refl;
            leads = rw tested refl;
            follows = rw tested refl;
            counted = omega arith;
          };
      long =
          record {
            number_long = length-set s.number s.used a.n ∙ omega arith;
            lane_long = length-set s.lane s.used a.x ∙ omega arith;
            bit_long = length-set s.bit s.used a.b ∙ omega arith;
          };
    }

pub returns-else-from-eq-ROOM : goal.returns-else-from-eq-ROOM
returns-else-from-eq-ROOM c =
    let a = c.args in
    let s = a.self.now in
    let p = c.requires in
    let some : get_or s.first a.x 0 < room = omega (arith, (p.2.begins a.x p.1).most, c.from.ensures, c.if-from-eq-ROOM.false) in
    let tested = ne_eqb (get_or s.first a.x 0) room (λ e. omega (arith, e, some)) in
    record {
      packets = flown_more s.number s.lane s.bit s.used a.n a.x a.b (omega arith) (omega arith) (omega arith) p.1;
      queued = queued_last s.lane s.first s.last s.after s.used p.2 a.x p.1 p.0 (omega arith) some c.from-newest.result _ _ c.from-newest.ensures refl refl;
      pushed =
          record {
            numbered = refl;
            on = refl;
            with = refl;
            newest = refl;
            leads = rw tested refl;
            follows = rw (tested, c.from-newest.ensures) refl;
            counted = omega arith;
          };
      long =
          record {
            number_long = length-set s.number s.used a.n ∙ omega arith;
            lane_long = length-set s.lane s.used a.x ∙ omega arith;
            bit_long = length-set s.bit s.used a.b ∙ omega arith;
          };
    }
