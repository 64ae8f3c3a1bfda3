-- Those that stand are gathered, spread over the first slots and put into queues again. Assumes nothing.
use native.Mathlib.Omega.{arith}
use mathlib.Core.Path.{ap, ◌∙◌}
use lib.ListN.{length, get_or, get_or-replicate}
use Rattle.model.specs.Limits.{ends_most}
use Rattle.queues.specs.declared.queue.Queues.{Queues}
use Rattle.queues.specs.Queue.{room}
use Rattle.slots.proofs.Gathered.{gathered_named, spread_again}
use Rattle.slots.proofs.make_room.Goals as goal

pub thread_lanes-requires : goal.thread_lanes-requires
thread_lanes-requires c =
    let q = c.args.queues.now in
    let f = c.gather-kept.new.flight in
    let p = c.requires in
    let g = c.gather-kept.ensures in
    let s = c.spread.ensures in
    let e = c.clear.ensures in
    let on = gathered_named q.number q.lane q.bit f.number f.lane f.bit q.used _ g.packets p.1.named in
    let used = ap (λ (x : Queues). x.used) e ∙ ap (λ (x : Queues). x.used) s.is in (
      omega (arith, used, g.many, p.0),
      λ i l. rw (ap (λ (x : Queues). x.lane) e, s.lanes i (rw used at l)) (on i (rw used at l)),
      λ x l. ap (λ (y : Queues). get_or y.first x 0) e ∙ get_or-replicate ends_most x room 0 l,
    )

pub returns : goal.returns
returns c =
    let q = c.args.queues.now in
    let f = c.gather-kept.new.flight in
    let g = c.gather-kept.ensures in
    let s = c.spread.ensures in
    let e = c.clear.ensures in
    let t = c.thread_lanes.ensures in
    let m = c.spread.new.queues in
    let cleared = ap (λ (x : Queues). x.used) e ∙ ap (λ (x : Queues). x.used) s.is in
    let used = ap (λ (x : Queues). x.used) t.2 ∙ cleared in
    let number = ap (λ (x : Queues). x.number) t.2 ∙ ap (λ (x : Queues). x.number) e in
    let lane = ap (λ (x : Queues). x.lane) t.2 ∙ ap (λ (x : Queues). x.lane) e in
    let bit = ap (λ (x : Queues). x.bit) t.2 ∙ ap (λ (x : Queues). x.bit) e in
    let last = ap (λ (x : Queues). x.last) e ∙ ap (λ (x : Queues). x.last) s.is in
    let after = ap (λ (x : Queues). x.after) e ∙ ap (λ (x : Queues). x.after) s.is in
    record {
      many = used ∙ g.many;
      packets = rw (number, lane, bit, used) (spread_again q.number q.lane q.bit f.number f.lane f.bit q.used _ g.packets m.number m.lane m.bit s.packets);
      queued = t.0;
      kept = rw (number, lane, bit, used) s.kept;
      idle = rw used (rw (cleared, last, after) at t.1);
      long =
          record {
            number_long = ap length number ∙ s.long.number_long;
            lane_long = ap length lane ∙ s.long.lane_long;
            bit_long = ap length bit ∙ s.long.bit_long;
          };
    }
