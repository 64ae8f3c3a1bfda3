-- The packets are spread over the first slots and put into queues. Assumes nothing.
use native.Mathlib.Omega.{arith}
use mathlib.Core.Path.{ap, ◌∙◌}
use lib.ListN.{length, get_or, get_or-replicate}
use Rattle.model.specs.Limits.{ends_most}
use Rattle.arrays.specs.View.{packet_at}
use Rattle.queues.specs.declared.queue.Queues.{Queues}
use Rattle.queues.specs.Queue.{room, standing}
use Rattle.slots.proofs.Gathered.{standing_all}
use Rattle.slots.proofs.line_up.Goals as goal

pub thread_lanes-requires : goal.thread_lanes-requires
thread_lanes-requires c =
    let p = c.requires in
    let s = c.spread.ensures in
    let used = ap (λ (x : Queues). x.used) s.is in (
      omega (arith, used),
      λ i l. rw (s.lanes i (rw used at l)) (p.1 i (rw used at l)),
      λ x l. ap (λ (y : Queues). get_or y.first x 0) s.is ∙ get_or-replicate ends_most x room 0 l,
    )

pub returns : goal.returns
returns c =
    let f = c.args.flight.now in
    let k = c.args.flying in
    let s = c.spread.ensures in
    let t = c.thread_lanes.ensures in
    let used = ap (λ (x : Queues). x.used) t.2 ∙ ap (λ (x : Queues). x.used) s.is in
    let number = ap (λ (x : Queues). x.number) t.2 in
    let lane = ap (λ (x : Queues). x.lane) t.2 in
    let bit = ap (λ (x : Queues). x.bit) t.2 in
    record {
      packets = rw (number, lane, bit, used) (ap standing s.packets ∙ standing_all (packet_at f.number f.lane f.bit) k c.requires.1);
      queued = t.0;
      used = used;
      long =
          record {
            number_long = ap length number ∙ s.long.number_long;
            lane_long = ap length lane ∙ s.long.lane_long;
            bit_long = ap length bit ∙ s.long.bit_long;
          };
    }
