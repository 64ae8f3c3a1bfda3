-- The count over the lanes in use: an empty slot is on no link. Assumes nothing.
use native.Mathlib.Omega.{arith}
use Rattle.arrays.specs.View.{packet_at}
use Rattle.arrays.specs.Flight.{packets}
use Rattle.arrays.proofs.Below.{length-tab}
use Rattle.packets.proofs.Counts.{counted_part}
use Rattle.queues.proofs.Standing.{standing_less}
use Rattle.queues.proofs.queue.Queues.on_link.Goals as goal

pub returns : goal.returns
returns c =
    let q = c.args.self.now in
    let l = c.args.l in
    omega (
      arith,
      counted_part q.number q.lane q.bit q.used l c.on_link.result (omega arith) (c.on_link.ensures q.number q.bit),
      standing_less l c.requires.1 (packets q.number q.lane q.bit q.used),
      length-tab (packet_at q.number q.lane q.bit) q.used,
    )
