-- The link's slots are empty, and so are the queues of its two lanes. Assumes nothing.
use native.Mathlib.Omega.{arith}
use mathlib.Core.Path.{refl, ◌∙◌}
use lib.ListN.{length-set}
use Rattle.queues.specs.Queue.{room}
use Rattle.queues.proofs.Cuts.{flown_off, queued_cut}
use Rattle.queues.proofs.queue.Queues.cut.Goals as goal

pub returns : goal.returns
returns c =
    let s = c.args.self.now in
    let l = c.args.l in
    let e = c.empty.ensures in
    record {
      queued = λ q. queued_cut s.lane _ s.used l c.requires.1 e s.first s.last s.after q;
      packets = flown_off s.lane _ s.used l c.requires.1 e s.number s.bit;
      emptied = e;
      is = refl;
      long = record { number_long = omega arith; lane_long = omega (arith, e.long); bit_long = omega arith };
      firsts = length-set _ _ room ∙ length-set s.first _ room ∙ omega arith;
    }
