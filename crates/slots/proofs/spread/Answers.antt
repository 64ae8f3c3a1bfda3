-- Three copies. Assumes nothing.
use native.Mathlib.Omega.{arith}
use mathlib.Core.Path.{refl}
use mathlib.Core.Bool.{false}
use Rattle.arrays.specs.View.{packet_at}
use Rattle.arrays.proofs.Below.{tab_same}
use Rattle.slots.proofs.Copied.{copied_long, copied_here, copied_past}
use Rattle.slots.proofs.spread.Goals as goal

pub returns : goal.returns
returns c =
    let k = c.args.flying in
    let f = c.args.flight.now in
    let q = c.args.queues.now in
    let n = c.copy_from_slice.ensures.after in
    let l = c.copy_from_slice-2.ensures.after in
    let b = c.copy_from_slice-3.ensures.after in
    record {
      packets =
          tab_same _ (packet_at f.number f.lane f.bit) k
          (λ i h.
          rw (
            copied_here k f.number q.number _ n (omega arith) i 0 h,
            copied_here k f.lane q.lane _ l (omega arith) i 0 h,
            copied_here k f.bit q.bit _ b (omega arith) i false h,
          ));
      lanes = λ i h. copied_here k f.lane q.lane _ l (omega arith) i 0 h;
      kept =
          record {
            numbers = λ i h. copied_past k f.number q.number _ n (omega arith) i 0 h;
            lanes = λ i h. copied_past k f.lane q.lane _ l (omega arith) i 0 h;
            bits = λ i h. copied_past k f.bit q.bit _ b (omega arith) i false h;
          };
      is = refl;
      long =
          record {
            number_long = omega (arith, copied_long k f.number q.number _ n (omega arith) (omega arith));
            lane_long = omega (arith, copied_long k f.lane q.lane _ l (omega arith) (omega arith));
            bit_long = omega (arith, copied_long k f.bit q.bit _ b (omega arith) (omega arith));
          };
    }
