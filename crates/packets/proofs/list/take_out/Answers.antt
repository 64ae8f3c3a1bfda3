use native.Mathlib.Omega.{arith}
use mathlib.Core.Bool.{false}
use Rattle.packets.proofs.list.take_out.Goals as goal

pub returns : goal.returns
returns c =
    let n = c.remove.ensures 0 in
    let l = c.remove-2.ensures 0 in
    let b = c.remove-3.ensures false in
    record {
      number = n;
      lane = l;
      bit = b;
      long = record { number_long = omega (arith, n.long); lane_long = omega (arith, l.long); bit_long = omega (arith, b.long) };
    }
