use Rattle.std.proofs.Common.{false, refl, ◌/◌, get_or}
use Rattle.arrays.proofs.Loops.{flags_none, flags_more}
use Rattle.down.proofs.lane_in.Goals as goal

pub loop-a-init : goal.loop-a-init
loop-a-init c = flags_none _

pub loop-a-preserved : goal.loop-a-preserved
loop-a-preserved c =
    let h = c.loop-a in
    let a = c.args in
    let up = get_or a.live.now (get_or a.lane.now h.a-index 0 / 2) false in
    rw (c.from-up.ensures, c.from.ensures) (flags_more _ h.a-index up h.invariant refl)
