use Prim.Native.Nat.{◌*◌}
use native.Mathlib.Omega.{arith}
use mathlib.Core.Path.{◌≡◌, sym}
use Rattle.model.specs.Departure.{has_mark}
use Rattle.arrays.proofs.Searches.{any_none, any_more}
use Rattle.arrays.proofs.Ends.{mark_is}
use Rattle.turning.proofs.marked.marked.Goals as goal

pub loop-x-init : goal.loop-x-init
loop-x-init c = sym (any_none _)

pub loop-x-preserved : goal.loop-x-preserved
loop-x-preserved c =
    let h = c.loop-x in
    let a = c.args in
    any_more _ h.x h.invariant (mark_is a.plan.now a.arrows.now a.v h.x (omega arith))

pub returns : goal.returns
unfolding has_mark
returns c =
    let h = c.loop-x in
    let e : h.x ≡ 2 * c.args.plan.now.links = omega arith in
    rw e at h.invariant
