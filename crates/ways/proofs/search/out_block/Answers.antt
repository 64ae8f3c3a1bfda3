use native.Mathlib.Omega.{arith}
use mathlib.Core.Path.{◌≡◌, refl, sym}
use Rattle.arrays.proofs.Searches.{any_none, any_more}
use Rattle.ways.proofs.search.out_block.Goals as goal

pub loop-j-init : goal.loop-j-init
loop-j-init c = sym (any_none _)

pub loop-j-preserved : goal.loop-j-preserved
loop-j-preserved c = any_more _ c.loop-j.j c.loop-j.invariant refl

pub returns : goal.returns
returns c =
    let h = c.loop-j in
    let e : h.j ≡ 16 = omega arith in
    rw e at h.invariant
