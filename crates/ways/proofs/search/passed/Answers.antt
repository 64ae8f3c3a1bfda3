use Prim.Native.Nat.{◌+◌, ◌*◌}
use native.Mathlib.Omega.{arith}
use mathlib.Core.Path.{◌≡◌, sym, ◌∙◌}
use Rattle.arrays.proofs.Searches.{any_none, any_block}
use Rattle.ways.proofs.search.passed.Goals as goal

pub loop-b-init : goal.loop-b-init
loop-b-init c = any_none _

pub loop-b-preserved : goal.loop-b-preserved
loop-b-preserved c =
    let h = c.loop-b in
    let e : h.b * 16 + 16 ≡ (h.b + 1) * 16 = omega arith in
    rw e at (any_block _ 16 (h.b * 16) h.invariant (sym c.out_block.ensures ∙ c.if-out_block.false))
