use Prim.Native.Nat.{◌+◌}
use native.Mathlib.Omega.{arith}
use mathlib.Core.Path.{◌≡◌, sym, ap}
use lib.Dec.{eqb}
use Rattle.arrays.proofs.Parts.{part_long, part_at}
use Rattle.arrays.proofs.Searches.{any_none, any_more}
use Rattle.arrays.proofs.block.block_has.Goals as goal

pub loop-x-init : goal.loop-x-init
loop-x-init c = sym (any_none _)

pub loop-x-preserved : goal.loop-x-preserved
loop-x-preserved c =
    let h = c.loop-x in
    let a = c.args in
    any_more _ h.x-index h.invariant
    (ap (λ n. eqb n a.number) (part_at a.numbers.now a.from (a.from + 16) h.x-index 0 (omega (arith, part_long a.numbers.now a.from (a.from + 16) (omega arith) c.requires))))

pub returns : goal.returns
returns c =
    let h = c.loop-x in
    let a = c.args in
    let e : h.x-index ≡ 16 = omega (arith, part_long a.numbers.now a.from (a.from + 16) (omega arith) c.requires) in
    rw e at h.invariant
