use Prim.Native.Nat.{◌+◌}
use native.Mathlib.Omega.{arith}
use mathlib.Core.Path.{◌≡◌}
use Rattle.turning.proofs.Turns.{part_start, part_more, part_on}
use Rattle.turning.proofs.arrows.turn_block.Goals as goal
use Rattle.turning.proofs.arrows.turn_block.Goals.{then-plan-y, else-plan-y}

pub loop-x-init : goal.loop-x-init
loop-x-init c =
    let a = c.args in
    let z : a.from + 0 ≡ a.from = omega arith in
    rw z (part_start a.plan.now a.v a.full a.arrows.now a.from c.requires.long)

pub loop-x-preserved : goal.loop-x-preserved
loop-x-preserved c =
    let h = c.loop-x in
    let a = c.args in
    let on : a.from + (h.x + 1) ≡ a.from + h.x + 1 = omega arith in
    rw on (elim c.if-plan-y.branch [
      | then-plan-y w ↦ rw (w.arrows-is, w.turn_end.ensures.is) (part_more a.plan.now a.v a.full a.arrows.now h.arrows a.from (a.from + h.x) h.invariant (omega arith) (rw w.turn_end.ensures.is at w.turn_end.ensures.long) w.if-plan-y.true (omega arith))
      | else-plan-y w ↦ rw w.arrows-is (part_on a.plan.now a.v a.full a.arrows.now h.arrows a.from (a.from + h.x) h.invariant (omega arith) w.if-plan-y.false)
    ])

pub returns : goal.returns
returns c =
    let h = c.loop-x in
    let e : h.x ≡ 16 = omega arith in
    rw e at h.invariant
