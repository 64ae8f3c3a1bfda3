use Prim.Native.Nat.{◌+◌, ◌*◌}
use native.Mathlib.Omega.{arith}
use mathlib.Core.Path.{◌≡◌, sym, ◌∙◌}
use Rattle.turning.proofs.Turns.{part_start, part_join, part_block, part_all}
use Rattle.turning.proofs.arrows.turn_ends.Goals as goal
use Rattle.turning.proofs.arrows.turn_ends.Goals.{then-block_has, else-block_has}

pub loop-block-init : goal.loop-block-init
loop-block-init c =
    let a = c.args in
    part_start a.plan.now a.v a.full a.arrows.now 0 c.requires.long

pub loop-block-preserved : goal.loop-block-preserved
loop-block-preserved c =
    let h = c.loop-block in
    let a = c.args in
    let on : 16 * (h.block + 1) ≡ 16 * h.block + 16 = omega arith in
    rw on (elim c.if-block_has.branch [
      | then-block_has w ↦ rw w.arrows-is (part_join a.plan.now a.v a.full a.arrows.now h.arrows 0 (16 * h.block) h.invariant (omega arith) _ _ w.turn_block.ensures (omega arith))
      | else-block_has w ↦ rw w.arrows-is (part_block a.plan.now a.v a.full a.arrows.now h.arrows 0 (16 * h.block) h.invariant (omega arith) (sym c.block_has.ensures ∙ w.if-block_has.false))
    ])

pub returns-clause-ends : goal.returns-clause-ends
returns-clause-ends c =
    let a = c.args in
    let h = c.loop-block in
    part_all a.plan.now a.v a.full a.arrows.now (16 * h.block) (omega arith) c.requires.mode h.invariant
