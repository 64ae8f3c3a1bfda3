use Prim.Native.Nat.{min}
use native.Mathlib.Omega.{arith}
use mathlib.Core.Path.{◌≡◌, sym, ap, ◌∙◌}
use Rattle.arrays.proofs.Searches.{first_start, first_block, first_end}
use Rattle.packets.specs.Moves.{in_use}
use Rattle.packets.proofs.Uses.{used_past}
use Rattle.packets.proofs.search.oldest.Goals as goal

pub loop-base-init : goal.loop-base-init
loop-base-init c = let z : min 0 c.args.flying ≡ 0 = omega arith in rw z (first_start _ _)

pub loop-base-preserved : goal.loop-base-preserved
loop-base-preserved c =
    let h = c.loop-base in
    let a = c.args in
    let here : min h.base a.flying ≡ h.base = omega arith in
    rw here at h.invariant ∙ first_block _ 16 h.base a.flying (sym c.block_has.ensures ∙ c.if-block_has.false) (omega arith)

pub returns-then-block_has : goal.returns-then-block_has
returns-then-block_has c =
    let h = c.loop-base in
    let a = c.args in
    let here : min h.base a.flying ≡ h.base = omega arith in
    c.oldest_from.ensures ∙ ap (in_use a.flying) (sym (rw here at h.invariant))

pub returns : goal.returns
returns c =
    let h = c.loop-base in
    let a = c.args in
    let here : min h.base a.flying ≡ a.flying = omega arith in
    used_past a.flying (omega (arith, rw here at h.invariant ∙ first_end _ a.flying a.flying (omega arith) (omega arith)))
