use Rattle.std.proofs.Common.{◌≡◌, ap₂, ◌∙◌, ◌+◌, ◌-◌, ◌*◌, ◌||◌, min, arith}
use Rattle.std.proofs.lemmas.List.{get_or-take, length-take-le}
use Rattle.arrays.proofs.Loops.{any_none, any_block}
use Rattle.down.proofs.Slices.{any_as, part_long, part_at}
use Rattle.down.proofs.lane_down.Invariants.{bad_at}
use Rattle.down.proofs.lane_down.Goals as goal

pub returns-then-flying-lt-BLOCK : goal.returns-then-flying-lt-BLOCK
returns-then-flying-lt-BLOCK c =
    let a = c.args in
    c.lane_in.ensures ∙ any_as _ (bad_at a.lane.now a.live.now) _ a.flying (length-take-le a.flying a.lane.now (omega arith))
    (λ i h. rw (get_or-take a.flying a.lane.now i 0 h))

pub loop-b-init : goal.loop-b-init
loop-b-init c =
    let z : min 0 c.args.flying ≡ 0 = omega arith in
    rw z (any_none _)

pub loop-b-preserved : goal.loop-b-preserved
loop-b-preserved c =
    let h = c.loop-b in
    let a = c.args in
    let from = c.min-from.result in
    let f : from ≡ min (h.b * 16) (a.flying - 16) = c.min-from.ensures in
    let here : min (h.b * 16) a.flying ≡ h.b * 16 = omega arith in
    let bad = bad_at a.lane.now a.live.now in
    let long = part_long 0 a.lane.now from 16 (omega (arith, f)) in
    ap₂ ◌||◌ (rw here at h.invariant) (c.lane_in-bad.ensures ∙ any_as _ (λ j. bad (from + j)) _ 16 long
    (λ j l. rw (part_at 0 a.lane.now from 16 j l)))
    ∙ any_block bad 16 from (h.b * 16) (min ((h.b + 1) * 16) a.flying) (omega (arith, f)) (omega arith) (omega (arith, f))
