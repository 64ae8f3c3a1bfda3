use Rattle.std.proofs.Common.{false, ◌≡◌, ap₂, ◌∙◌, ◌+◌, ◌-◌, ◌*◌, ◌||◌, min, arith}
use Rattle.std.proofs.lemmas.List.{get_or-take, length-take-le}
use Rattle.arrays.proofs.Loops.{any_none, any_block}
use Rattle.down.proofs.Slices.{any_as, part_long, part_at}
use Rattle.down.proofs.down_marked.Invariants.{bad_at}
use Rattle.down.proofs.down_marked.Goals as goal

pub returns-then-links-lt-BLOCK : goal.returns-then-links-lt-BLOCK
returns-then-links-lt-BLOCK c =
    let a = c.args in
    c.marked_in.ensures ∙ any_as _ (bad_at a.live.now a.mark.now) _ a.links (length-take-le a.links a.live.now (omega arith))
    (λ l h. rw (get_or-take a.links a.live.now l _ h))

pub loop-b-init : goal.loop-b-init
loop-b-init c =
    let z : min 0 c.args.links ≡ 0 = omega arith in
    rw z (any_none _)

pub loop-b-preserved : goal.loop-b-preserved
loop-b-preserved c =
    let h = c.loop-b in
    let a = c.args in
    let from = c.min-from.result in
    let f : from ≡ min (h.b * 16) (a.links - 16) = c.min-from.ensures in
    let here : min (h.b * 16) a.links ≡ h.b * 16 = omega arith in
    let bad = bad_at a.live.now a.mark.now in
    let long = part_long false a.live.now from 16 (omega (arith, f)) in
    ap₂ ◌||◌ (rw here at h.invariant) (c.marked_in-bad.ensures ∙ any_as _ (λ j. bad (from + j)) _ 16 long
    (λ j l.
    let even : 2 * from + 2 * j ≡ 2 * (from + j) = omega arith in
    let odd : 2 * from + (2 * j + 1) ≡ 2 * (from + j) + 1 = omega arith in
    rw (
      part_at false a.live.now from 16 j l,
      part_at false a.mark.now (2 * from) 32 (2 * j) (omega arith),
      part_at false a.mark.now (2 * from) 32 (2 * j + 1) (omega arith),
      even,
      odd,
    )))
    ∙ any_block bad 16 from (h.b * 16) (min ((h.b + 1) * 16) a.links) (omega (arith, f)) (omega arith) (omega (arith, f))
