use native.Mathlib.Omega.{arith}
use mathlib.Core.Path.{refl, ap, ◌∙◌}
use Rattle.std.specs.Prelude.{Ok}
use Rattle.replay.specs.declared.chunk.Stop.TheVariants.{More, End, Spoilt}
use Rattle.replay.proofs.Chunks.{gathers_none, gathers_more, reads_end, reads_spoilt, gathers_all, gathered}
use Rattle.replay.proofs.chunk.gather.Goals as goal

pub loop-i-init : goal.loop-i-init
loop-i-init c =
    gathers_none c.args.file.now c.args.from c.args.most c.args.kinds.now c.args.arguments.now
    c.requires.0 c.requires.1 c.requires.2 c.requires.3

pub loop-i-preserved : goal.loop-i-preserved
loop-i-preserved c =
    let read = rw c.in-Ok-Some.is at c.in-Ok-Some.field-0-is in
    gathers_more c.args.file.now c.args.from c.args.most _ _ _ _ c.in-Ok-Some.event c.loop-i.invariant (omega arith) c.next_at-got.ensures
    (c.in-Ok-Some.is ∙ ap (λ x. Ok x) read)

pub returns-in-Ok-None : goal.returns-in-Ok-None
returns-in-Ok-None c =
    gathered End c.stopped.ensures c.loop-i.invariant
    (reads_end c.args.file.now c.loop-i.at _ c.next_at-got.ensures
    (c.in-Ok-None.is ∙ ap (λ x. Ok x) (rw c.in-Ok-None.is at c.in-Ok-None.field-0-is)))

pub returns-in-Err : goal.returns-in-Err
returns-in-Err c =
    gathered (Spoilt _) c.stopped-in-Err.ensures c.loop-i.invariant
    (reads_spoilt c.args.file.now c.loop-i.at _ c.next_at-got.ensures _ c.in-Err.is)

pub returns : goal.returns
returns c = gathered More c.stopped-2.ensures (gathers_all _ c.loop-i.invariant (omega arith)) refl
