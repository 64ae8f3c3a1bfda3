-- Three parts filled. Assumes nothing.
use Rattle.model.specs.Limits.{ends_most, events_most}
use Prim.Native.Nat.{◌+◌}
use Rattle.notes.proofs.Refusals.{filled_one}
use Rattle.notes.proofs.refuse_all.Goals as goal

pub returns : goal.returns
returns c =
    let a = c.args in
    let p = c.requires in (
      filled_one 1 a.count a.answers.now c.fill.new.self p.0 (c.fill.ensures.after (λ y e. e)),
      filled_one events_most a.count a.packets.now c.fill-2.new.self p.1 (c.fill-2.ensures.after (λ y e. e)),
      filled_one (ends_most + 3) a.count a.ways.now c.fill-3.new.self p.2 (c.fill-3.ensures.after (λ y e. e)),
    )
