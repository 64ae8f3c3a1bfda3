use Prim.Native.Nat.{◌+◌}
use native.Mathlib.Omega.{arith}
use mathlib.Core.Path.{◌≡◌, subst}
use borrow.Author.Rules.{rules}
use Rattle.letters.specs.Digits.{joined}
use Rattle.replay.specs.Chunks.{Stopped}
use Rattle.letters.proofs.Pending.{room_all, last}
use Rattle.replay.proofs.Running.{starts, recount, few_kinds, as_many, ends, spoils, few_nodes, within, chunk_room, goes_on}
use Rattle.replay.proofs.run.run.Goals as goal

pub loop-page-init : goal.loop-page-init
loop-page-init c =
    (starts c.args.file.now c.args.page c.args.opened c.args.from c.requires, omega arith, search rules, search rules)

pub gather-gathered-requires : goal.gather-gathered-requires
gather-gathered-requires c =
    let inv = c.loop-page.invariant in
    (inv.0.inside, omega arith, inv.2, inv.3)

pub play-played-requires : goal.play-played-requires
play-played-requires c =
    let inv = c.loop-page.invariant in
    let run = inv.0 in
    let g = c.gather-gathered.ensures.gathers in
    record {
      formed = run.formed;
      same = as_many g;
      early = omega (arith, within run);
      few = omega (arith, few_kinds g, inv.1);
      room = chunk_room run g;
    }

pub loop-page-smaller : goal.loop-page-smaller
loop-page-smaller c =
    let gathered = c.gather-gathered.ensures in
    let full = subst (Stopped _ _ _ _) c.in-More.is gathered.stopped in
    omega (arith, gathered.gathers.moved, gathered.gathers.inside, full, c.loop-page.invariant.1)

pub loop-page-preserved : goal.loop-page-preserved
loop-page-preserved c =
    let loop = c.loop-page in
    let gathered = c.gather-gathered.ensures in
    let g = gathered.gathers in
    let full = subst (Stopped _ _ _ _) c.in-More.is gathered.stopped in
    let next : joined loop.thousands loop.rest + c.gather-gathered.result.count ≡ joined (loop.thousands + 1) 0 = omega (arith, full, loop.invariant.1) in
    (recount next (goes_on loop.invariant.0 g c.play-played.ensures), omega arith, g.kinds_size, g.arguments_size)

pub ending-requires : goal.ending-requires
ending-requires c =
    let gathered = c.gather-gathered.ensures in
    let run = goes_on c.loop-page.invariant.0 gathered.gathers c.play-played.ensures in
    let stop = subst (Stopped _ _ _ _) c.in-End.is gathered.stopped in
    (room_all (ends run stop), few_nodes run)

pub returns-in-End : goal.returns-in-End
returns-in-End c =
    let gathered = c.gather-gathered.ensures in
    let run = goes_on c.loop-page.invariant.0 gathered.gathers c.play-played.ensures in
    let stop = subst (Stopped _ _ _ _) c.in-End.is gathered.stopped in
    last (ends run stop) c.ending.ensures

pub spoilt-requires : goal.spoilt-requires
spoilt-requires c =
    let gathered = c.gather-gathered.ensures in
    let run = goes_on c.loop-page.invariant.0 gathered.gathers c.play-played.ensures in
    let stop = subst (Stopped _ _ _ _) c.in-Spoilt.is gathered.stopped in
    (room_all (spoils run _ stop), few_nodes run)

pub returns-in-Spoilt : goal.returns-in-Spoilt
returns-in-Spoilt c =
    let gathered = c.gather-gathered.ensures in
    let run = goes_on c.loop-page.invariant.0 gathered.gathers c.play-played.ensures in
    let stop = subst (Stopped _ _ _ _) c.in-Spoilt.is gathered.stopped in
    last (spoils run _ stop) c.spoilt.ensures
