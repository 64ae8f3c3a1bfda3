use Rattle.std.proofs.Common.{◌*◌, refl}
use Rattle.pairs.proofs.ClosedWalks.{leads_none, leads_more}
use Rattle.pairs.proofs.walks.longer.Goals as goal

pub loop-l-init : goal.loop-l-init
loop-l-init c = leads_none c.args.list.now c.args.shorter.now

pub loop-l-preserved : goal.loop-l-preserved
loop-l-preserved c =
    let h = c.loop-l in
    leads_more c.args.list.now c.args.shorter.now h.l _ _ h.sets refl refl (c.requires (2 * h.l)) h.invariant
