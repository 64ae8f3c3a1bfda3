-- An opening of no nodes is refused. Assumes nothing.
use Rattle.drillfile.proofs.HeaderRead.{refused_is}
use Rattle.drillfile.proofs.header.refused.Goals as goal

pub returns : goal.returns
returns c = refused_is _ c.open-opened.ensures c.args.refusal c.args.from
