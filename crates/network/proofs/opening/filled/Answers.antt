-- The arrays in the record of one node. Assumes nothing.
use Rattle.network.proofs.Filled.{filled_view}
use Rattle.network.proofs.opening.filled.Goals as goal

pub returns : goal.returns
returns c =
    let a = c.args in
    filled_view a.nodes a.destination a.list.now c.requires.0 c.requires.1 c.lone-lone.result c.lone-lone.ensures _ _ _ _
    c.nodes_of.ensures c.live_of.ensures c.side_of.ensures c.side_of-2.ensures
