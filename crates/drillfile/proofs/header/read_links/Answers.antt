use Prim.Native.Nat.{◌*◌}
use native.Mathlib.Omega.{arith}
use Rattle.entries.proofs.EventRead.{as_had, as_spoilt}
use Rattle.drillfile.proofs.NodeList.{all_read, cut_off, one_more}
use Rattle.drillfile.proofs.HeaderRead.{list_cut, list_whole}
use Rattle.drillfile.proofs.header.read_links.Goals as goal

pub returns-in_default : goal.returns-in_default
returns-in_default c =
    let a = c.args in
    let file = a.file.now in
    let so_far = c.loop-x.invariant in
    let cut = as_spoilt file _ _ so_far.inside c.read_number.ensures c.in_default.is in
    list_cut a.sizes.nodes a.sizes.destination a.sizes.links file a.at _ a.from _
    (cut_off file a.at (2 * a.sizes.links) _ _ _ so_far (omega arith) cut)
    c.refused.ensures

pub loop-x-preserved : goal.loop-x-preserved
loop-x-preserved c =
    let a = c.args in
    let file = a.file.now in
    let node = as_had file _ _ c.read_number.ensures c.in-Ok.is in
    one_more file a.at (2 * a.sizes.links) _ _ _ c.loop-x.invariant (omega arith) _ _ (omega (arith, c.requires.1)) node

pub returns : goal.returns
returns c =
    let a = c.args in
    let file = a.file.now in
    list_whole a.sizes.nodes a.sizes.destination a.sizes.links file a.at _ a.from _ _
    (all_read file a.at (2 * a.sizes.links) _ _ _ c.loop-x.invariant (omega arith))
    c.open_list.ensures
