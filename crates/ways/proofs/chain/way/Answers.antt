-- Over all links, or along the chain and then the link's end. Assumes nothing.
use mathlib.Core.Path.{sym, ◌∙◌}
use Rattle.arrays.specs.View.{ends_seen}
use Rattle.ways.proofs.Chains.{leads_by}
use Rattle.ways.proofs.Doors.{leads, way_found, link_first}
use Rattle.ways.proofs.chain.way.Goals as goal

pub returns-in-Some-along : goal.returns-in-Some-along
returns-in-Some-along c =
    let a = c.args in
    let s = ends_seen a.plan.now a.arrows.now in
    let l = c.in-Some-along.l in
    let q = link_first s a.v (sym c.in-Some-along.is ∙ c.along.ensures.is) in
    let inside = c.in-Some-along.ensures.within in
    way_found s a.v l q inside
    (c.end_at.ensures.is
    ∙ leads_by a.plan.now a.arrows.now a.v c.in-Some.threads.now (rw c.in-Some.is at c.requires.chain) l inside (leads s a.v l q inside))
