-- The link's end at the node. Assumes nothing.
use mathlib.Core.Path.{sym, ◌∙◌}
use Rattle.arrays.specs.View.{ends_seen}
use Rattle.arrays.proofs.Ends.{first_is, second_is}
use Rattle.ways.proofs.Doors.{way_found, link_first}
use Rattle.ways.proofs.search.way_out.Goals as goal

pub returns-then-out_at : goal.returns-then-out_at
returns-then-out_at c =
    let a = c.args in
    let s = ends_seen a.plan.now a.arrows.now in
    let l = c.in_ok-l.l in
    way_found s a.v l (link_first s a.v (sym c.in_ok-l.was ∙ c.lowest.ensures.is)) c.in_ok-l.ensures.within
    (sym (first_is a.plan.now a.arrows.now a.v l c.in_ok-l.ensures.within (sym c.out_at.ensures ∙ c.if-out_at.true)))

pub returns : goal.returns
returns c =
    let a = c.args in
    let s = ends_seen a.plan.now a.arrows.now in
    let l = c.in_ok-l.l in
    way_found s a.v l (link_first s a.v (sym c.in_ok-l.was ∙ c.lowest.ensures.is)) c.in_ok-l.ensures.within
    (sym (second_is a.plan.now a.arrows.now a.v l c.in_ok-l.ensures.within (sym c.out_at.ensures ∙ c.if-out_at.false)))
