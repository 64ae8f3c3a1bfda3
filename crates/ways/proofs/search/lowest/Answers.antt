-- No link of the blocks passed leads out. Assumes nothing.
use native.Mathlib.Omega.{arith}
use mathlib.Core.Path.{sym, ◌∙◌}
use Rattle.arrays.specs.View.{ends_seen}
use Rattle.arrays.proofs.Searches.{first_yes, first_no, first_end}
use Rattle.arrays.proofs.Ends.{passes, link_is}
use Rattle.ways.proofs.Doors.{link_found, link_none}
use Rattle.ways.proofs.search.lowest.Goals as goal
use Rattle.ways.proofs.search.lowest.Goals.{then-out_at-via-then-out_at, then-out_at-via-else-out_at+then-out_at-2}

pub loop-l-init : goal.loop-l-init
loop-l-init c =
    let a = c.args in
    let f = c.passed-l in
    (f.ensures.within, passes a.plan.now a.arrows.now a.v f.result f.ensures.within f.ensures.none)

pub loop-l-preserved : goal.loop-l-preserved
loop-l-preserved c =
    let h = c.loop-l in
    let a = c.args in (
      omega arith,
      h.invariant.1 ∙ first_no _ h.l a.plan.now.links (omega arith)
          (sym (link_is a.plan.now a.arrows.now a.v h.l (omega arith))
          ∙ rw (sym c.out_at.ensures ∙ c.if-out_at.false, sym c.out_at-else-out_at.ensures ∙ c.if-out_at-2.false)),
    )

pub returns-then-plan-l-clause-is : goal.returns-then-plan-l-clause-is
returns-then-plan-l-clause-is c =
    let h = c.loop-l in
    let a = c.args in
    link_none (ends_seen a.plan.now a.arrows.now) a.v a.plan.now.links (sym (h.invariant.1 ∙ first_end _ h.l a.plan.now.links h.invariant.0 c.if-plan-l.true)) (omega arith)

pub returns-then-out_at-clause-is : goal.returns-then-out_at-clause-is
returns-then-out_at-clause-is c =
    let h = c.loop-l in
    let a = c.args in
    link_found (ends_seen a.plan.now a.arrows.now) a.v h.l
    (sym (h.invariant.1 ∙ first_yes _ h.l a.plan.now.links (omega arith)
    (sym (link_is a.plan.now a.arrows.now a.v h.l (omega arith))
    ∙ elim c.then-out_at.branch [
      | then-out_at-via-then-out_at w ↦ rw (sym c.out_at.ensures ∙ w.if-out_at.true)
      | then-out_at-via-else-out_at+then-out_at-2 w ↦ rw (sym c.out_at.ensures ∙ w.if-out_at.false, sym w.out_at-else-out_at.ensures ∙ w.if-out_at-2.true)
    ]))) (omega arith)
