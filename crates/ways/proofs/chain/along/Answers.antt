use native.Mathlib.Omega.{arith}
use Rattle.arrays.specs.View.{ends_seen}
use Rattle.ways.proofs.Chains.{walked_start, walked_next, walked_on, walked_found, walked_end}
use Rattle.ways.proofs.Doors.{link_found, link_none}
use Rattle.ways.proofs.chain.along.Goals as goal

pub loop-l-init : goal.loop-l-init
loop-l-init c =
    let a = c.args in
    rw c.from-l.ensures (walked_start a.plan.now a.arrows.now a.v a.threads.now c.requires.chain)

pub loop-l-smaller : goal.loop-l-smaller
loop-l-smaller c =
    let a = c.args in
    let h = c.loop-l in
    omega (arith, c.from-l-in-loop-l.ensures, walked_on a.plan.now a.arrows.now a.v a.threads.now c.requires.chain h.l h.invariant (omega arith) c.end_at-x.ensures.is)

pub loop-l-preserved : goal.loop-l-preserved
loop-l-preserved c =
    let a = c.args in
    let h = c.loop-l in
    rw c.from-l-in-loop-l.ensures
    (walked_next a.plan.now a.arrows.now a.v a.threads.now c.requires.chain h.l h.invariant (omega arith) c.end_at-x.ensures.is c.if-arrows-l.false)

pub returns-then-plan-l-clause-is : goal.returns-then-plan-l-clause-is
returns-then-plan-l-clause-is c =
    let a = c.args in
    let h = c.loop-l in
    link_none (ends_seen a.plan.now a.arrows.now) a.v a.plan.now.links (walked_end a.plan.now a.arrows.now a.v h.l h.invariant c.if-plan-l.true) (omega arith)

pub returns-then-arrows-l-clause-is : goal.returns-then-arrows-l-clause-is
returns-then-arrows-l-clause-is c =
    let a = c.args in
    let h = c.loop-l in
    link_found (ends_seen a.plan.now a.arrows.now) a.v h.l
    (walked_found a.plan.now a.arrows.now a.v a.threads.now c.requires.chain h.l h.invariant (omega arith) c.end_at-x.ensures.is c.if-arrows-l.true) (omega arith)
