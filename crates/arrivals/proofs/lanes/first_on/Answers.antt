-- The refusals in their order. Assumes nothing.
use Prim.Native.Nat.{◌*◌}
use borrow.Author.Tests.{le-leb, lt-leb}
use Rattle.arrivals.specs.Lanes.{first_on}
use Rattle.arrivals.proofs.lanes.first_on.Goals as goal

pub returns-then-plan-x : goal.returns-then-plan-x
unfolding first_on
returns-then-plan-x c = let a = c.args in rw (le-leb (2 * a.plan.now.links) a.x c.if-plan-x.true)

pub returns-then-not-arrows-x : goal.returns-then-not-arrows-x
unfolding first_on
returns-then-not-arrows-x c = let a = c.args in rw (lt-leb (2 * a.plan.now.links) a.x c.if-plan-x.false, c.if-not-arrows-x.true)

pub returns-in-Some : goal.returns-in-Some
unfolding first_on
returns-in-Some c = let a = c.args in rw (lt-leb (2 * a.plan.now.links) a.x c.if-plan-x.false, c.if-not-arrows-x.false, c.in-Some.is)

pub returns-in-None : goal.returns-in-None
unfolding first_on
returns-in-None c = let a = c.args in rw (lt-leb (2 * a.plan.now.links) a.x c.if-plan-x.false, c.if-not-arrows-x.false, c.in-None.is)
