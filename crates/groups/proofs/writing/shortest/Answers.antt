-- By how many groups the number has. Assumes nothing.
use Rattle.groups.proofs.Splitting.{one, two, three}
use Rattle.groups.proofs.writing.shortest.Goals as goal

pub returns-then-high-eq0 : goal.returns-then-high-eq0
returns-then-high-eq0 c = one c.args.value _ _ c.rest-high.ensures c.if-high-eq0.true c.last.ensures

pub returns-then-top-eq0 : goal.returns-then-top-eq0
returns-then-top-eq0 c =
    two c.args.value _ _ c.rest-high.ensures c.if-high-eq0.false c.more.ensures
    _ _ c.rest-top.ensures c.if-top-eq0.true c.last-then-top-eq0.ensures

pub returns : goal.returns
returns c =
    three c.args.value _ _ c.rest-high.ensures c.if-high-eq0.false c.more-2.ensures c.requires
    _ _ _ c.rest-top.ensures c.if-top-eq0.false c.more-3.ensures c.last-2.ensures
