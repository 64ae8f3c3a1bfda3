use native.Mathlib.Omega.{arith}
use Rattle.drillfile.proofs.Runs.{summed_none, summed_more, summed_fits, summed_all}
use Rattle.drillfile.proofs.writing.total_width.Goals as goal

pub loop-n-init : goal.loop-n-init
loop-n-init c = summed_none c.args.list.now

pub width-sum-requires : goal.width-sum-requires
width-sum-requires c = c.requires c.loop-n.n-index

pub overflow_add-sum : goal.overflow_add-sum
overflow_add-sum c =
    let most = summed_fits c.args.list.now _ _ c.loop-n.invariant c.loop-n-test.true c.width-sum.ensures in
    record { fits = omega (arith, most, c.well_formed.0.1) }

pub loop-n-preserved : goal.loop-n-preserved
loop-n-preserved c = summed_more c.args.list.now _ _ c.loop-n.invariant c.loop-n-test.true c.width-sum.ensures

pub returns : goal.returns
returns c = summed_all c.args.list.now _ _ c.loop-n.invariant c.loop-n-test.false
