-- What was read so far, and what the read after it gave, stand one after the other.
use Rattle.std.proofs.Common.{rules}
use Rattle.streams.proofs.Filled.{front_grows}
use Rattle.streams.proofs.read_full.Goals as goal

pub loop-done-preserved : goal.loop-done-preserved
loop-done-preserved g c =
    (search rules, front_grows _ _ _ c.loop-done.done _ c.in_ok-n.n c.loop-done.part c.read.new.buf c.loop-done.invariant.0 c.in_ok-n.ensures.bound.0 c.loop-done.invariant.1 c.in_ok-n.ensures.bytes.0)
