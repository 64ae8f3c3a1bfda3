-- Two numbers stand for each link so far. Assumes nothing.
use Rattle.std.proofs.Common.{◌≡◌, ◌*◌}
use Rattle.arrayvec.specs.ArrayVec.{array_vec_len}
use Rattle.calls.proofs.drawn.linked.Given as goal

abbrev pub invariant-loop-k : goal.invariant-loop-k
invariant-loop-k l = array_vec_len l.list ≡ 2 * l.k
