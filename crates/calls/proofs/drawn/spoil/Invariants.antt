-- A turn of a link keeps the list's length. Assumes nothing.
use Rattle.std.proofs.Common.{◌≡◌}
use Rattle.arrayvec.specs.ArrayVec.{array_vec_len}
use Rattle.calls.proofs.drawn.spoil.Given as goal

abbrev pub invariant-loop-i : goal.invariant-loop-i
invariant-loop-i l = array_vec_len l.list ≡ array_vec_len l.initial.list
