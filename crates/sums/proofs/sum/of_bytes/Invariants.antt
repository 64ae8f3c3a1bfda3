-- The bytes so far are summed. Assumes nothing.
use mathlib.Core.Path.{◌≡◌}
use lib.ListN.{take}
use Rattle.sums.specs.Sums.{sum_of}
use Rattle.sums.proofs.sum.of_bytes.Given as goal

abbrev pub invariant-loop-byte : goal.invariant-loop-byte
invariant-loop-byte l = l.sum ≡ sum_of (take l.byte-index l.bytes)
