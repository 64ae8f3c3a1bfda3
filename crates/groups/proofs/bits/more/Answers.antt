use native.Mathlib.Omega.{arith}
use Rattle.groups.proofs.Masks.{mark_seven}
use Rattle.groups.proofs.bits.more.Goals as goal

pub overflow_cast-result : goal.overflow_cast-result
overflow_cast-result c = record { fits = omega (arith, mark_seven c.args.value) }

pub returns : goal.returns
returns c = mark_seven c.args.value
