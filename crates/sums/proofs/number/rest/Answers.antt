-- By the two cases of n. Assumes nothing.
use native.Mathlib.Omega.{arith}
use borrow.Author.Tests.{eq-eqb, ne_eqb}
use Rattle.sums.specs.Draws.{below}
use Rattle.sums.proofs.number.rest.Goals as goal

pub returns-then-n-eq0 : goal.returns-then-n-eq0
unfolding below
returns-then-n-eq0 c = rw (eq-eqb c.args.n 0 (omega arith))

pub returns : goal.returns
unfolding below
returns c = rw (ne_eqb c.args.n 0 (λ e. omega arith))
