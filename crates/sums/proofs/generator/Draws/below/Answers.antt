-- Cutting x to its remainder before the product changes nothing. Assumes nothing.
use Rattle.std.proofs.Common.{◌≡◌, ℕ, ◌%◌, arith, ap, ◌∙◌}
use borrow.Author.Tests.{eq-eqb, ne_eqb}
use Rattle.sums.specs.Draws.{next_of, below}
use Rattle.sums.proofs.Remainders.{times_mod}
use Rattle.sums.proofs.generator.Draws.below.Goals as goal

pub returns-then-n-eq0-clause-next : goal.returns-then-n-eq0-clause-next
unfolding next_of
returns-then-n-eq0-clause-next c = times_mod c.args.self.now.x 48271 2147483647

pub returns-then-n-eq0-clause-drawn : goal.returns-then-n-eq0-clause-drawn
unfolding below
returns-then-n-eq0-clause-drawn c = rw (eq-eqb c.args.n 0 (omega arith))

pub returns-clause-next : goal.returns-clause-next
unfolding next_of
returns-clause-next c = times_mod c.args.self.now.x 48271 2147483647

below_at : (y n : ℕ) → (n ≡ 0 → ⊥) → y % n ≡ below y n
unfolding below
below_at y n h = rw (ne_eqb n 0 h)

pub returns-clause-drawn : goal.returns-clause-drawn
unfolding next_of
returns-clause-drawn c = below_at _ c.args.n (λ e. omega arith) ∙ ap (λ (y : ℕ). below y c.args.n) (times_mod c.args.self.now.x 48271 2147483647)
