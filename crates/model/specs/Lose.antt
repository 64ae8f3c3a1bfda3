-- "Lose lane x."
use Rattle.std.specs.Prelude.{ℕ}
use Rattle.model.specs.declared.Went.TheVariants as went
use Rattle.model.specs.State.{State}
use Rattle.model.specs.Outcome.{Outcome, counted, gives}
use Rattle.model.specs.Lanes.{taken, off_lane}

-- "The oldest packet there is lost."
unfoldable pub lose_on : State → ℕ → Outcome
lose_on s x = off_lane s x λ p. gives (counted (taken s x) 0 0 1 0) p.number went.Lost
