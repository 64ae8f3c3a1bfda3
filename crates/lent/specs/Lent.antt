-- A record whose parts are lent, and a call on it in place.
use Rattle.std.specs.Prelude.{ℕ, ◌≡◌}
use Rattle.model.specs.Answers as answers
use Rattle.arrays.specs.declared.record.Plan.{Plan}
use Rattle.arrays.specs.declared.record.Arrows.{Arrows}
use Rattle.arrays.specs.declared.record.Flight.{Flight}
use Rattle.arrays.specs.declared.record.Tally.{Tally}
use Rattle.arrays.specs.View.{shown}
use Rattle.arrays.specs.Flight.{flying_in}
use Rattle.departs.specs.declared.tally.Step.{Step}
use Rattle.departs.specs.Steps.{outcome_of}
use Rattle.steps.specs.Call.{call}

pub record LentPost (p : Plan) (a : Arrows) (f : Flight) (t : Tally) (kind argument : ℕ) (a' : Arrows) (f' : Flight) (r : Step) : Type 0 where
  -- the answer, the packet, where it went, and the state that a reader sees
  pub outcome : outcome_of (shown p a' (flying_in f' r.tally.flying) r.tally) r ≡ call (shown p a (flying_in f t.flying) t) kind argument
  -- "Every refusal leaves the record and every lent byte unchanged"
  pub unchanged : (r.answer ≡ answers.done → ⊥) → (a' ≡ a) × (f' ≡ f) × (r.tally ≡ t)
