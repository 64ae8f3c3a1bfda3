-- "The events": one step for all four.
use Rattle.std.specs.Prelude.{ℕ}
use Rattle.model.specs.State.{State}
use Rattle.model.specs.Outcome.{Outcome}
use Rattle.model.specs.Send.{send_to}
use Rattle.model.specs.Deliver.{deliver_on}
use Rattle.model.specs.Lose.{lose_on}
use Rattle.model.specs.Fail.{fail_of}

pub data Event : Type 0 where
  send : ℕ → Event
  deliver : ℕ → Event
  lose : ℕ → Event
  fail : ℕ → Event

-- an event, accepted or refused
unfoldable pub event : State → Event → Outcome
event s (send v) = send_to s v
event s (deliver x) = deliver_on s x
event s (lose x) = lose_on s x
event s (fail l) = fail_of s l
