-- "Take an accepted network, then any sequence of sends, deliveries, losses and link failures."
use Rattle.std.specs.Prelude.{ℕ, ◌≡◌, List, [], ◌∷◌}
use Rattle.model.specs.Answers as answers
use Rattle.model.specs.State.{State}
use Rattle.model.specs.Events.{Event, event}
use Rattle.model.specs.Opening.{open_from}

-- the states that can be met: an accepted opening's, and what an event, accepted or refused, leaves of one
pub data History : State → Type 0 where
  start : (nodes destination : ℕ) (list : List ℕ) → (open_from nodes destination list).answer ≡ answers.done
      → History (open_from nodes destination list).state
  next : {s : State} → History s → (e : Event) → History (event s e).state

-- the state after a run of events
unfoldable pub after : State → List Event → State
after s [] = s
after s (e ∷ es) = after (event s e).state es

-- a history goes on with a run of events
unfoldable pub history_after : {s : State} → History s → (es : List Event) → History (after s es)
unfolding after
history_after {s = s} h [] = h
history_after {s = s} h (e ∷ es) = history_after {s = (event s e).state} (next h e) es

-- the state of an accepted opening after a run of events
pub record Ran (s : State) : Type 0 where
  pub nodes : ℕ
  pub destination : ℕ
  pub list : List ℕ
  pub accepted : (open_from nodes destination list).answer ≡ answers.done
  pub events : List Event
  pub state : after (open_from nodes destination list).state events ≡ s
