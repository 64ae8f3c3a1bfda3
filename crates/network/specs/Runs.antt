-- The records that a caller can come to hold, and what is promised of them.
use Rattle.std.specs.Prelude.{ℕ, zero, suc, ◌≤◌, ◌<◌, ◌≡◌, ◌⊎◌, true, false, List, [], ◌∷◌, ◌++◌, map, length, get_or}
use Rattle.std.proofs.Math.Option.{Option, none, some}
use Rattle.model.specs.Answers as answers
use Rattle.model.specs.State.{State, opp, lanes, whole}
use Rattle.model.specs.Send.{send_to}
use Rattle.model.specs.Deliver.{deliver_on}
use Rattle.model.specs.Lose.{lose_on}
use Rattle.model.specs.Fail.{fail_of}
use Rattle.model.specs.Events.{Event, send, deliver, lose, fail}
use Rattle.model.specs.File.{of_kind}
use Rattle.model.specs.History.{History, start, next}
use Rattle.model.specs.Paths.{Joined}
use Rattle.model.specs.Turns.{turn_events}
use Rattle.model.specs.Agreement.{Agree, Untold}
use Rattle.model.specs.Places.{placed, count_in_all, sent_as}
use Rattle.network.specs.declared.record.Network.{Network}
use Rattle.network.specs.declared.record.Moved.{Moved}
use Rattle.network.specs.declared.record.Burst.{Burst}
use Rattle.network.specs.declared.opening.Opened.{Opened}
use Rattle.network.specs.View.{view}
use Rattle.network.specs.Opening.{OpenPost}
use Rattle.steps.specs.Call.{call}
use Rattle.network.specs.Calls.{CallPost, BurstPost}

-- the event of a call by kind; a kind that is none makes no event
abbrev pub event_if : Option (ℕ → Event) → ℕ → List Event
event_if none a = []
event_if (some make) a = make a ∷ []

unfoldable pub events_in : List ℕ → List ℕ → ℕ → List Event
events_in kinds arguments zero = []
events_in kinds arguments (suc k) = events_in kinds arguments k ++ event_if (of_kind (get_or kinds k 0)) (get_or arguments k 0)

-- an opening that answered 0, then calls, accepted or refused, each with an outcome that its contract allows; and their events in order
pub data Run : Network → List Event → Type 0 where
  opened : (nodes destination : ℕ) (list : List ℕ) (r : Opened) → OpenPost nodes destination list r → r.answer ≡ answers.done
      → Run r.network []
  sent : (n : Network) (es : List Event) → Run n es → (v : ℕ) (r : Moved) → CallPost n (send_to (view n) v) r
      → Run r.network (es ++ (send v ∷ []))
  delivered : (n : Network) (es : List Event) → Run n es → (x : ℕ) (r : Moved) → CallPost n (deliver_on (view n) x) r
      → Run r.network (es ++ (deliver x ∷ []))
  lost : (n : Network) (es : List Event) → Run n es → (x : ℕ) (r : Moved) → CallPost n (lose_on (view n) x) r
      → Run r.network (es ++ (lose x ∷ []))
  failed : (n : Network) (es : List Event) → Run n es → (l : ℕ) (r : Moved) → CallPost n (fail_of (view n) l) r
      → Run r.network (es ++ (fail l ∷ []))
  applied : (n : Network) (es : List Event) → Run n es → (kind a : ℕ) (r : Moved) → CallPost n (call (view n) kind a) r
      → Run r.network (es ++ event_if (of_kind kind) a)
  burst : (n : Network) (es : List Event) → Run n es → (kinds arguments an ps ws an' ps' ws' : List ℕ) (r : Burst)
      → BurstPost n kinds arguments an ps ws an' ps' ws' r → Run r.network (es ++ events_in kinds arguments r.count)

-- the events of a history, in order
unfoldable pub events_of : {s : State} → History s → List Event
events_of (start nodes destination list e) = []
events_of (next h e) = events_of h ++ (e ∷ [])

-- what holds of a state after these events: it has a history of just them, and so all that histories promise
pub record Kept (s : State) (es : List Event) : Type 0 where
  pub history : History s
  pub these : events_of history ≡ es
  -- demand 3, and the kept number is the number of turn events
  pub bounded : (v k : ℕ) → Joined s v k → s.turns v ≤ k
  pub counted : (v : ℕ) → s.turns v ≡ turn_events history v
  pub destination : s.turns s.net.destination ≡ 0
  -- the two ends of each live link
  pub never_both_in : (x : ℕ) → x < lanes s → whole s x ≡ true → s.ends.out x ≡ false → s.ends.out (opp x) ≡ true
  pub agree : (x : ℕ) → x < lanes s → whole s x ≡ true → s.ends.out x ≡ true → s.ends.out (opp x) ≡ false → Agree s x (opp x)
  pub untold : (x : ℕ) → x < lanes s → whole s x ≡ true → s.ends.out x ≡ true → s.ends.out (opp x) ≡ true
      → Untold s x (opp x) ⊎ Untold s (opp x) x
  -- the four places
  pub once : (n : ℕ) → n < s.counts.admitted → count_in_all n (placed history) ≡ 1
  pub nowhere : (n : ℕ) → s.counts.admitted ≤ n → count_in_all n (placed history) ≡ 0
  pub flying_all : map sent_as s.flight ≡ (placed history).flying
  pub in_all : s.counts.delivered ≡ length (placed history).delivered
  pub lost_all : s.counts.lost ≡ length (placed history).lost
  pub stranded_all : s.counts.stranded ≡ length (placed history).stranded

-- "The same of the code": for any `open` that answered 0 and any list of calls, each with an outcome that its contract allows
abbrev pub CodeKeeps : Type 0
CodeKeeps = (n : Network) (es : List Event) → Run n es → Kept (view n) es
