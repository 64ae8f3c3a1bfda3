-- A turn event, from what happened and never from the count that the record keeps; and how many a history holds.
use Rattle.std.specs.Prelude.{ℕ, suc, Bool, true, false, not, cond, ◌&&◌, List, [], ◌∷◌, eqb}
use Rattle.std.specs.Bool.{xor}
use Rattle.model.specs.declared.Went.{Went}
use Rattle.model.specs.declared.Went.TheVariants.{Lane, Delivered, Lost, Stranded, Nowhere}
use Rattle.model.specs.Below.{any}
use Rattle.model.specs.State.{opp, Packet, State, lanes}
use Rattle.model.specs.Departure.{live_at, has_live, has_out}
use Rattle.model.specs.Outcome.{Outcome}
use Rattle.model.specs.Lanes.{on_lane, taken}
use Rattle.model.specs.Deliver.{news}
use Rattle.model.specs.Events.{Event, send, deliver, lose, fail, event}
use Rattle.model.specs.History.{History, start, next}

-- lane x after its oldest packet was taken off and, where its bit is new to the Out end that it reaches, heard there
abbrev pub hearing : State → ℕ → List Packet → State
hearing s x [] = s
hearing s x (p ∷ ps) =
    cond (s.ends.out (opp x) && xor p.bit (s.ends.remote (opp x))) (news (taken s x) (opp x)) (taken s x)

-- the state in which an event's packet is about to be passed on: after the news, before the departure update
unfoldable pub about : State → Event → State
about s (send v) = s
about s (deliver x) = hearing s x (on_lane x s.flight)
about s (lose x) = s
about s (fail l) = s

-- the event's packet is passed on from node v
abbrev pub on_lane_out : Went → Bool
on_lane_out (Lane x) = true
on_lane_out Delivered = false
on_lane_out Lost = false
on_lane_out Stranded = false
on_lane_out Nowhere = false

abbrev pub is_at : State → Event → ℕ → Bool
is_at s (send u) v = eqb u v
is_at s (deliver x) v = eqb (s.net.node (opp x)) v
is_at s (lose x) v = false
is_at s (fail l) v = false

-- an arrow of v that was In has become Out
abbrev pub reversed_at : State → State → ℕ → ℕ → Bool
reversed_at before after v x = live_at before v x && not (before.ends.out x) && after.ends.out x

-- A turn event of v: the packet is passed on from v; just before, v holds live links, and none is Out; and arrows of v are reversed.
unfoldable pub turns_in : State → Event → Outcome → ℕ → Bool
turns_in s e o v =
    let t = about s e in
    on_lane_out o.went && is_at s e v && has_live t v && not (has_out t v) && any (reversed_at t o.state v) (lanes t)

abbrev pub is_turn : State → Event → ℕ → Bool
is_turn s e v = turns_in s e (event s e) v

-- the turn events of v in a history
unfoldable pub turn_events : {s : State} → History s → ℕ → ℕ
turn_events (start n d list e) v = 0
turn_events (next {s = s} h e) v = cond (is_turn s e v) (suc (turn_events h v)) (turn_events h v)
