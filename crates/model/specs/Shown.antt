-- Given states, in which the theorems' own words are held to what they say.
use Rattle.std.specs.Prelude.{ℕ, ◌≤◌, ◌≡◌, true, false, List, [], ◌∷◌}
use Rattle.model.specs.Answers as answers
use Rattle.model.specs.State.{State}
use Rattle.model.specs.Events.{Event, send, deliver, lose, fail}
use Rattle.model.specs.History.{after}
use Rattle.model.specs.Paths.{Joined}
use Rattle.model.specs.File.{Header, opening}
use Rattle.model.specs.Rows.{Change, local_is, remote_is, flight_is, made}
use Rattle.model.specs.Cases.{net, packet, one_link}

abbrev pub ran : Header → List Event → State
ran h es = after (opening h).state es

-- ---- paths: a node that has turned as often as demand 3 lets it; k links lead to the destination, and no fewer
pub record Met (h : Header) (es : List Event) (v k : ℕ) : Type 0 where
  pub accepted : (opening h).answer ≡ answers.done
  pub joined : Joined (ran h es) v k
  pub shortest : (j : ℕ) → Joined (ran h es) v j → k ≤ j
  pub turned : (ran h es).turns v ≡ k

-- nodes 0 to 3 in a row
abbrev pub zigzag : Header
zigzag = net 4 0 (0 ∷ 1 ∷ 2 ∷ 1 ∷ 3 ∷ 2 ∷ [])

abbrev pub two_turns : List Event
two_turns = send 1 ∷ send 2 ∷ deliver 2 ∷ deliver 3 ∷ deliver 5 ∷ deliver 4 ∷ []

-- nodes 0 to 4 in a row
abbrev pub longer_zigzag : Header
longer_zigzag = net 5 0 (0 ∷ 1 ∷ 2 ∷ 1 ∷ 2 ∷ 3 ∷ 3 ∷ 4 ∷ [])

abbrev pub three_turns : List Event
three_turns =
    send 1
    ∷ send 4
    ∷ deliver 7
    ∷ deliver 5
    ∷ deliver 2
    ∷ deliver 3
    ∷ send 3
    ∷ deliver 5
    ∷ deliver 4
    ∷ deliver 6
    ∷ deliver 7
    ∷ []

-- nodes 0 to 4 in a circle: from node 2 two links lead to the destination one way, three the other
abbrev pub circle : Header
circle = net 5 0 (0 ∷ 1 ∷ 2 ∷ 1 ∷ 3 ∷ 2 ∷ 3 ∷ 4 ∷ 0 ∷ 4 ∷ [])

abbrev pub circle_turns : List Event
circle_turns = send 4 ∷ send 1 ∷ deliver 7 ∷ deliver 4 ∷ deliver 2 ∷ deliver 3 ∷ deliver 5 ∷ deliver 4 ∷ []

-- the zigzag, with a link 3 from node 2 to the destination
abbrev pub shortcut : Header
shortcut = net 4 0 (0 ∷ 1 ∷ 2 ∷ 1 ∷ 3 ∷ 2 ∷ 2 ∷ 0 ∷ [])

-- ---- places: packets that pass one another, are delivered, lost, stranded and lost with their link
abbrev pub crowd : Header
crowd = net 5 0 (1 ∷ 0 ∷ 2 ∷ 0 ∷ 3 ∷ 1 ∷ [])

abbrev pub crowd_events : List Event
crowd_events =
    -- 0 goes out on lane 4, 1 on lane 0, and then 0 on lane 0 behind it
    send 3
    ∷ send 1
    ∷ deliver 4
    -- 2 on lane 2; 3 stranded; 4 delivered; 5 on lane 2; 6 on lane 0
    ∷ send 2
    ∷ send 4
    ∷ send 0
    ∷ send 2
    ∷ send 1
    -- 1 delivered, 0 lost, a lane that is empty, 7 stranded, 2 and 5 lost with their link, and that link again
    ∷ deliver 0
    ∷ lose 0
    ∷ lose 1
    ∷ send 4
    ∷ fail 1
    ∷ fail 1
    -- 8 on lane 4, 9 on lane 0, and then 8 on lane 0 behind it
    ∷ send 3
    ∷ send 1
    ∷ deliver 4
    ∷ []

-- ---- agreement: one link with a packet on each lane, in which end 0 has turned and end 1 has heard of it
abbrev pub heard : List Change → State
heard cs =
    made (opening one_link).state
    (local_is 0 true ∷ remote_is 1 true ∷ flight_is (packet 0 0 true ∷ packet 1 1 false ∷ []) ∷ cs)

-- and one in which it has turned again, and end 1 has yet to hear of it: its lane holds an old bit and then a new one
abbrev pub unheard : List Change → State
unheard cs =
    made (opening one_link).state
    (remote_is 1 true ∷ flight_is (packet 0 0 true ∷ packet 2 0 false ∷ packet 1 1 false ∷ []) ∷ cs)
