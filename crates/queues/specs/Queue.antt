-- The packets of a burst: in slots, some of them empty again, and in queues by lane.
use Rattle.std.specs.Prelude.{ℕ, suc, ◌*◌, ◌/◌, ◌<◌, ◌≤◌, ◌≡◌, Bool, cond, ◌&&◌, List, [], ◌∷◌, ltb, eqb, length, get_or, set}
use Rattle.model.specs.Limits.{ends_most, flight_most}
use Rattle.model.specs.State.{Packet}
use Rattle.arrays.specs.Flight.{packets}
use Rattle.packets.specs.Moves.{Stay}
use Rattle.queues.specs.declared.queue.Queues.{Queues}

-- slots of a burst; as a slot's number it says that there is none
abbrev pub room : ℕ
room = 2 * flight_most

-- an empty slot is on this lane, which is none
abbrev pub no_lane : ℕ
no_lane = ends_most

-- the packets that still stand
unfoldable pub standing : List Packet → List Packet
standing [] = []
standing (p ∷ ps) = cond (eqb p.lane no_lane) (standing ps) (p ∷ standing ps)

-- the packets in flight, of the slots used
abbrev pub flown : Queues → List Packet
flown q = standing (packets q.number q.lane q.bit q.used)

-- arrays with an entry for each slot
pub record Roomy (q : Queues) : Type 0 where
  pub number_long : length q.number ≡ room
  pub lane_long : length q.lane ≡ room
  pub bit_long : length q.bit ≡ room

-- f is the first slot on lane x from slot i on, or none is
pub record Next (lane : List ℕ) (used x i f : ℕ) : Type 0 where
  pub most : f ≤ room
  pub before : (j : ℕ) → i ≤ j → j < used → j < f → get_or lane j 0 ≡ x → ⊥
  pub here : f < room → (i ≤ f) × (f < used) × (get_or lane f 0 ≡ x)

-- each lane's slots in a queue: the first, after each the next, and the last
pub record InOrder (lane first last after : List ℕ) (used : ℕ) : Type 0 where
  pub within : used ≤ room
  pub named : (i : ℕ) → i < used → get_or lane i 0 ≤ no_lane
  pub begins : (x : ℕ) → x < ends_most → Next lane used x 0 (get_or first x 0)
  pub goes : (i : ℕ) → i < used → get_or lane i 0 < ends_most → Next lane used (get_or lane i 0) (suc i) (get_or after i 0)
  pub ends : (x : ℕ) → x < ends_most → get_or first x 0 < room → (get_or last x 0 < used) × (get_or lane (get_or last x 0) 0 ≡ x)
  pub done : (x j : ℕ) → x < ends_most → get_or first x 0 < room → get_or last x 0 < j → j < used → get_or lane j 0 ≡ x → ⊥
  pub first_long : length first ≡ ends_most
  pub last_long : length last ≡ ends_most
  pub after_long : length after ≡ room

abbrev pub Queued : Queues → Type 0
Queued q = InOrder q.lane q.first q.last q.after q.used

-- other lanes in the slots, and other firsts
abbrev pub relaned : Queues → List ℕ → List ℕ → Queues
relaned q lane first = record { number = q.number; lane = lane; bit = q.bit; first = first; last = q.last; after = q.after; used = q.used }

-- the same packets in other queues
abbrev pub requeued : Queues → List ℕ → List ℕ → List ℕ → Queues
requeued q first last after =
    record { number = q.number; lane = q.lane; bit = q.bit; first = first; last = last; after = after; used = q.used }

-- the same queues, other packets in so many slots
abbrev pub refilled : Queues → List ℕ → List ℕ → List Bool → ℕ → Queues
refilled q number lane bit used =
    record { number = number; lane = lane; bit = bit; first = q.first; last = q.last; after = q.after; used = used }

-- a lane with no slot keeps its last, and the slots from k on keep what comes after them
pub record Idle (k : ℕ) (first last after last' after' : List ℕ) : Type 0 where
  pub lasts : (x : ℕ) → get_or first x 0 ≡ room → get_or last' x 0 ≡ get_or last x 0
  pub afters : (j : ℕ) → k ≤ j → get_or after' j 0 ≡ get_or after j 0

abbrev pub Idles : ℕ → Queues → Queues → Type 0
Idles k q q' = Idle k q'.first q.last q.after q'.last q'.after

-- the slots from k on keep their packets
abbrev pub Kept : ℕ → Queues → Queues → Type 0
Kept k q q' = Stay k q.number q.lane q.bit q'.number q'.lane q'.bit

-- the packet n comes into the next slot: behind the last of lane x, or as its first
pub record Pushed (q : Queues) (n x : ℕ) (b : Bool) (q' : Queues) : Type 0 where
  pub numbered : q'.number ≡ set q.number q.used n
  pub on : q'.lane ≡ set q.lane q.used x
  pub with : q'.bit ≡ set q.bit q.used b
  pub newest : q'.last ≡ set q.last x q.used
  pub leads : q'.first ≡ cond (eqb (get_or q.first x 0) room) (set q.first x q.used) q.first
  pub follows : q'.after ≡ cond (eqb (get_or q.first x 0) room) (set q.after q.used room) (set (set q.after q.used room) (get_or q.last x 0) q.used)
  pub counted : q'.used ≡ suc q.used

-- the slots in use that were on link l are empty, the others as they were
pub record Emptied (l used : ℕ) (old new : List ℕ) : Type 0 where
  pub entry : (j : ℕ) → get_or new j 0 ≡ cond (ltb j used && eqb (get_or old j 0 / 2) l) no_lane (get_or old j 0)
  pub long : length new ≡ length old
