-- What a lane's first slot says of its packets, and that no packet is on a lane or a link that there is not. Assumes nothing.
use Prim.Native.Nat.{ℕ, ◌≤◌, ◌<◌}
use native.Mathlib.Omega.{arith}
use mathlib.Core.Path.{◌≡◌}
use mathlib.Core.Bool.{Bool}
use mathlib.Core.List.{List, [], ◌∷◌}
use lib.ListN.{get_or}
use Rattle.model.specs.Limits.{links_most, ends_most}
use Rattle.model.specs.State.{Packet}
use Rattle.model.specs.Lanes.{on_lane}
use Rattle.model.specs.Fail.{off}
use Rattle.arrays.specs.View.{packet_at}
use Rattle.queues.specs.Queue.{room, no_lane, InOrder}
use Rattle.queues.proofs.Standing.{flown_in, lane_none, lane_oldest, off_none}

-- a lane without a first slot has no packet
pub queued_none : {lane first last after : List ℕ} {used : ℕ} → InOrder lane first last after used
    → (number : List ℕ) (bit : List Bool) (x : ℕ) → x < ends_most → get_or first x 0 ≡ room → on_lane x (flown_in number lane bit used) ≡ []
queued_none {lane} {used = used} q number bit x l e =
    lane_none x (packet_at number lane bit) used
    (λ j u h. absurd ((q.begins x l).before j (omega arith) u (omega (arith, q.within, e)) h))

-- a lane's first slot holds its oldest packet
pub queued_oldest : {lane first last after : List ℕ} {used : ℕ} → InOrder lane first last after used
    → (number : List ℕ) (bit : List Bool) (x : ℕ) → x < ends_most → get_or first x 0 < room
    → (rest : List Packet) × (on_lane x (flown_in number lane bit used) ≡ packet_at number lane bit (get_or first x 0) ∷ rest)
queued_oldest {lane} {first} {used = used} q number bit x l r =
    let n = q.begins x l in
    let h = n.here r in
    lane_oldest x l (packet_at number lane bit) used (get_or first x 0) h.1 (λ j m. n.before j (omega arith) (omega (arith, h.1)) m) h.2

-- no packet is on a lane past all
pub no_such_lane : (number lane : List ℕ) (bit : List Bool) (used x : ℕ) → ((i : ℕ) → i < used → get_or lane i 0 ≤ no_lane) → ends_most ≤ x
    → on_lane x (flown_in number lane bit used) ≡ []
no_such_lane number lane bit used x named h =
    lane_none x (packet_at number lane bit) used (λ j u e. omega (arith, named j u))

-- none is on a link past all
pub no_such_link : (number lane : List ℕ) (bit : List Bool) (used l : ℕ) → ((i : ℕ) → i < used → get_or lane i 0 ≤ no_lane) → links_most ≤ l
    → off l (flown_in number lane bit used) ≡ flown_in number lane bit used
no_such_link number lane bit used l named h =
    off_none l (packet_at number lane bit) used (λ j u e. omega (arith, named j u))
