-- "Checksum" of docs/CALLS.md.
use Rattle.std.specs.Prelude.{ℕ, zero, suc, ◌+◌, ◌*◌, ◌%◌, min, Bool, false, cond, List, [], ◌∷◌, ◌++◌, get_or}
use Rattle.model.specs.Limits.{nodes_most, links_most, flight_most}
use Rattle.arrays.specs.declared.record.Plan.{Plan}
use Rattle.arrays.specs.declared.record.Arrows.{Arrows}
use Rattle.arrays.specs.declared.record.Flight.{Flight}
use Rattle.network.specs.declared.record.Network.{Network}

-- "sum of values: h = 1; for each value h = (h * 48271 + value) mod 4294967291"
unfoldable pub summed : ℕ → ℕ → ℕ
summed h value = (h * 48271 + value) % 4294967291

abbrev pub sum_from : ℕ → List ℕ → ℕ
sum_from h [] = h
sum_from h (v ∷ vs) = sum_from (summed h v) vs

abbrev pub sum_of : List ℕ → ℕ
sum_of values = sum_from 1 values

-- the values of the first k of a kind, one after the other
unfoldable pub each : (ℕ → List ℕ) → ℕ → List ℕ
each f zero = []
each f (suc k) = each f k ++ f k

-- "true is 1, false 0"; an end that is Out has true
abbrev pub bit_of : Bool → ℕ
bit_of b = cond b 1 0

-- 1. "nodes, destination, links, in flight, events, admitted, delivered, lost, stranded, each as it is"
abbrev pub counts_in : Network → List ℕ
counts_in r =
    r.plan.nodes
    ∷ r.plan.destination
    ∷ r.plan.links
    ∷ r.tally.flying
    ∷ r.tally.events
    ∷ r.tally.admitted
    ∷ r.tally.delivered
    ∷ r.tally.lost
    ∷ r.tally.stranded
    ∷ []

-- 2. "for each of the first min(links, 256) links: node of end 0, node of end 1, live; then for end 0 and then end 1: direction (Out 1, In 0), local bit, remote bit, mark"
abbrev pub end_at : Arrows → ℕ → List ℕ
end_at a x =
    bit_of (get_or a.out x false)
    ∷ bit_of (get_or a.local x false)
    ∷ bit_of (get_or a.remote x false)
    ∷ bit_of (get_or a.mark x false)
    ∷ []

abbrev pub link_at : Plan → Arrows → ℕ → List ℕ
link_at p a k =
    (get_or p.node (2 * k) 0 ∷ get_or p.node (2 * k + 1) 0 ∷ bit_of (get_or a.live k false) ∷ [])
    ++ end_at a (2 * k)
    ++ end_at a (2 * k + 1)

-- 3. "for each of the first min(nodes, 64) nodes: turns"
abbrev pub turns_at : Arrows → ℕ → List ℕ
turns_at a v = get_or a.turns v 0 ∷ []

-- 4. "for each of the first min(in flight, 256) packets, oldest first: number, lane, bit"
abbrev pub packet_at : Flight → ℕ → List ℕ
packet_at f j = get_or f.number j 0 ∷ get_or f.lane j 0 ∷ bit_of (get_or f.bit j false) ∷ []

-- "Sum of a record, over these values in this order": the four points
unfoldable pub of_record : Network → ℕ
of_record r =
    sum_of
    (counts_in r
    ++ each (link_at r.plan r.arrows) (min r.plan.links links_most)
    ++ each (turns_at r.arrows) (min r.plan.nodes nodes_most)
    ++ each (packet_at r.flight) (min r.tally.flying flight_most))
