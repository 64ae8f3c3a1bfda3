-- "A record is well formed when .."
use Rattle.std.specs.Prelude.{ℕ, ◌+◌, Bool, true, not, ◌&&◌, ◌||◌, List, [], ◌∷◌, ltb, leb, eqb, length}
use Rattle.model.specs.Limits.{nodes_most, links_most, flight_most, events_most}
use Rattle.model.specs.Below.{all}
use Rattle.model.specs.State.{end, Packet, State, lanes, live, whole}

-- "nodes not 1 to 64, destination not a node, links over 256": the other side of answer 2
unfoldable pub sized : ℕ → ℕ → ℕ → Bool
sized nodes destination links = leb 1 nodes && leb nodes nodes_most && ltb destination nodes && leb links links_most

-- "the limits hold"
unfoldable pub limits_hold : State → Bool
limits_hold s =
    sized s.net.nodes s.net.destination s.net.links
    && leb (length s.flight) flight_most
    && leb s.counts.events events_most

-- a link names two nodes, and not the same: the other side of answer 3
abbrev pub joins : ℕ → ℕ → ℕ → Bool
joins nodes a b = ltb a nodes && ltb b nodes && not (eqb a b)

-- "every number is in its range": bits and directions always are
unfoldable pub link_formed : State → ℕ → Bool
link_formed s l = joins s.net.nodes (s.net.node (end l 0)) (s.net.node (end l 1))

-- "a marked end is In and on a live link"
unfoldable pub end_formed : State → ℕ → Bool
end_formed s x = not (s.ends.mark x) || not (s.ends.out x) && live s x

-- "packets in flight are on lanes of live links with numbers below admitted"
unfoldable pub packet_formed : State → Packet → Bool
packet_formed s p = ltb p.lane (lanes s) && whole s p.lane && ltb p.number s.counts.admitted

unfoldable pub packets_formed : State → List Packet → Bool
packets_formed s [] = true
packets_formed s (p ∷ ps) = packet_formed s p && packets_formed s ps

-- "admitted and every node's turns are at most events"
unfoldable pub turns_formed : State → ℕ → Bool
turns_formed s v = leb (s.turns v) s.counts.events

-- "and admitted = in flight + delivered + lost + stranded"
unfoldable pub summed : State → Bool
summed s =
    leb s.counts.admitted s.counts.events
    && eqb s.counts.admitted (length s.flight + s.counts.delivered + s.counts.lost + s.counts.stranded)

unfoldable pub well_formed : State → Bool
well_formed s =
    limits_hold s
    && all (link_formed s) s.net.links
    && all (end_formed s) (lanes s)
    && packets_formed s s.flight
    && all (turns_formed s) s.net.nodes
    && summed s
