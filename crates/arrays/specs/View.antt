-- What a reader sees of a record: the entries in use, and nothing past them.
use Rattle.std.specs.Prelude.{ℕ, ◌+◌, ◌-◌, ◌*◌, ◌<◌, Bool, false, cond, ◌||◌, Some, None, List, [], ltb, eqb, get_or}
use Rattle.std.specs.declared.option.Option.{Option}
use Rattle.model.specs.Below.{first}
use Rattle.model.specs.State.{Net, Ends, Packet, Counts, State}
use Rattle.model.specs.Departure.{out_link, has_out, door}
use Rattle.arrays.specs.declared.record.Plan.{Plan}
use Rattle.arrays.specs.declared.record.Arrows.{Arrows}
use Rattle.arrays.specs.declared.record.Tally.{Tally}

-- an array's first k entries; from there on the default
unfoldable pub used {ℓ} : {A : Type ℓ} → ℕ → A → List A → ℕ → A
used k d xs i = cond (ltb i k) (get_or xs i d) d

abbrev pub net_of : ℕ → ℕ → ℕ → List ℕ → Net
net_of nodes destination links node =
    record { nodes = nodes; destination = destination; links = links; node = used (2 * links) 0 node }

abbrev pub ends_of : ℕ → List Bool → List Bool → List Bool → List Bool → Ends
ends_of links out local remote mark =
    record {
      out = used (2 * links) false out;
      local = used (2 * links) false local;
      remote = used (2 * links) false remote;
      mark = used (2 * links) false mark;
    }

abbrev pub packet_at : List ℕ → List ℕ → List Bool → ℕ → Packet
packet_at number lane bit i = record { number = get_or number i 0; lane = get_or lane i 0; bit = get_or bit i false }

abbrev pub counts_of : Tally → Counts
counts_of t =
    record {
      events = t.events;
      admitted = t.admitted;
      delivered = t.delivered;
      lost = t.lost;
      stranded = t.stranded;
    }

-- the arrays of a record, with its sizes and its tally
abbrev pub state_of : Net → List Bool → Ends → List ℕ → List Packet → Counts → State
state_of net live ends turns flight counts =
    record {
      net = net;
      up = used net.links false live;
      ends = ends;
      turns = used net.nodes 0 turns;
      flight = flight;
      counts = counts;
    }

-- what a reader sees of the parts of a record, with some packets in flight
abbrev pub shown : Plan → Arrows → List Packet → Tally → State
shown p a flight t =
    state_of (net_of p.nodes p.destination p.links p.node) a.live (ends_of p.links a.out a.local a.remote a.mark) a.turns flight (counts_of t)

-- the part that a search over the ends reads
abbrev pub ends_seen : Plan → Arrows → State
ends_seen p a = shown p a [] (record { flying = 0; events = 0; admitted = 0; delivered = 0; lost = 0; stranded = 0 })

-- the lowest link that leads out of node v, and the way out, which is the end that it sends from: if there is one
abbrev pub link_out_of : State → ℕ → Option ℕ
link_out_of s v = cond (has_out s v) (Some (first (out_link s v) 0 s.net.links)) None

abbrev pub way_out_of : State → ℕ → Option ℕ
way_out_of s v = cond (has_out s v) (Some (door s v)) None

-- link l has an end at node v; that end, the first where both are there
abbrev pub link_at : List ℕ → ℕ → ℕ → Bool
link_at node v l = eqb (get_or node (2 * l) 0) v || eqb (get_or node (2 * l + 1) 0) v

abbrev pub end_at : List ℕ → ℕ → ℕ → ℕ
end_at node v l = cond (eqb (get_or node (2 * l) 0) v) (2 * l) (2 * l + 1)

-- the first link of node v from link l on, or the number of links
abbrev pub link_from : Plan → ℕ → ℕ → ℕ
link_from p v l = first (link_at p.node v) l (p.links - l)

-- ends name nodes
abbrev pub Named : ℕ → Plan → Type 0
Named nodes p = (x : ℕ) → x < 2 * p.links → get_or p.node x 0 < nodes
