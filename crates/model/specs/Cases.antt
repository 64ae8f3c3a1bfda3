-- "Both sides of each edge (P: proved)": P1 to P12 as one table, and beside it a table of further cases.
use Rattle.std.specs.Prelude.{ℕ, Bool, true, false, List, [], ◌∷◌, ◌++◌, replicate}
use Prim.Native.String.{String}
use Rattle.std.proofs.Math.Option.{none, some}
use Rattle.model.specs.declared.Handled.TheVariants.{Packet, Nothing}
use Rattle.model.specs.declared.Went.TheVariants.{Lane, Delivered, Lost, Stranded, Nowhere}
use Rattle.model.specs.Limits.{ends_most, text_most}
use Rattle.model.specs.State.{Packet as Packets, Counts}
use Rattle.model.specs.Events.{send, deliver, lose, fail}
use Rattle.model.specs.Number.{had, refused}
use Rattle.model.specs.File.{Header, Drill}
use Rattle.model.specs.Text.{ascii}
use Rattle.model.specs.Rows.{nodes_are, destination_is, links_are, node_is, turns_are, up_is, out_is, mark_is, flight_is, counts_are, unchanged, unreversed, gone, turned, opens, last, all_of, on_made, formed, judges, writes, reads, reads_at, reads_event_at, puts_event, puts_header, writes_drill, pieces, file, runs, prints, limit, answers, gave, leaves, bytes, number, got, told, wrote, is, Case, row}

abbrev pub net : ℕ → ℕ → List ℕ → Header
net nodes destination list = record { nodes = nodes; destination = destination; list = list }

abbrev pub count : ℕ → ℕ → ℕ → ℕ → ℕ → Counts
count events admitted delivered lost stranded =
    record { events = events; admitted = admitted; delivered = delivered; lost = lost; stranded = stranded }

-- a packet in flight
abbrev pub packet : ℕ → ℕ → Bool → Packets
packet n x b = record { number = n; lane = x; bit = b }

-- "Input D1, decimal bytes"
abbrev pub d1 : List ℕ
d1 = 3 ∷ 0 ∷ 3 ∷ 1 ∷ 2 ∷ 1 ∷ 0 ∷ 2 ∷ 0 ∷ 4 ∷ 2 ∷ 1 ∷ 1 ∷ 1 ∷ 2 ∷ 2 ∷ 0 ∷ 2 ∷ 1 ∷ 2 ∷ 1 ∷ 2 ∷ 2 ∷ 2 ∷ 2 ∷ 2 ∷ 2 ∷ []

-- one link, from node 1 to the destination
abbrev pub one_link : Header
one_link = net 2 0 (1 ∷ 0 ∷ [])

-- a node 1 with the link 0 from node 2 (A) and the link 1 to node 3 (B), which node 3 turns
abbrev pub two_ways : Header
two_ways = net 4 0 (2 ∷ 1 ∷ 1 ∷ 3 ∷ [])

-- a node 1 with links to nodes 2 and 3, which both turn
abbrev pub all_out : Header
all_out = net 4 0 (1 ∷ 2 ∷ 1 ∷ 3 ∷ [])

-- one link, to node 1 from the destination
abbrev pub away_from : Header
away_from = net 2 0 (0 ∷ 1 ∷ [])

-- a node 1 with a link to the destination, a node 2 with none: 3 packets stranded, 1 delivered, 6 sent, 2 of these lost
abbrev pub strands : List ℕ
strands =
    3 ∷ 0 ∷ 1 ∷ 1 ∷ 0 ∷ 1 ∷ 2 ∷ 1 ∷ 2 ∷ 1 ∷ 2 ∷ 1 ∷ 0 ∷ 1 ∷ 1 ∷ 1 ∷ 1 ∷ 1 ∷ 1 ∷ 1 ∷ 1 ∷ 1 ∷ 1 ∷ 1 ∷ 1 ∷ 3 ∷ 0 ∷ 3 ∷ 0 ∷ []

abbrev pub strands_text : String
strands_text =
    "1 0 0 end\n2 0 1 end\n3 0 2 end\n4 0 3 in\n5 0 4 0\n6 0 5 0\n7 0 6 0\n8 0 7 0\n9 0 8 0\n10 0 9 0\n11 0 4 lost\n12 0 5 lost\ntotal 10 1 2 3 4\nturns 0 0 0\n"

-- a send at node 1 and a delivery of lane 128 on one link
abbrev pub two_events : Drill
two_events = record { header = one_link; events = send 1 ∷ deliver 128 ∷ [] }

abbrev pub cases : List Case
cases =
    -- P1 1 node, destination 0, no link: 0.
    row (opens (net 1 0 [])) (answers 0 0)
    -- P2 65 nodes: 2; 64: not 2.
    ∷ row (opens (net 65 0 [])) (answers 2 0)
    ∷ row (opens (net 64 0 [])) (answers 0 0)
    -- P3 destination equal to the node count: 2.
    ∷ row (opens (net 3 3 [])) (answers 2 0)
    -- P4 link 1 to 1 in three nodes: 3.
    ∷ row (opens (net 3 0 (1 ∷ 1 ∷ []))) (answers 3 0)
    -- P5 links 0 to 1 and 1 to 0: 4; 0 to 1 twice: 0.
    ∷ row (opens (net 2 0 (0 ∷ 1 ∷ 1 ∷ 0 ∷ []))) (answers 4 0)
    ∷ row (opens (net 2 0 (0 ∷ 1 ∷ 0 ∷ 1 ∷ []))) (answers 0 0)
    -- P6 127 is 7F, 128 is 80 01.
    ∷ row (writes 127) (bytes (0x7f ∷ []))
    ∷ row (writes 128) (bytes (0x80 ∷ 0x01 ∷ []))
    -- P7 80 00: 11; FF FF 7F is 2,097,151; FF FF FF 01: 11.
    ∷ row (reads (0x80 ∷ 0x00 ∷ [])) (number (refused 11 0))
    ∷ row (reads (0xff ∷ 0xff ∷ 0x7f ∷ [])) (number (had 0x1f_ffff 3))
    ∷ row (reads (0xff ∷ 0xff ∷ 0xff ∷ 0x01 ∷ [])) (number (refused 11 0))
    -- P8 send at a node without live links, not the destination: stranded, turns 0.
    ∷ row (last one_link (fail 0 ∷ []) (send 1)) (gave 0 (Packet 0) Stranded (0 ∷ 0 ∷ []) (count 2 1 0 0 1))
    -- P9 send with 256 in flight: 9 at a linked node, 0 at the destination.
    ∷ row (last one_link (replicate 256 (send 1)) (send 1))
    (gave 9 Nothing Nowhere (0 ∷ 0 ∷ []) (count 256 256 0 0 0))
    ∷ row (last one_link (replicate 256 (send 1)) (send 0))
    (gave 0 (Packet 256) Delivered (0 ∷ 0 ∷ []) (count 257 257 1 0 0))
    -- P10 a node whose live links are A, In and marked, and B, turned In by news: only A turns, then only B is marked.
    ∷ row (all_of two_ways (send 3 ∷ deliver 3 ∷ []))
    (leaves
    (record {
      nodes = 4;
      destination = 0;
      links = 2;
      node = 2 ∷ 1 ∷ 1 ∷ 3 ∷ [];
      up = true ∷ true ∷ [];
      out = true ∷ true ∷ false ∷ true ∷ [];
      local = false ∷ true ∷ false ∷ true ∷ [];
      remote = false ∷ false ∷ true ∷ false ∷ [];
      mark = false ∷ false ∷ true ∷ false ∷ [];
      turns = 0 ∷ 1 ∷ 0 ∷ 1 ∷ [];
      flight = record { number = 0; lane = 1; bit = true } ∷ [];
      counts = count 2 1 0 0 0;
    }))
    -- P11 a node whose links were all Out at opening and are now all In by news: all turn, no mark is left.
    ∷ row (all_of all_out (send 2 ∷ send 3 ∷ deliver 1 ∷ deliver 3 ∷ []))
    (leaves
    (record {
      nodes = 4;
      destination = 0;
      links = 2;
      node = 1 ∷ 2 ∷ 1 ∷ 3 ∷ [];
      up = true ∷ true ∷ [];
      out = true ∷ true ∷ true ∷ true ∷ [];
      local = true ∷ true ∷ true ∷ true ∷ [];
      remote = true ∷ false ∷ true ∷ false ∷ [];
      mark = false ∷ false ∷ false ∷ false ∷ [];
      turns = 0 ∷ 1 ∷ 1 ∷ 1 ∷ [];
      flight = record { number = 0; lane = 2; bit = false } ∷ record { number = 1; lane = 0; bit = true } ∷ [];
      counts = count 4 2 0 0 0;
    }))
    -- P12 D1's final record.
    ∷ row (runs d1)
    (leaves
    (record {
      nodes = 3;
      destination = 0;
      links = 3;
      node = 1 ∷ 2 ∷ 1 ∷ 0 ∷ 2 ∷ 0 ∷ [];
      up = true ∷ true ∷ false ∷ [];
      out = false ∷ true ∷ true ∷ false ∷ true ∷ false ∷ [];
      local = false ∷ true ∷ false ∷ false ∷ false ∷ false ∷ [];
      remote = true ∷ false ∷ false ∷ false ∷ false ∷ false ∷ [];
      mark = false ∷ false ∷ false ∷ true ∷ false ∷ false ∷ [];
      turns = 0 ∷ 0 ∷ 1 ∷ [];
      flight = [];
      counts = count 8 2 2 0 0;
    }))
    ∷ []

-- What the rows above do not tell apart.
abbrev pub others : List Case
others =
    -- D1's whole text
    row (prints d1)
    (bytes
    (ascii
    "1 0 - -\n2 0 0 0\n3 0 1 1\n4 0 0 1\n5 0 1 2\n6 0 0 2\n7 0 1 in\n8 0 0 in\n9 8 - -\ntotal 2 2 0 0 0\nturns 0 0 1\n"))
    -- a spoilt event ends the events, a refused one does not
    ∷ row (prints (1 ∷ 0 ∷ 0 ∷ 4 ∷ 0 ∷ 1 ∷ 0 ∷ 5 ∷ [])) (bytes (ascii "1 6 - -\n2 0 0 in\nspoilt 11 7\ntotal 1 1 0 0 0\nturns 0\n"))
    -- an empty file (11, place 0); 257 links (2)
    ∷ row (file []) (answers 11 0)
    ∷ row (file (2 ∷ 0 ∷ 0x81 ∷ 0x02 ∷ [])) (answers 2 0)
    ∷ row (opens (net 2 0 (replicate 514 0))) (answers 2 0)
    ∷ row (opens (net 2 0 (replicate 512 0))) (answers 3 0)
    -- a list of odd length; the first bad link is the place; 3 comes before 4
    ∷ row (opens (net 2 0 (1 ∷ []))) (answers 2 0)
    ∷ row (opens (net 3 0 (1 ∷ 0 ∷ 1 ∷ 3 ∷ 2 ∷ 2 ∷ []))) (answers 3 1)
    ∷ row (opens (net 3 0 (0 ∷ 1 ∷ 1 ∷ 0 ∷ 2 ∷ 2 ∷ []))) (answers 3 2)
    -- a refused opening gives the record of one node, just opened
    ∷ row (all_of (net 3 3 (1 ∷ 0 ∷ [])) [])
    (leaves
    (record {
      nodes = 1;
      destination = 0;
      links = 0;
      node = [];
      up = [];
      out = [];
      local = [];
      remote = [];
      mark = [];
      turns = 0 ∷ [];
      flight = [];
      counts = count 0 0 0 0 0;
    }))
    -- a header: its numbers (11), then 2, then the links (11), then 3
    ∷ row (file (1 ∷ 0 ∷ [])) (answers 11 2)
    ∷ row (file (1 ∷ 0 ∷ 1 ∷ [])) (answers 11 3)
    ∷ row (file (65 ∷ 0 ∷ [])) (answers 11 2)
    ∷ row (file (2 ∷ 2 ∷ 1 ∷ [])) (answers 2 0)
    ∷ row (file (2 ∷ 0 ∷ 2 ∷ 1 ∷ 1 ∷ 1 ∷ [])) (answers 11 6)
    ∷ row (file (2 ∷ 0 ∷ 1 ∷ 1 ∷ 1 ∷ 9 ∷ [])) (answers 3 0)
    -- a whole file; an argument that is missing, that is cut short; kinds that are unknown
    ∷ row (file (1 ∷ 0 ∷ 0 ∷ 1 ∷ 0 ∷ [])) (answers 0 0)
    ∷ row (file (1 ∷ 0 ∷ 0 ∷ 1 ∷ [])) (answers 11 4)
    ∷ row (file (1 ∷ 0 ∷ 0 ∷ 1 ∷ 0x80 ∷ [])) (answers 11 4)
    ∷ row (file (1 ∷ 0 ∷ 0 ∷ 5 ∷ 0 ∷ [])) (answers 11 3)
    ∷ row (file (1 ∷ 0 ∷ 0 ∷ 0 ∷ [])) (answers 11 3)
    -- three bytes where two do, a third group of 0
    ∷ row (reads (0x80 ∷ 0x80 ∷ 0x00 ∷ [])) (number (refused 11 0))
    ∷ row (reads (0x80 ∷ 0x80 ∷ 0x01 ∷ [])) (number (had 16384 3))
    -- at a position; one past the end counts as the end
    ∷ row (reads_at (9 ∷ 0x81 ∷ 0x01 ∷ []) 1) (number (had 129 3))
    ∷ row (reads_at (9 ∷ 0x81 ∷ []) 1) (number (refused 11 1))
    ∷ row (reads_at (9 ∷ []) 5) (number (refused 11 1))
    ∷ row (reads_event_at (9 ∷ 3 ∷ 7 ∷ []) 1) (got (had (some (lose 7)) 3))
    ∷ row (reads_event_at (9 ∷ 3 ∷ []) 1) (got (refused 11 2))
    ∷ row (reads_event_at (9 ∷ []) 5) (got (had none 1))
    -- the destination delivers at once, without a link too
    ∷ row (last (net 1 0 []) [] (send 0)) (gave 0 (Packet 0) Delivered (0 ∷ []) (count 1 1 1 0 0))
    -- a bounce goes back on its own link, though a lower one is Out
    ∷ row (last (net 4 0 (2 ∷ 1 ∷ 3 ∷ 1 ∷ [])) (send 1 ∷ send 3 ∷ []) (deliver 2))
    (gave 0 (Packet 1) (Lane 3) (0 ∷ 1 ∷ 0 ∷ 0 ∷ []) (count 3 2 0 0 0))
    -- the oldest packet of the lane is lost; a link that is down and a lane that is empty
    ∷ row (last one_link (send 1 ∷ send 1 ∷ []) (lose 0)) (gave 0 (Packet 0) Lost (0 ∷ 0 ∷ []) (count 3 2 0 1 0))
    ∷ row (last one_link (send 1 ∷ fail 0 ∷ []) (lose 0)) (gave 7 Nothing Nowhere (0 ∷ 0 ∷ []) (count 2 1 0 1 0))
    ∷ row (last one_link (send 1 ∷ []) (lose 1)) (gave 8 Nothing Nowhere (0 ∷ 0 ∷ []) (count 1 1 0 0 0))
    -- "A slot freed by delivery, loss or failure is used again"
    ∷ row (last one_link (replicate 256 (send 1) ++ (deliver 0 ∷ [])) (send 1))
    (gave 0 (Packet 256) (Lane 0) (0 ∷ 0 ∷ []) (count 258 257 1 0 0))
    -- a failure takes its packets from the middle; the destination's mark goes, directions and bits stay
    ∷ row (all_of (net 3 0 (1 ∷ 0 ∷ 2 ∷ 0 ∷ [])) (send 1 ∷ send 2 ∷ send 1 ∷ send 2 ∷ fail 1 ∷ []))
    (leaves
    (record {
      nodes = 3;
      destination = 0;
      links = 2;
      node = 1 ∷ 0 ∷ 2 ∷ 0 ∷ [];
      up = true ∷ false ∷ [];
      out = true ∷ false ∷ true ∷ false ∷ [];
      local = false ∷ false ∷ false ∷ false ∷ [];
      remote = false ∷ false ∷ false ∷ false ∷ [];
      mark = false ∷ true ∷ false ∷ false ∷ [];
      turns = 0 ∷ 0 ∷ 0 ∷ [];
      flight = record { number = 0; lane = 0; bit = false } ∷ record { number = 2; lane = 0; bit = false } ∷ [];
      counts = count 5 4 0 2 0;
    }))
    -- one link after another, and the oldest of each lane, in the flight
    ∷ row (all_of (net 3 0 (1 ∷ 0 ∷ 2 ∷ 1 ∷ [])) (send 1 ∷ send 2 ∷ send 1 ∷ lose 0 ∷ send 1 ∷ deliver 2 ∷ deliver 0 ∷ []))
    (leaves
    (record {
      nodes = 3;
      destination = 0;
      links = 2;
      node = 1 ∷ 0 ∷ 2 ∷ 1 ∷ [];
      up = true ∷ true ∷ [];
      out = true ∷ false ∷ true ∷ false ∷ [];
      local = false ∷ false ∷ false ∷ false ∷ [];
      remote = false ∷ false ∷ false ∷ false ∷ [];
      mark = false ∷ true ∷ false ∷ true ∷ [];
      turns = 0 ∷ 0 ∷ 0 ∷ [];
      flight = packet 3 0 false ∷ packet 1 0 false ∷ [];
      counts = count 7 4 1 1 0;
    }))
    -- no such node, lane or link; a link that is down
    ∷ row (last one_link [] (send 2)) (gave 6 Nothing Nowhere (0 ∷ 0 ∷ []) (count 0 0 0 0 0))
    ∷ row (last one_link [] (deliver 2)) (gave 6 Nothing Nowhere (0 ∷ 0 ∷ []) (count 0 0 0 0 0))
    ∷ row (last one_link [] (lose 2)) (gave 6 Nothing Nowhere (0 ∷ 0 ∷ []) (count 0 0 0 0 0))
    ∷ row (last one_link [] (fail 1)) (gave 6 Nothing Nowhere (0 ∷ 0 ∷ []) (count 0 0 0 0 0))
    ∷ row (last one_link (fail 0 ∷ []) (fail 0)) (gave 7 Nothing Nowhere (0 ∷ 0 ∷ []) (count 1 0 0 0 0))
    -- well formed, by a packet sent on one link and one thing changed: the limits, on both sides
    ∷ row (formed one_link (send 1 ∷ []) []) (told true)
    ∷ row (formed one_link (send 1 ∷ []) (nodes_are 64 ∷ [])) (told true)
    ∷ row (formed one_link (send 1 ∷ []) (nodes_are 65 ∷ [])) (told false)
    ∷ row (formed one_link (send 1 ∷ []) (destination_is 1 ∷ [])) (told true)
    ∷ row (formed one_link (send 1 ∷ []) (destination_is 2 ∷ [])) (told false)
    ∷ row (formed (net 1 0 []) [] (nodes_are 0 ∷ [])) (told false)
    ∷ row (formed one_link [] (flight_is (replicate 256 (packet 0 0 false)) ∷ counts_are (count 256 256 0 0 0) ∷ [])) (told true)
    ∷ row (formed one_link [] (flight_is (replicate 257 (packet 0 0 false)) ∷ counts_are (count 257 257 0 0 0) ∷ [])) (told false)
    ∷ row (formed one_link (send 1 ∷ []) (counts_are (count 1_000_000 1 0 0 0) ∷ [])) (told true)
    ∷ row (formed one_link (send 1 ∷ []) (counts_are (count 1_000_001 1 0 0 0) ∷ [])) (told false)
    -- every number in its range: a link names two nodes; only entries in use count
    ∷ row (formed one_link [] (nodes_are 1 ∷ [])) (told false)
    ∷ row (formed one_link [] (node_is 1 2 ∷ [])) (told false)
    ∷ row (formed one_link [] (node_is 1 1 ∷ [])) (told false)
    ∷ row (formed one_link [] (links_are 2 ∷ [])) (told false)
    ∷ row (formed one_link [] (links_are 2 ∷ node_is 3 1 ∷ [])) (told true)
    -- a marked end is In and on a live link
    ∷ row (formed one_link [] (mark_is 1 false ∷ [])) (told true)
    ∷ row (formed one_link [] (mark_is 0 true ∷ [])) (told false)
    ∷ row (formed one_link [] (out_is 0 false ∷ mark_is 0 true ∷ [])) (told true)
    ∷ row (formed one_link (fail 0 ∷ []) []) (told true)
    ∷ row (formed one_link (fail 0 ∷ []) (mark_is 1 true ∷ [])) (told false)
    -- packets on lanes of live links, with numbers below admitted
    ∷ row (formed one_link (send 1 ∷ []) (flight_is (packet 0 1 true ∷ []) ∷ [])) (told true)
    ∷ row (formed one_link (send 1 ∷ []) (flight_is (packet 0 2 false ∷ []) ∷ [])) (told false)
    ∷ row (formed one_link (send 1 ∷ []) (flight_is (packet 1 0 false ∷ []) ∷ [])) (told false)
    ∷ row (formed one_link (send 1 ∷ []) (up_is 0 false ∷ mark_is 1 false ∷ [])) (told false)
    ∷ row (formed one_link (send 1 ∷ send 1 ∷ []) []) (told true)
    ∷ row (formed one_link (send 1 ∷ send 1 ∷ []) (flight_is (packet 0 0 false ∷ packet 2 0 false ∷ []) ∷ [])) (told false)
    -- admitted and every node's turns are at most events, and the sum
    ∷ row (formed one_link (send 1 ∷ []) (turns_are 1 1 ∷ [])) (told true)
    ∷ row (formed one_link (send 1 ∷ []) (turns_are 1 2 ∷ [])) (told false)
    ∷ row (formed one_link (send 1 ∷ []) (turns_are 2 2 ∷ [])) (told true)
    ∷ row (formed one_link (send 1 ∷ []) (counts_are (count 4 4 1 1 1) ∷ [])) (told true)
    ∷ row (formed one_link (send 1 ∷ []) (counts_are (count 3 4 1 1 1) ∷ [])) (told false)
    ∷ row (formed one_link (send 1 ∷ []) (counts_are (count 4 3 1 1 1) ∷ [])) (told false)
    ∷ row (formed one_link (send 1 ∷ []) (counts_are (count 4 4 0 1 1) ∷ [])) (told false)
    ∷ row (formed one_link (send 1 ∷ []) (counts_are (count 4 4 1 0 1) ∷ [])) (told false)
    ∷ row (formed one_link (send 1 ∷ []) (counts_are (count 4 4 1 1 0) ∷ [])) (told false)
    -- on records made by hand: 1 before 5, 5 before 6; the last event that is accepted; 10
    ∷ row (on_made one_link [] (mark_is 0 true ∷ []) (send 1)) (gave 1 Nothing Nowhere (0 ∷ 0 ∷ []) (count 0 0 0 0 0))
    ∷ row (on_made one_link [] (mark_is 0 true ∷ counts_are (count 1_000_000 0 0 0 0) ∷ []) (send 1))
    (gave 1 Nothing Nowhere (0 ∷ 0 ∷ []) (count 1_000_000 0 0 0 0))
    ∷ row (on_made one_link [] (counts_are (count 1_000_000 0 0 0 0) ∷ []) (send 1))
    (gave 5 Nothing Nowhere (0 ∷ 0 ∷ []) (count 1_000_000 0 0 0 0))
    ∷ row (on_made one_link [] (counts_are (count 1_000_000 0 0 0 0) ∷ []) (fail 1))
    (gave 5 Nothing Nowhere (0 ∷ 0 ∷ []) (count 1_000_000 0 0 0 0))
    ∷ row (on_made one_link [] (counts_are (count 999_999 0 0 0 0) ∷ []) (send 1))
    (gave 0 (Packet 0) (Lane 0) (0 ∷ 0 ∷ []) (count 1_000_000 1 0 0 0))
    ∷ row (on_made one_link (send 1 ∷ []) (flight_is (packet 0 0 true ∷ []) ∷ []) (deliver 0))
    (gave 10 Nothing Nowhere (0 ∷ 0 ∷ []) (count 1 1 0 0 0))
    -- a full flight, and a node with no live link
    ∷ row (on_made (net 3 0 (1 ∷ 0 ∷ [])) [] (flight_is (replicate 256 (packet 0 0 false)) ∷ counts_are (count 256 256 0 0 0) ∷ []) (send 2))
    (gave 0 (Packet 256) Stranded (0 ∷ 0 ∷ 0 ∷ []) (count 257 257 0 0 1))
    -- a failure with packets on both lanes
    ∷ row (on_made one_link [] (flight_is (packet 0 0 false ∷ packet 1 1 false ∷ []) ∷ counts_are (count 2 2 0 0 0) ∷ []) (fail 0))
    (gave 0 Nothing Nowhere (0 ∷ 0 ∷ []) (count 3 2 0 2 0))
    -- a turn: no arrow leads out, and one is reversed; the news counts first; of no other node
    ∷ row (judges away_from [] (send 1) unchanged 1) (told true)
    ∷ row (judges away_from [] (send 1) unchanged 0) (told false)
    ∷ row (judges two_ways (send 3 ∷ []) (deliver 3) unchanged 1) (told true)
    ∷ row (judges one_link [] (send 1) unchanged 1) (told false)
    ∷ row (judges one_link (send 1 ∷ []) (deliver 0) unchanged 0) (told false)
    -- and none: no arrow reversed, the packet not passed on, an arrow that led out, another node's packet
    ∷ row (judges away_from [] (send 1) unreversed 1) (told false)
    ∷ row (judges away_from [] (send 1) (gone Delivered) 1) (told false)
    ∷ row (judges two_ways [] (send 1) (turned 1) 1) (told false)
    ∷ row (judges two_ways [] (send 1) (turned 3) 3) (told false)
    -- an event written: what it needs of the part, and no more; 6 before 12
    ∷ row (puts_event 1 5 (9 ∷ 9 ∷ 9 ∷ [])) (wrote 0 0 2 (1 ∷ 5 ∷ 9 ∷ []))
    ∷ row (puts_event 1 5 (9 ∷ [])) (wrote 12 0 0 (9 ∷ []))
    ∷ row (puts_event 4 2_097_151 (9 ∷ 9 ∷ 9 ∷ 9 ∷ [])) (wrote 0 0 4 (4 ∷ 0xff ∷ 0xff ∷ 0x7f ∷ []))
    ∷ row (puts_event 4 2_097_152 (9 ∷ 9 ∷ 9 ∷ 9 ∷ [])) (wrote 6 0 0 (9 ∷ 9 ∷ 9 ∷ 9 ∷ []))
    ∷ row (puts_event 5 0 []) (wrote 6 0 0 [])
    ∷ row (puts_event 0 0 (9 ∷ 9 ∷ [])) (wrote 6 0 0 (9 ∷ 9 ∷ []))
    -- a header written; 2, 3, 4 before 12
    ∷ row (puts_header one_link (9 ∷ 9 ∷ 9 ∷ 9 ∷ 9 ∷ 9 ∷ [])) (wrote 0 0 5 (2 ∷ 0 ∷ 1 ∷ 1 ∷ 0 ∷ 9 ∷ []))
    ∷ row (puts_header one_link (9 ∷ 9 ∷ 9 ∷ 9 ∷ [])) (wrote 12 0 0 (9 ∷ 9 ∷ 9 ∷ 9 ∷ []))
    ∷ row (puts_header (net 2 2 []) []) (wrote 2 0 0 [])
    ∷ row (puts_header (net 3 0 (1 ∷ 0 ∷ 2 ∷ 2 ∷ [])) []) (wrote 3 1 0 [])
    ∷ row (puts_header (net 2 0 (0 ∷ 1 ∷ 1 ∷ 0 ∷ [])) []) (wrote 4 0 0 [])
    -- a drill written whole, and piece by piece into a part
    ∷ row (writes_drill two_events) (bytes (2 ∷ 0 ∷ 1 ∷ 1 ∷ 0 ∷ 1 ∷ 1 ∷ 2 ∷ 0x80 ∷ 0x01 ∷ []))
    ∷ row (pieces two_events (replicate 11 9)) (bytes (2 ∷ 0 ∷ 1 ∷ 1 ∷ 0 ∷ 1 ∷ 1 ∷ 2 ∷ 0x80 ∷ 0x01 ∷ 9 ∷ []))
    -- a refused header's text; packets lost, stranded, delivered and in flight, each another number
    ∷ row (prints (3 ∷ 0 ∷ 2 ∷ 1 ∷ 0 ∷ 2 ∷ 2 ∷ [])) (bytes (ascii "refused 3 1\n"))
    ∷ row (prints strands) (bytes (ascii strands_text))
    -- a file of 65,536 bytes is read, one byte more is too long
    ∷ row (prints (replicate 65_536 0)) (bytes (ascii "refused 2 0\n"))
    ∷ row (prints (replicate 65_537 0)) (bytes (ascii "refused 11 65536\n"))
    -- the limits that follow: the ends of all links; the program's text
    ∷ row (limit ends_most) (is 512)
    ∷ row (limit text_most) (is 688_708)
    ∷ []
