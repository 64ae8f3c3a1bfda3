-- What is promised of the definitions, a named type each; proofs/Promises.antt has a term for each.
use Rattle.std.specs.Prelude.{ℕ, ◌+◌, ◌<◌, ◌≤◌, ◌≡◌, ◌⊎◌, true, false, List, [], ◌∷◌, ◌++◌, map, length, drop}
use Rattle.std.proofs.Math.Option.{some}
use Rattle.model.specs.declared.Handled.TheVariants as handled
use Rattle.model.specs.declared.Went.TheVariants as went
use Rattle.model.specs.Limits.{ends_most, flight_most, events_most, number_most, text_most}
use Rattle.model.specs.Answers as answers
use Rattle.model.specs.Below.{all, tab}
use Rattle.model.specs.State.{end, opp, State, lanes, whole}
use Rattle.model.specs.Formed.{end_formed, well_formed}
use Rattle.model.specs.Departure.{out_at, has_live, has_out, update, door}
use Rattle.model.specs.Outcome.{Outcome}
use Rattle.model.specs.Send.{send_to}
use Rattle.model.specs.Fail.{fail_of}
use Rattle.model.specs.Events.{Event, send, fail, event}
use Rattle.model.specs.Opening.{ClosedWalk, open_from}
use Rattle.model.specs.History.{History, start, after, history_after, Ran}
use Rattle.model.specs.Paths.{Joined}
use Rattle.model.specs.Agreement.{Agree, Untold}
use Rattle.model.specs.Turns.{turn_events}
use Rattle.model.specs.Places.{placed, times, count_in_all, sent_as}
use Rattle.model.specs.Number.{number_bytes, had, read_number}
use Rattle.model.specs.File.{Header, opening, read_header, argument, read_event, and_more, events_from, read_events, Drill, read}
use Rattle.model.specs.Writing.{header_bytes, event_bytes, write}
use Rattle.model.specs.Writable.{Bytes, Writable, write_pieces}
use Rattle.model.specs.Text.{drill_output}
use Rattle.model.specs.Rows.{local_is, flight_is, Hold}
use Rattle.model.specs.Cases.{net, packet, one_link, away_from, cases, others}
use Rattle.model.specs.Shown.{ran, Met, zigzag, two_turns, longer_zigzag, three_turns, circle, circle_turns, shortcut, crowd, crowd_events, heard, unheard}

-- "P1 to P12 are proved about the definitions, as a single table under a single statement." Beside it the further cases.
abbrev pub CasesHold : Type 0
CasesHold = Hold cases

abbrev pub OthersHold : Type 0
OthersHold = Hold others

-- Answer 4: "the opening arrows hold a closed walk; given exactly if one exists". Where it is given there is one; where the opening is
-- accepted there is none. (2 and 3 come before.)
pub record FourExactly : Type 0 where
  pub closed : (nodes destination : ℕ) (list : List ℕ) → (open_from nodes destination list).answer ≡ answers.closed_walk → ClosedWalk list
  pub open_not_closed : (nodes destination : ℕ) (list : List ℕ) → (open_from nodes destination list).answer ≡ answers.done
      → ClosedWalk list → ⊥

-- ---- single events
-- "A record is well formed when ..": an opening's record is, accepted or refused; an event, accepted or refused, leaves a well-formed
-- record well formed; so after any history it is, and answer 1, "record is not well formed", never comes up.
pub record FormedKept : Type 0 where
  pub opening : (nodes destination : ℕ) (list : List ℕ) → well_formed (open_from nodes destination list).state ≡ true
  pub kept : (s : State) (e : Event) → well_formed s ≡ true → well_formed (event s e).state ≡ true
  pub history : (s : State) → History s → well_formed s ≡ true
  pub one_never : (s : State) → History s → (e : Event) → (event s e).answer ≡ answers.not_formed → ⊥

-- "Every refusal leaves the record .. unchanged and gives no packet."
pub record RefusedSame : Type 0 where
  pub record_same : (s : State) (e : Event) → ((event s e).answer ≡ answers.done → ⊥) → (event s e).state ≡ s
  pub no_packet : (s : State) (e : Event) → ((event s e).answer ≡ answers.done → ⊥) → (event s e).handled ≡ handled.Nothing

-- "Departure update at v. .. Each marked end becomes Out": after it a node with a live link has a live Out link. "the lowest-numbered live
-- Out link": where a node has one, the way out is one, an end of that node and in range. (The first asks only that marked ends are In and
-- on live links, which holds in a well-formed record.)
pub record WayOut : Type 0 where
  pub updated : (s : State) (v : ℕ) → all (end_formed s) (lanes s) ≡ true → has_live s v ≡ true → has_out (update s v) v ≡ true
  pub leads : (s : State) (v : ℕ) → has_out s v ≡ true → (door s v < lanes s) × (out_at s v (door s v) ≡ true)

-- Answer 9: "256 in flight, and the node has a live link and is not the destination (send)", given "When, and only then", in a well-formed
-- record with room for events and at a node that there is.
pub record Crowded (s : State) (v : ℕ) : Type 0 where
  pub full : length s.flight ≡ flight_most
  pub linked : has_live s v ≡ true
  pub away : v ≡ s.net.destination → ⊥

pub record NineExactly : Type 0 where
  pub given : (s : State) (v : ℕ) → well_formed s ≡ true → s.counts.events < events_most → v < s.net.nodes
      → Crowded s v → (send_to s v).answer ≡ answers.flight_full
  pub only : (s : State) (v : ℕ) → well_formed s ≡ true → s.counts.events < events_most → v < s.net.nodes
      → (send_to s v).answer ≡ answers.flight_full → Crowded s v

-- "Fail link l. The link goes down at both ends at once. .. Marks on both ends are cleared; directions and bits keep their last values".
pub record FailKeeps : Type 0 where
  pub down : (s : State) (l : ℕ) → (fail_of s l).answer ≡ answers.done → (fail_of s l).state.up l ≡ false
  pub clear : (s : State) (l : ℕ) → (fail_of s l).answer ≡ answers.done
      → ((fail_of s l).state.ends.mark (end l 0) ≡ false) × ((fail_of s l).state.ends.mark (end l 1) ≡ false)
  pub directions : (s : State) (l : ℕ) → (fail_of s l).state.ends.out ≡ s.ends.out
  pub local_bits : (s : State) (l : ℕ) → (fail_of s l).state.ends.local ≡ s.ends.local
  pub remote_bits : (s : State) (l : ℕ) → (fail_of s l).state.ends.remote ≡ s.ends.remote

-- What an event of a well-formed record gives is in range, so that each of its numbers has few digits: an answer of those that events give,
-- a packet numbered below the most events, a lane of the record. The same after any run of events, accepted or refused.
pub record InRange (s : State) (o : Outcome) : Type 0 where
  pub answer : o.answer ≤ answers.out_of_step
  pub packet : (n : ℕ) → o.handled ≡ handled.Packet n → n < events_most
  pub lane : (x : ℕ) → o.went ≡ went.Lane x → x < lanes s
  pub few_lanes : lanes s ≤ ends_most

pub record Named : Type 0 where
  pub one : (s : State) (e : Event) → well_formed s ≡ true → InRange s (event s e)
  pub run : (s : State) (es : List Event) (e : Event) → well_formed s ≡ true → InRange (after s es) (event (after s es) e)

-- ---- histories: an accepted opening, then any events, accepted or refused
-- Demand 3: at every moment, a node joined to the destination by a path of k links that have not failed has turned at most k times. The
-- path is any path; the number is the one kept in the record.
abbrev pub TurnsBounded : Type 0
TurnsBounded = (s : State) → History s → (v k : ℕ) → Joined s v k → s.turns v ≤ k

-- The kept number is the number of turn events: a node's turns in the record are as many as the turn events of that node in the history.
-- "The destination never does it."
pub record TurnsCounted : Type 0 where
  pub kept : (s : State) (h : History s) (v : ℕ) → s.turns v ≡ turn_events h v
  pub destination : (s : State) → History s → s.turns s.net.destination ≡ 0

-- On every live link the two ends are never both In. Where one is Out and the other In they agree: each local bit equals the other's remote
-- bit, and all packets on both lanes match. Where both are Out, exactly one end has news outstanding: its lane holds old bits and then new
-- ones, the other lane matches.
pub record EndsAgree : Type 0 where
  pub never_both_in : (s : State) → History s → (x : ℕ) → x < lanes s → whole s x ≡ true
      → s.ends.out x ≡ false → s.ends.out (opp x) ≡ true
  pub agree : (s : State) → History s → (x : ℕ) → x < lanes s → whole s x ≡ true
      → s.ends.out x ≡ true → s.ends.out (opp x) ≡ false → Agree s x (opp x)
  pub untold : (s : State) → History s → (x : ℕ) → x < lanes s → whole s x ≡ true
      → s.ends.out x ≡ true → s.ends.out (opp x) ≡ true → Untold s x (opp x) ⊎ Untold s (opp x) x

-- Answer 10, "bit out of step", never comes up.
abbrev pub TenNever : Type 0
TenNever = (s : State) → History s → (e : Event) → (event s e).answer ≡ answers.out_of_step → ⊥

-- "proved over the history from an opening: each admitted number stands in exactly one of four places (in flight, delivered, lost,
-- stranded), by the event that put it there", and in that place once. A number that was not admitted stands nowhere. The packets that the
-- record has in flight are those that the events put there, in that order; its counts are the sizes.
pub record FourPlaces : Type 0 where
  pub once : (s : State) (h : History s) (n : ℕ) → n < s.counts.admitted → count_in_all n (placed h) ≡ 1
  pub nowhere : (s : State) (h : History s) (n : ℕ) → s.counts.admitted ≤ n → count_in_all n (placed h) ≡ 0
  pub flying : (s : State) (h : History s) → map sent_as s.flight ≡ (placed h).flying
  pub delivered : (s : State) (h : History s) → s.counts.delivered ≡ length (placed h).delivered
  pub lost : (s : State) (h : History s) → s.counts.lost ≡ length (placed h).lost
  pub stranded : (s : State) (h : History s) → s.counts.stranded ≡ length (placed h).stranded

-- ---- the words of these theorems, in given states
-- Demand 3 cannot be sharpened, and it is the links of a path that are counted. The bound is met at 1, 2 and 3 links; where two paths lead
-- to the destination, by the shorter; where a link that has failed would shorten the path, by what is left. A path goes either way along
-- an arrow.
pub record BoundMet : Type 0 where
  pub one : Met away_from (send 1 ∷ []) 1 1
  pub two : Met zigzag two_turns 2 2
  pub three : Met longer_zigzag three_turns 3 3
  pub shorter : Met circle circle_turns 2 2
  pub longer : Joined (ran circle circle_turns) 2 3
  pub failed : Met shortcut (fail 3 ∷ two_turns) 2 2
  pub not_yet_failed : Joined (ran shortcut []) 2 1
  pub along : Joined (ran one_link []) 1 1
  pub against : Joined (ran away_from []) 1 1

-- "Take an accepted network, then any sequence of sends, deliveries, losses and link failures": that is a history, and nothing else is.
pub record HistoriesAre : Type 0 where
  pub every : (s : State) → Ran s → History s
  pub only : (s : State) → History s → Ran s

-- The turn events of each node in a history, whatever its record keeps.
abbrev pub TurnsShown : Type 0
TurnsShown = (h : (opening zigzag).answer ≡ answers.done)
    → tab (turn_events (history_after (start zigzag.nodes zigzag.destination zigzag.list h) two_turns)) 4 ≡ 0 ∷ 1 ∷ 2 ∷ 1 ∷ []

-- The four places after events of every kind, each in the order in which the packets came there; how often a number stands in them; what
-- the record shows of a packet in flight.
pub record PlacesShown : Type 0 where
  pub crowded : (h : (opening crowd).answer ≡ answers.done)
      → placed (history_after (start crowd.nodes crowd.destination crowd.list h) crowd_events)
      ≡ record {
        flying = record { number = 6; lane = 0 } ∷ record { number = 9; lane = 0 } ∷ record { number = 8; lane = 0 } ∷ [];
        delivered = 4 ∷ 1 ∷ [];
        lost = 0 ∷ 2 ∷ 5 ∷ [];
        stranded = 3 ∷ 7 ∷ [];
      }
  pub twice : times 3 (3 ∷ 4 ∷ 3 ∷ []) ≡ 2
  pub in_each : count_in_all 3 (record { flying = record { number = 3; lane = 5 } ∷ []; delivered = 3 ∷ []; lost = 3 ∷ []; stranded = 3 ∷ [] }) ≡ 4
  pub shown : sent_as (packet 3 5 true) ≡ record { number = 3; lane = 5 }

-- Ends that agree, an end that has yet to hear, and what is neither: a local bit, or a packet's bit, that is another.
pub record AgreementTells : Type 0 where
  pub agree : Agree (heard []) 0 1
  pub other_mine : Agree (heard (local_is 0 false ∷ [])) 0 1 → ⊥
  pub other_yours : Agree (heard (local_is 1 true ∷ [])) 0 1 → ⊥
  pub other_from_me : Agree (heard (flight_is (packet 0 0 true ∷ packet 1 0 false ∷ []) ∷ [])) 0 1 → ⊥
  pub other_from_you : Agree (heard (flight_is (packet 0 1 false ∷ packet 1 1 true ∷ []) ∷ [])) 0 1 → ⊥
  pub untold : Untold (unheard []) 0 1
  pub told_mine : Untold (unheard (local_is 0 true ∷ [])) 0 1 → ⊥
  pub told_yours : Untold (unheard (local_is 1 true ∷ [])) 0 1 → ⊥
  pub new_then_old : Untold (unheard (flight_is (packet 0 0 false ∷ packet 1 0 true ∷ []) ∷ [])) 0 1 → ⊥
  pub told_from_you : Untold (unheard (flight_is (packet 0 1 false ∷ packet 1 1 true ∷ []) ∷ [])) 0 1 → ⊥

-- ---- drill files
-- Reading what was written gives it back: the number, the event, the header, at any position of a file in which they stand, with the
-- position after them; and the whole drill.
pub record ReadBack : Type 0 where
  pub number : (before after : List ℕ) (n : ℕ) → n ≤ number_most
      → read_number (before ++ (number_bytes n ++ after)) (length before) ≡ had n (length before + length (number_bytes n))
  pub event : (before after : List ℕ) (e : Event) → argument e ≤ number_most
      → read_event (before ++ (event_bytes e ++ after)) (length before) ≡ had (some e) (length before + length (event_bytes e))
  pub header : (before after : List ℕ) (h : Header) → (opening h).answer ≡ answers.done
      → read_header (before ++ (header_bytes h ++ after)) (length before) ≡ had h (length before + length (header_bytes h))
  pub drill : (d : Drill) → Writable d → read (write d) ≡ had d (length (write d))

-- An entry of a file is a byte: 255 is one, 256 is none. A drill can be written where its opening is accepted and each argument is at most
-- 2,097,151.
pub record WritableTells : Type 0 where
  pub largest_byte : Bytes (255 ∷ [])
  pub no_byte : Bytes (256 ∷ []) → ⊥
  pub largest_argument : Writable (record { header = one_link; events = send 2_097_151 ∷ [] })
  pub no_argument : Writable (record { header = one_link; events = send 0 ∷ send 2_097_152 ∷ [] }) → ⊥
  pub no_opening : Writable (record { header = net 2 0 (0 ∷ 1 ∷ 1 ∷ 0 ∷ []); events = [] }) → ⊥

-- "shortest form only": what is read is the one writing of what it gives. A file that is read whole is what its drill is written as, so two
-- files that give the same drill are the same file.
pub record OneWriting (file : List ℕ) : Type 0 where
  pub number : (at n next : ℕ) → read_number file at ≡ had n next
      → (n ≤ number_most) × (drop at file ≡ number_bytes n ++ drop next file)
  pub event : (at : ℕ) (e : Event) (next : ℕ) → read_event file at ≡ had (some e) next
      → (argument e ≤ number_most) × (drop at file ≡ event_bytes e ++ drop next file)
  pub header : (at : ℕ) (h : Header) (next : ℕ) → read_header file at ≡ had h next
      → ((opening h).answer ≡ answers.done) × (drop at file ≡ header_bytes h ++ drop next file)
  pub drill : (d : Drill) (n : ℕ) → read file ≡ had d n → (write d ≡ file) × Writable d
  pub same : (other : List ℕ) → Bytes other → (d : Drill) (n m : ℕ) → read file ≡ had d n → read other ≡ had d m → file ≡ other

abbrev pub OneWritingEach : Type 0
OneWritingEach = (file : List ℕ) → Bytes file → OneWriting file

-- Reading always ends: what is had moves the position on and not past the end. More fuel gives the same events, which are those of reading
-- one after the other.
pub record ReadingEnds : Type 0 where
  pub number : (file : List ℕ) (at n next : ℕ) → read_number file at ≡ had n next → (at < next) × (next ≤ length file)
  pub event : (file : List ℕ) (at : ℕ) (e : Event) (next : ℕ) → read_event file at ≡ had (some e) next → (at < next) × (next ≤ length file)
  pub header : (file : List ℕ) (at : ℕ) (h : Header) (next : ℕ) → read_header file at ≡ had h next → (at < next) × (next ≤ length file)
  pub more_fuel : (file : List ℕ) (at fuel : ℕ) → length file < fuel → events_from fuel file at ≡ read_events file at
  pub one_by_one : (file : List ℕ) (at : ℕ) → read_events file at ≡ and_more (read_event file at) λ next. read_events file next

-- A header and events written one after the other, each into what is left of the part, are the whole writing; "those after them stay".
abbrev pub PiecesMakeWhole : Type 0
PiecesMakeWhole = (d : Drill) (part : List ℕ) → Writable d → length (write d) ≤ length part
    → write_pieces d part ≡ write d ++ drop (length (write d)) part

-- ---- the program's text
-- Whatever the file, the program's whole text is no longer than the limit named for it.
abbrev pub TextFits : Type 0
TextFits = (file : List ℕ) → length (drill_output file) ≤ text_most
