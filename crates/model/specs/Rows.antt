-- A row of a table of cases: what is given, and what that gives. `Hold` says that every row of a table is so.
use Rattle.std.specs.Prelude.{ℕ, ◌≡◌, Bool, cond, List, [], ◌∷◌, map, eqb}
use Rattle.std.proofs.Math.Option.{Option}
use Rattle.model.specs.declared.Handled.{Handled}
use Rattle.model.specs.declared.Went.{Went}
use Rattle.model.specs.Below.{tab}
use Rattle.model.specs.State.{Net, Packet, Counts, State, lanes}
use Rattle.model.specs.Formed.{well_formed}
use Rattle.model.specs.Departure.{turn}
use Rattle.model.specs.Outcome.{Outcome}
use Rattle.model.specs.Events.{Event, event}
use Rattle.model.specs.Opening.{Opening}
use Rattle.model.specs.History.{after}
use Rattle.model.specs.Turns.{about, turns_in}
use Rattle.model.specs.Number.{number_bytes, Read, had, refused, read_number}
use Rattle.model.specs.File.{Header, opening, read_event, Drill, read}
use Rattle.model.specs.Writing.{write, Written, write_header, write_event}
use Rattle.model.specs.Writable.{write_pieces}
use Rattle.model.specs.Text.{drill_output}

-- A state with its functions written out over the entries in use: every field of the record.
pub record Listed : Type 0 where
  pub nodes : ℕ
  pub destination : ℕ
  pub links : ℕ
  pub node : List ℕ
  pub up : List Bool
  pub out : List Bool
  pub local : List Bool
  pub remote : List Bool
  pub mark : List Bool
  pub turns : List ℕ
  pub flight : List Packet
  pub counts : Counts

unfoldable pub listed : State → Listed
listed s =
    record {
      nodes = s.net.nodes;
      destination = s.net.destination;
      links = s.net.links;
      node = tab s.net.node (lanes s);
      up = tab s.up s.net.links;
      out = tab s.ends.out (lanes s);
      local = tab s.ends.local (lanes s);
      remote = tab s.ends.remote (lanes s);
      mark = tab s.ends.mark (lanes s);
      turns = tab s.turns s.net.nodes;
      flight = s.flight;
      counts = s.counts;
    }

-- ---- a record made by hand: one after some events, some of its fields changed
pub data Change : Type 0 where
  nodes_are destination_is links_are : ℕ → Change
  node_is turns_are : ℕ → ℕ → Change
  up_is out_is local_is remote_is mark_is : ℕ → Bool → Change
  flight_is : List Packet → Change
  counts_are : Counts → Change

-- a function with another value at one number
abbrev pub at {ℓ} : {A : Type ℓ} → ℕ → A → (ℕ → A) → ℕ → A
at x a f y = cond (eqb y x) a (f y)

abbrev pub with_net : State → Net → State
with_net s net = record { net = net; up = s.up; ends = s.ends; turns = s.turns; flight = s.flight; counts = s.counts }

abbrev pub with_ends : State → (ℕ → Bool) → (ℕ → Bool) → (ℕ → Bool) → (ℕ → Bool) → State
with_ends s out local remote mark =
    record {
      net = s.net;
      up = s.up;
      ends = record { out = out; local = local; remote = remote; mark = mark };
      turns = s.turns;
      flight = s.flight;
      counts = s.counts;
    }

abbrev pub with_rest : State → (ℕ → Bool) → (ℕ → ℕ) → List Packet → Counts → State
with_rest s up turns flight counts =
    record { net = s.net; up = up; ends = s.ends; turns = turns; flight = flight; counts = counts }

unfoldable pub changed : State → Change → State
changed s (nodes_are n) =
    with_net s (record { nodes = n; destination = s.net.destination; links = s.net.links; node = s.net.node })
changed s (destination_is d) =
    with_net s (record { nodes = s.net.nodes; destination = d; links = s.net.links; node = s.net.node })
changed s (links_are n) =
    with_net s (record { nodes = s.net.nodes; destination = s.net.destination; links = n; node = s.net.node })
changed s (node_is x v) =
    with_net s (record { nodes = s.net.nodes; destination = s.net.destination; links = s.net.links; node = at x v s.net.node })
changed s (out_is x b) = with_ends s (at x b s.ends.out) s.ends.local s.ends.remote s.ends.mark
changed s (local_is x b) = with_ends s s.ends.out (at x b s.ends.local) s.ends.remote s.ends.mark
changed s (remote_is x b) = with_ends s s.ends.out s.ends.local (at x b s.ends.remote) s.ends.mark
changed s (mark_is x b) = with_ends s s.ends.out s.ends.local s.ends.remote (at x b s.ends.mark)
changed s (up_is l b) = with_rest s (at l b s.up) s.turns s.flight s.counts
changed s (turns_are v n) = with_rest s s.up (at v n s.turns) s.flight s.counts
changed s (flight_is ps) = with_rest s s.up s.turns ps s.counts
changed s (counts_are c) = with_rest s s.up s.turns s.flight c

unfoldable pub made : State → List Change → State
made s [] = s
made s (c ∷ cs) = made (changed s c) cs

-- ---- an outcome made by hand, of an event whose packet was about to be passed on in a state t
abbrev pub unchanged : State → Outcome → Outcome
unchanged t o = o

-- the arrows are as they were
abbrev pub unreversed : State → Outcome → Outcome
unreversed t o = record { state = t; answer = o.answer; handled = o.handled; went = o.went }

-- the packet went somewhere else
abbrev pub gone : Went → State → Outcome → Outcome
gone w t o = record { state = o.state; answer = o.answer; handled = o.handled; went = w }

-- node v turned
abbrev pub turned : ℕ → State → Outcome → Outcome
turned v t o = record { state = turn t v; answer = o.answer; handled = o.handled; went = o.went }

pub data Given : Type 0 where
  -- an opening; the last of some events on it, by those before; all of some events on it
  opens : Header → Given
  last : Header → List Event → Event → Given
  all_of : Header → List Event → Given
  -- an event on a record made by hand, whether that is well formed; whether an event, with its outcome so changed, is a turn of a node
  on_made : Header → List Event → List Change → Event → Given
  formed : Header → List Event → List Change → Given
  judges : Header → List Event → Event → (State → Outcome → Outcome) → ℕ → Given
  -- a number to write; bytes to read as a number, and at a position; an event at a position; an event and a header to write into a part
  writes : ℕ → Given
  reads : List ℕ → Given
  reads_at : List ℕ → ℕ → Given
  reads_event_at : List ℕ → ℕ → Given
  puts_event : ℕ → ℕ → List ℕ → Given
  puts_header : Header → List ℕ → Given
  -- a drill to write, whole and piece by piece into a part
  writes_drill : Drill → Given
  pieces : Drill → List ℕ → Given
  -- a drill file: what reading it answers, the record that it leaves, the program's text
  file : List ℕ → Given
  runs : List ℕ → Given
  prints : List ℕ → Given
  -- a limit that follows from others
  limit : ℕ → Given

pub data Gives : Type 0 where
  -- the answer and its place
  answers : ℕ → ℕ → Gives
  -- the answer, the packet, where it went; then each node's turns, and the counts
  gave : ℕ → Handled → Went → List ℕ → Counts → Gives
  leaves : Listed → Gives
  bytes : List ℕ → Gives
  number : Read ℕ → Gives
  got : Read (Option Event) → Gives
  told : Bool → Gives
  -- the answer, the place, how many bytes were written, and what the part then holds
  wrote : ℕ → ℕ → ℕ → List ℕ → Gives
  is : ℕ → Gives

abbrev pub from_opening : Opening → Gives
from_opening o = answers o.answer o.place

abbrev pub from_outcome : Outcome → Gives
from_outcome o =
    gave o.answer o.handled o.went (tab o.state.turns o.state.net.nodes) o.state.counts

abbrev pub from_read : Read Drill → Gives
from_read (had d next) = answers 0 0
from_read (refused answer place) = answers answer place

abbrev pub from_run : Read Drill → Gives
from_run (had d next) = leaves (listed (after (opening d.header).state d.events))
from_run (refused answer place) = answers answer place

abbrev pub from_written : Written → Gives
from_written w = wrote w.answer w.place w.count w.part

abbrev pub judged : State → Event → (State → Outcome → Outcome) → ℕ → Gives
judged s e change v = told (turns_in s e (change (about s e) (event s e)) v)

unfoldable pub given : Given → Gives
given (opens h) = from_opening (opening h)
given (last h es e) = from_outcome (event (after (opening h).state es) e)
given (all_of h es) = leaves (listed (after (opening h).state es))
given (on_made h es cs e) = from_outcome (event (made (after (opening h).state es) cs) e)
given (formed h es cs) = told (well_formed (made (after (opening h).state es) cs))
given (judges h es e change v) = judged (after (opening h).state es) e change v
given (writes n) = bytes (number_bytes n)
given (reads bs) = number (read_number bs 0)
given (reads_at bs at) = number (read_number bs at)
given (reads_event_at bs at) = got (read_event bs at)
given (puts_event kind a part) = from_written (write_event kind a part)
given (puts_header h part) = from_written (write_header h part)
given (writes_drill d) = bytes (write d)
given (pieces d part) = bytes (write_pieces d part)
given (file bs) = from_read (read bs)
given (runs bs) = from_run (read bs)
given (prints bs) = bytes (drill_output bs)
given (limit n) = is n

pub record Case : Type 0 where
  pub what : Given
  pub result : Gives

-- every row of a table gives what it says
abbrev pub Hold : List Case → Type 0
Hold cases = map (λ c. given c.what) cases ≡ map (λ c. c.result) cases

abbrev pub row : Given → Gives → Case
row w r = record { what = w; result = r }
