-- "The drill file": header, then events to the end of the file; what reading it gives.
use Rattle.std.specs.Prelude.{ℕ, zero, suc, ◌*◌, not, cond, List, [], ◌∷◌, leb, eqb, length}
use Rattle.std.proofs.Math.Option.{Option, none, some}
use Rattle.model.specs.Answers as answers
use Rattle.model.specs.Formed.{sized}
use Rattle.model.specs.Events.{Event, send, deliver, lose, fail}
use Rattle.model.specs.Opening.{Opening, open_from}
use Rattle.model.specs.Number.{Read, had, refused, read_number}

-- "A value that can't be had ends the reading at once with its place."
abbrev pub and_then : {A B : Type 0} → Read A → (A → ℕ → Read B) → Read B
and_then (had a next) f = f a next
and_then (refused answer place) f = refused answer place

-- ---- "Header: nodes, destination, links, then two node numbers for each link."
pub record Header : Type 0 where
  pub nodes : ℕ
  pub destination : ℕ
  pub list : List ℕ

abbrev pub opening : Header → Opening
opening h = open_from h.nodes h.destination h.list

-- so many numbers, one after the other
unfoldable pub read_numbers : ℕ → List ℕ → ℕ → Read (List ℕ)
read_numbers zero file at = had [] at
read_numbers (suc k) file at = and_then (read_number file at) λ n p. and_then (read_numbers k file p) λ ns q. had (n ∷ ns) q

-- a header is had where its opening is accepted
abbrev pub accepted : Header → ℕ → Read Header
accepted h next = cond (eqb (opening h).answer answers.done) (had h next) (refused (opening h).answer (opening h).place)

-- "Reading a header: node count, destination and link count (11), then 2, then the links (11), then 3, then 4."
unfoldable pub read_header : List ℕ → ℕ → Read Header
read_header file at =
    and_then (read_number file at) λ nodes p.
    and_then (read_number file p) λ destination q.
    and_then (read_number file q) λ links r.
    cond (not (sized nodes destination links)) (refused answers.bad_sizes 0)
    (and_then (read_numbers (2 * links) file r) λ list next.
    accepted (record { nodes = nodes; destination = destination; list = list }) next)

-- ---- "events .., each a kind and an argument: 1 send (node), 2 deliver (lane), 3 lose (lane), 4 fail (link)"
unfoldable pub of_kind : ℕ → Option (ℕ → Event)
of_kind kind =
    cond (eqb kind 1) (some send) (cond (eqb kind 2) (some deliver) (cond (eqb kind 3) (some lose) (cond (eqb kind 4) (some fail) none)))

abbrev pub kind : Event → ℕ
kind (send v) = 1
kind (deliver x) = 2
kind (lose x) = 3
kind (fail l) = 4

abbrev pub argument : Event → ℕ
argument (send v) = v
argument (deliver x) = x
argument (lose x) = x
argument (fail l) = l

-- "an unknown kind" is spoilt, whatever follows it
abbrev pub with_kind : Option (ℕ → Event) → ℕ → Read ℕ → Read (Option Event)
with_kind none at argument = refused answers.spoilt at
with_kind (some make) at argument = and_then argument λ a next. had (some (make a)) next

-- the event at a position; "a file that ends between events is whole"
unfoldable pub read_event : List ℕ → ℕ → Read (Option Event)
read_event file at =
    cond (leb (length file) at) (had none (length file))
    (and_then (read_number file at) λ k p. with_kind (of_kind k) at (read_number file p))

-- the events up to the end or to a spoilt one, and the place of that one
pub record Reading : Type 0 where
  pub events : List Event
  pub spoilt : Option ℕ

abbrev pub and_more : Read (Option Event) → (ℕ → Reading) → Reading
and_more (had none next) more = record { events = []; spoilt = none }
and_more (had (some e) next) more = record { events = e ∷ (more next).events; spoilt = (more next).spoilt }
and_more (refused answer place) more = record { events = []; spoilt = some place }

-- an event takes some byte, so a file has fewer events than the fuel
unfoldable pub events_from : ℕ → List ℕ → ℕ → Reading
events_from zero file at = record { events = []; spoilt = none }
events_from (suc fuel) file at = and_more (read_event file at) λ next. events_from fuel file next

unfoldable pub read_events : List ℕ → ℕ → Reading
read_events file at = events_from (suc (length file)) file at

-- ---- a whole drill
pub record Drill : Type 0 where
  pub header : Header
  pub events : List Event

abbrev pub drill_of : Header → Reading → ℕ → Read Drill
drill_of h r end = whole_of r.spoilt
  where
    whole_of : Option ℕ → Read Drill
    whole_of none = had (record { header = h; events = r.events }) end
    whole_of (some place) = refused answers.spoilt place

unfoldable pub read : List ℕ → Read Drill
read file = and_then (read_header file 0) λ h next. drill_of h (read_events file next) (length file)
