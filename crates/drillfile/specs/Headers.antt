-- What the outcomes of headers stand for, in the document's words.
use Rattle.std.specs.Prelude.{ℕ, ◌*◌, ◌≡◌, ◌⊎◌, List, [], Err}
use Rattle.model.specs.Answers as answers
use Rattle.model.specs.State.{State}
use Rattle.model.specs.Opening.{opened}
use Rattle.model.specs.Number.{Read, had, refused}
use Rattle.model.specs.File.{and_then, Header, opening, read_numbers, accepted}
use Rattle.network.specs.View.{view}
use Rattle.network.specs.Opening.{lone_network}
use Rattle.entries.specs.declared.answers.Cursor.{Cursor}
use Rattle.entries.specs.declared.answers.Refusal.{Refusal}
use Rattle.entries.specs.Outcomes.{answer_in, place_in}
use Rattle.drillfile.specs.declared.answers.Headed.{Headed}

abbrev pub header_of : ℕ → ℕ → List ℕ → Header
header_of nodes destination list = record { nodes = nodes; destination = destination; list = list }

-- the record that a reader sees, the answer, its place, and the position after
pub record HeaderSeen : Type 0 where
  pub state : State
  pub answer : ℕ
  pub place : ℕ
  pub next : ℕ

abbrev pub seen_header : Headed → HeaderSeen
seen_header r = record { state = view r.network; answer = answer_in r.outcome; place = place_in r.outcome; next = r.next.at }

-- the same of what `model` reads: "A refused opening or header gives the record of one node"; the position after it is where it was asked
abbrev pub header_seen : ℕ → Read Header → HeaderSeen
header_seen at (had h next) = record { state = (opening h).state; answer = answers.done; place = 0; next = next }
header_seen at (refused answer place) = record { state = opened 1 0 []; answer = answer; place = place; next = at }

pub record HeaderPost (at : ℕ) (read : Read Header) (r : Headed) : Type 0 where
  pub outcome : seen_header r ≡ header_seen at read
  -- a refusal gives one record, to its last entry
  pub lone : (answer_in r.outcome ≡ answers.done → ⊥) → r.network ≡ lone_network

abbrev pub refused_header : Refusal → Cursor → Headed
refused_header refusal from = record { network = lone_network; outcome = Err refusal; next = from }

-- the answers of an opening, each with its place
abbrev pub OpeningAnswer : ℕ → ℕ → Type 0
OpeningAnswer answer place =
    ((answer ≡ answers.done) × (place ≡ 0))
    ⊎ (((answer ≡ answers.bad_sizes) × (place ≡ 0)) ⊎ ((answer ≡ answers.bad_link) ⊎ ((answer ≡ answers.closed_walk) × (place ≡ 0))))

-- what is left to read once the sizes hold
abbrev pub from_links : ℕ → ℕ → ℕ → List ℕ → ℕ → Read Header
from_links nodes destination links file at =
    and_then (read_numbers (2 * links) file at) λ list next. accepted (header_of nodes destination list) next
