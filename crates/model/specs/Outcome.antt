-- What an event gives: its answer, the packet that it handled and where that went, and the state that it leaves.
use Rattle.std.specs.Prelude.{ℕ, ◌+◌, not, cond, leb}
use Rattle.model.specs.declared.Handled.{Handled}
use Rattle.model.specs.declared.Handled.TheVariants as handled
use Rattle.model.specs.declared.Went.{Went}
use Rattle.model.specs.declared.Went.TheVariants as went
use Rattle.model.specs.Limits.{events_most}
use Rattle.model.specs.Answers as answers
use Rattle.model.specs.State.{State}
use Rattle.model.specs.Formed.{well_formed}
use Rattle.model.specs.Departure.{update, door, pass}

pub record Outcome : Type 0 where
  pub state : State
  pub answer : ℕ
  pub handled : Handled
  pub went : Went

-- "Every refusal leaves the record .. unchanged and gives no packet."
abbrev pub refuse : State → ℕ → Outcome
refuse s answer = record { state = s; answer = answer; handled = handled.Nothing; went = went.Nowhere }

-- Order for events: 1, 5, then what the event itself asks.
unfoldable pub accepting : State → Outcome → Outcome
accepting s o =
    cond (not (well_formed s)) (refuse s answers.not_formed)
    (cond (leb events_most s.counts.events) (refuse s answers.no_more_events) o)

-- An accepted event counts, and so do the packets that it admits, delivers, loses and strands.
unfoldable pub counted : State → ℕ → ℕ → ℕ → ℕ → State
counted s admitted delivered lost stranded =
    record {
      net = s.net;
      up = s.up;
      ends = s.ends;
      turns = s.turns;
      flight = s.flight;
      counts = record {
        events = s.counts.events + 1;
        admitted = s.counts.admitted + admitted;
        delivered = s.counts.delivered + delivered;
        lost = s.counts.lost + lost;
        stranded = s.counts.stranded + stranded;
      };
    }

abbrev pub gives : State → ℕ → Went → Outcome
gives s n w = record { state = s; answer = answers.done; handled = handled.Packet n; went = w }

-- packet n leaves by end x
abbrev pub leaves : State → ℕ → ℕ → Outcome
leaves s x n = gives (pass s x n) n (went.Lane x)

-- "departure update, then .. the lowest-numbered live Out link"
abbrev pub leaves_by : State → ℕ → ℕ → Outcome
leaves_by s v n = leaves s (door s v) n

unfoldable pub onward : State → ℕ → ℕ → Outcome
onward s v n = leaves_by (update s v) v n
