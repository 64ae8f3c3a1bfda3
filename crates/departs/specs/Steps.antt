-- An event on the arrays of a record: what is asked of them.
use Rattle.std.specs.Prelude.{ℕ, ◌+◌, ◌*◌, ◌/◌, ◌<◌, ◌≤◌, ◌≡◌, true, false, IfSome, Option, length, get_or}
use Rattle.model.specs.Limits.{nodes_most, links_most, ends_most, flight_most, events_most}
use Rattle.model.specs.State.{State}
use Rattle.model.specs.Outcome.{Outcome}
use Rattle.std.specs.Borrow.{Bor}
use Rattle.arrays.specs.declared.record.Plan.{Plan}
use Rattle.arrays.specs.declared.record.Arrows.{Arrows}
use Rattle.arrays.specs.declared.record.Tally.{Tally}
use Rattle.ways.specs.declared.chain.Threads.{Threads}
use Rattle.ways.specs.Chains.{Chain}
use Rattle.turning.specs.Turned.{Long}
use Rattle.departs.specs.declared.tally.Step.{Step}

-- what a step gives, beside the state that it leaves
abbrev pub outcome_of : State → Step → Outcome
outcome_of s r = record { state = s; answer = r.answer; handled = r.handled; went = r.went }

-- every array that a packet's way can change has its full length
pub record Room (a : Arrows) : Type 0 where
  pub long : Long a
  pub turns_long : length a.turns ≡ nodes_most

-- and so has every array that any event can change
pub record Whole (a : Arrows) : Type 0 where
  pub live_long : length a.live ≡ links_most
  pub remote_long : length a.remote ≡ ends_most
  pub more : Room a

-- where the chains are threaded they are right
abbrev pub Chained : Option (Bor Threads) → Plan → Type 0
Chained threads p = IfSome threads (λ t. (v : ℕ) → v < nodes_most → Chain p t.now v)

-- marked ends are on live links
abbrev pub MarksLive : Plan → Arrows → Type 0
MarksLive p a = (x : ℕ) → x < 2 * p.links → get_or a.mark x false ≡ true → get_or a.live (x / 2) false ≡ true

-- counts that have room for an event more
pub record Fair (t : Tally) : Type 0 where
  pub events : t.events < events_most
  pub admitted : t.admitted < events_most
  pub delivered : t.delivered ≤ events_most
  pub lost : t.lost ≤ events_most
  pub stranded : t.stranded ≤ events_most

-- an event more, with so many packets in flight
abbrev pub tally_after : Tally → ℕ → ℕ → ℕ → ℕ → ℕ → Tally
tally_after t flying admitted delivered lost stranded =
    record {
      flying = flying;
      events = t.events + 1;
      admitted = t.admitted + admitted;
      delivered = t.delivered + delivered;
      lost = t.lost + lost;
      stranded = t.stranded + stranded;
    }

-- what the check of a record tells of its arrays
pub record Sound (p : Plan) (a : Arrows) (t : Tally) : Type 0 where
  pub nodes_fit : p.nodes ≤ nodes_most
  pub a_node : p.destination < p.nodes
  pub links_fit : p.links ≤ links_most
  pub flying : t.flying ≤ flight_most
  pub fair : t.events < events_most → Fair t
  pub named : (x : ℕ) → x < 2 * p.links → get_or p.node x 0 < p.nodes
  pub marks : MarksLive p a
  pub turned : (v : ℕ) → v < p.nodes → get_or a.turns v 0 ≤ t.events
