-- The theorems' words in the states of specs/Shown.antt, by computation. Assumes nothing.
use Prim.Native.Nat.{ℕ, zero, suc, ◌<◌}
use native.Mathlib.Omega.{arith}
use mathlib.Core.Path.{◌≡◌, refl, sym, ◌∙◌, ap}
use mathlib.Core.Bool.{Bool, true, false, xor, ◌&&◌, true≢false}
use lib.Dec.{ltb, eqb}
use mathlib.Core.List.{List, [], ◌∷◌, ◌++◌}
use lib.ListN.{length, get_or}
use borrow.Author.Tests.{ltb-true, eqb-true}
use Rattle.model.specs.Below.{any, all, first, tab}
use Rattle.model.specs.State.{opp, State, lanes, whole}
use Rattle.model.specs.Departure.{has_live, has_out, has_mark, turn, update, door, pass}
use Rattle.model.specs.Formed.{sized, limits_hold, link_formed, end_formed, packet_formed, packets_formed, turns_formed, summed, well_formed}
use Rattle.model.specs.Outcome.{accepting, counted, onward}
use Rattle.model.specs.Send.{send_to}
use Rattle.model.specs.Lanes.{on_lane, less, taken, off_lane}
use Rattle.model.specs.Deliver.{news, arrives, deliver_on}
use Rattle.model.specs.Lose.{lose_on}
use Rattle.model.specs.Fail.{off, cut, fail_of}
use Rattle.model.specs.Events.{Event, send, fail, event}
use Rattle.model.specs.Opening.{opened, sets_out, holds_closed_walk, first_bad_link, open_from}
use Rattle.model.specs.History.{History, start, next, after, history_after, Ran}
use Rattle.model.specs.Paths.{Joined, here, over}
use Rattle.model.specs.Turns.{about, turns_in, turn_events}
use Rattle.model.specs.Places.{those, placed_by, placed, times}
use Rattle.model.specs.Agreement.{bits_on, OldThenNew, AllAre}
use Rattle.model.specs.Rows.{changed, made}
use Rattle.model.specs.Answers as answers
use Rattle.model.specs.File.{Header, opening}
use Rattle.model.specs.Cases.{one_link, away_from}
use Rattle.model.specs.Shown.{ran, Met, zigzag, two_turns, longer_zigzag, three_turns, circle, circle_turns, shortcut}
use Rattle.model.specs.Promises.{BoundMet, HistoriesAre, PlacesShown, AgreementTells, WritableTells, TurnsShown}
use Rattle.model.proofs.Below.{and_both}
use Rattle.model.proofs.Bound.{bound}
use Rattle.model.proofs.Full.{after_append}

-- ---- paths
-- whether these ends, one after the other, lead from node v to the destination
unfoldable leads : State → ℕ → List ℕ → Bool
leads s v [] = eqb v s.net.destination
leads s v (x ∷ xs) = eqb (s.net.node x) v && (ltb x (lanes s) && (whole s x && leads s (s.net.node (opp x)) xs))

led : (s : State) (v : ℕ) (xs : List ℕ) → leads s v xs ≡ true → Joined s v (length xs)
unfolding leads
led s v [] e = rw (eqb-true v s.net.destination e) here
led s v (x ∷ xs) e =
    let further = leads s (s.net.node (opp x)) xs in
    let a = and_both (eqb (s.net.node x) v) (ltb x (lanes s) && (whole s x && further)) e in
    let b = and_both (ltb x (lanes s)) (whole s x && further) a.1 in
    let c = and_both (whole s x) further b.1 in
    rw (eqb-true (s.net.node x) v a.0) at (over x (ltb-true x (lanes s) b.0) c.0 (led s (s.net.node (opp x)) xs c.1))

-- a node that has turned as often as it has links to the destination has no fewer on any path, by the bound itself
met : (h : Header) (es : List Event) (v : ℕ) (xs : List ℕ) → (opening h).answer ≡ answers.done
    → leads (ran h es) v xs && eqb ((ran h es).turns v) (length xs) ≡ true → Met h es v (length xs)
met h es v xs a e =
    let b = and_both (leads (ran h es) v xs) (eqb ((ran h es).turns v) (length xs)) e in
    let t : (ran h es).turns v ≡ length xs = eqb-true ((ran h es).turns v) (length xs) b.1 in
    record {
      accepted = a;
      joined = led (ran h es) v xs b.0;
      shortest = λ i p. omega (arith, bound (ran h es) (history_after (start h.nodes h.destination h.list a) es) v i p);
      turned = t;
    }

pub bound_met : BoundMet
unfolding any all first tab opp whole xor has_live has_out has_mark turn update door pass sized limits_hold link_formed end_formed packet_formed packets_formed turns_formed summed well_formed accepting counted onward send_to on_lane less taken off_lane news arrives deliver_on lose_on off cut fail_of event opened sets_out holds_closed_walk first_bad_link open_from after leads
bound_met =
    record {
      one = met away_from (send 1 ∷ []) 1 (1 ∷ []) refl refl;
      two = met zigzag two_turns 2 (2 ∷ 1 ∷ []) refl refl;
      three = met longer_zigzag three_turns 3 (5 ∷ 2 ∷ 1 ∷ []) refl refl;
      shorter = met circle circle_turns 2 (2 ∷ 1 ∷ []) refl refl;
      longer = led (ran circle circle_turns) 2 (5 ∷ 6 ∷ 9 ∷ []) refl;
      failed = met shortcut (fail 3 ∷ two_turns) 2 (2 ∷ 1 ∷ []) refl refl;
      not_yet_failed = led (ran shortcut []) 2 (6 ∷ []) refl;
      along = led (ran one_link []) 1 (0 ∷ []) refl;
      against = led (ran away_from []) 1 (1 ∷ []) refl;
    }

-- ---- histories
only : {s : State} → History s → Ran s
unfolding after
only (start nodes destination list a) =
    record { nodes = nodes; destination = destination; list = list; accepted = a; events = []; state = refl }
only (next h e) =
    let r = only h in
    record {
      nodes = r.nodes;
      destination = r.destination;
      list = r.list;
      accepted = r.accepted;
      events = r.events ++ (e ∷ []);
      state = after_append _ r.events (e ∷ []) ∙ ap (λ (s : State). (event s e).state) r.state;
    }

pub histories_are : HistoriesAre
histories_are =
    record {
      every = λ s r. rw r.state at (history_after (start r.nodes r.destination r.list r.accepted) r.events);
      only = λ s h. only h;
    }

-- ---- turns
pub turns_shown : TurnsShown
unfolding any all first tab opp whole xor has_live has_out has_mark turn update door pass sized limits_hold link_formed end_formed packet_formed packets_formed turns_formed summed well_formed accepting counted onward send_to on_lane less taken off_lane news arrives deliver_on lose_on off cut fail_of event opened sets_out holds_closed_walk first_bad_link open_from after about turns_in history_after turn_events
turns_shown h = refl

-- ---- places
pub places_shown : PlacesShown
unfolding any all first tab opp whole xor has_live has_out has_mark turn update door pass sized limits_hold link_formed end_formed packet_formed packets_formed turns_formed summed well_formed accepting counted onward send_to on_lane less taken off_lane news arrives deliver_on lose_on off cut fail_of event opened sets_out holds_closed_walk first_bad_link open_from after history_after those placed_by placed times
places_shown = record { crowded = λ h. refl; twice = refl; in_each = refl; shown = refl }

-- ---- agreement
-- a bit and then the other are no run of the first
not_all : (b c : Bool) → (b ≡ c → ⊥) → AllAre b (b ∷ c ∷ []) → ⊥
not_all b c n (zero, e) = let z : ◌≡◌ {A = ℕ} 0 1 = cc in omega arith
not_all b c n (suc zero, e) = let z : ◌≡◌ {A = ℕ} 0 1 = cc in omega arith
not_all b c n (suc (suc i), e) = n cc

-- nor a run of the other and then of the first
not_turned : (b c : Bool) → (b ≡ c → ⊥) → OldThenNew c b (b ∷ c ∷ []) → ⊥
not_turned b c n (suc i, j, e) = n cc
not_turned b c n (zero, j, e) = not_all b c n (j, e)

pub agreement_tells : AgreementTells
unfolding any all first tab sized opened sets_out holds_closed_walk first_bad_link open_from on_lane bits_on changed made
agreement_tells =
    record {
      agree = record { mine = refl; yours = refl; from_me = (1, refl); from_you = (1, refl) };
      other_mine = λ a. true≢false (sym a.mine);
      other_yours = λ a. true≢false a.yours;
      other_from_me = λ a. not_all true false true≢false a.from_me;
      other_from_you = λ a. not_all false true (λ e. true≢false (sym e)) a.from_you;
      untold = record { mine = refl; yours = refl; from_me = (1, 1, refl); from_you = (1, refl) };
      told_mine = λ a. true≢false a.mine;
      told_yours = λ a. true≢false a.yours;
      new_then_old = λ a. not_turned false true (λ e. true≢false (sym e)) a.from_me;
      told_from_you = λ a. not_all false true (λ e. true≢false (sym e)) a.from_you;
    }

-- ---- what can be written
pub writable_tells : WritableTells
unfolding any all first tab sized sets_out holds_closed_walk first_bad_link opened open_from
writable_tells =
    record {
      largest_byte = λ i. elim i as (λ k. get_or (255 ∷ []) k 0 < 256) [ zero ↦ omega arith | suc j ↦ omega arith ];
      no_byte = λ b. omega (arith, b 0);
      largest_argument = record { header = refl; arguments = (omega arith, tt) };
      no_argument = λ w. omega (arith, w.arguments.1.0);
      no_opening = λ w. omega (arith, w.header);
    }
