-- The numbers that an event of a well-formed record gives are in range, also after a run of events. Assumes nothing.
use Prim.Native.Nat.{ℕ, ◌<◌, ◌≤◌}
use native.Mathlib.Omega.{arith}
use mathlib.Core.Path.{◌≡◌, ◌∙◌}
use mathlib.Core.Bool.{true}
use mathlib.Core.List.{List, [], ◌∷◌}
use Rattle.model.specs.declared.Went.{Went}
use Rattle.model.specs.declared.Went.TheVariants as went
use Rattle.model.specs.Limits.{ends_most, events_most}
use Rattle.model.specs.Answers as answers
use Rattle.model.specs.State.{opp, Packet, State, lanes}
use Rattle.model.specs.Formed.{well_formed}
use Rattle.model.specs.Departure.{has_live, update, door}
use Rattle.model.specs.Outcome.{Outcome, counted, gives, onward}
use Rattle.model.specs.Events.{Event, event}
use Rattle.model.specs.History.{after}
use Rattle.model.specs.Promises.{InRange, Named}
use Rattle.model.proofs.Numbers.{never}
use Rattle.model.proofs.Format.{sizes_small}
use Rattle.model.proofs.Ends.{opp_below}
use Rattle.model.proofs.Departure.{door_out, update_out, update_net}
use Rattle.model.proofs.Formed.{Marked, Formed, formed_if}
use Rattle.model.proofs.Steps.{Refused, spoilt, over, none, down, bare, full, astray, Oldest, Heard, rest, Step, refused, at_home, strands, sends, comes_home, bounces, goes_on, loses, fails, step}
use Rattle.model.proofs.Kept.{heard, same_live, reached, numbered, kept}

-- a refusal's answer is one of an event's
refusal : {s : State} {e : Event} {a : ℕ} → Refused s e a → a ≤ answers.out_of_step
refusal (spoilt w) = omega arith
refusal (over h) = omega arith
refusal none = omega arith
refusal down = omega arith
refusal bare = omega arith
refusal full = omega arith
refusal (astray old o n) = omega arith

-- a departing packet takes a lane of the record
onward_lane : (s : State) (v : ℕ) → Marked s → has_live s v ≡ true → door (update s v) v < lanes s
onward_lane s v m e =
    let d = door_out (update s v) v (update_out s v (λ x i h. (m x i h).1) e) in
    let same : lanes (update s v) ≡ lanes s = rw update_net in
    omega (arith, d.0)

module _ (s : State) (w : well_formed s ≡ true) where
  abbrev formed : Formed 0 0 s
  formed = formed_if s w

  pub few_lanes : lanes s ≤ ends_most
  few_lanes = omega (arith, (sizes_small s.net.nodes s.net.destination s.net.links formed.net.sizes).2)

  -- a packet is given, with the way it went
  given : (t : State) (n : ℕ) (way : Went) → n < events_most → ((x : ℕ) → way ≡ went.Lane x → x < lanes s) → InRange s (gives t n way)
  given t n way below on =
      record { answer = omega arith; packet = λ m e. let same : n ≡ m = cc in omega arith; lane = on; few_lanes = few_lanes }

  on_some_lane : (t : State) (n z : ℕ) → n < events_most → z < lanes s → InRange s (gives t n (went.Lane z))
  on_some_lane t n z below inside = given t n (went.Lane z) below (λ x e. let same : z ≡ x = cc in omega arith)

  -- the packet that is taken off a lane was admitted
  was_admitted : {x : ℕ} {p : Packet} → Oldest s x p → p.number < events_most
  was_admitted old = omega (arith, numbered old formed, formed.fewer, formed.within)

  sent : (v : ℕ) → has_live s v ≡ true → door (update (counted s 1 0 0 0) v) v < lanes s
  unfolding counted has_live
  sent v l = onward_lane (counted s 1 0 0 0) v formed.marked l

  passed_on : {x : ℕ} {p : Packet} {t : State} → Oldest s x p → Heard s x p t
      → door (update (counted t 0 0 0 0) (s.net.node (opp x))) (s.net.node (opp x)) < lanes s
  unfolding counted has_live
  passed_on {x} {t = t} old h =
      let v = s.net.node (opp x) in
      let below = onward_lane (counted t 0 0 0 0) v (heard old h formed).marked (same_live h v ∙ reached old) in
      let same : lanes t ≡ lanes s = rw (rest h).net in
      omega arith

  in_range : {e : Event} {o : Outcome} → Step s e o → InRange s o
  unfolding onward
  in_range (refused r) = record { answer = refusal r; packet = λ n e. never cc; lane = λ x e. never cc; few_lanes = few_lanes }
  in_range (at_home r d) = given _ _ went.Delivered (omega (arith, formed.fewer, r.room)) (λ x e. never cc)
  in_range (strands r d n) = given _ _ went.Stranded (omega (arith, formed.fewer, r.room)) (λ x e. never cc)
  in_range (sends {v = v} r d l m) = on_some_lane _ _ _ (omega (arith, formed.fewer, r.room)) (sent v l)
  in_range (comes_home old h d) = given _ _ went.Delivered (was_admitted old) (λ x e. never cc)
  in_range (bounces {x = x} old o n d) = on_some_lane _ _ (opp x) (was_admitted old) (opp_below x s.net.links old.inside)
  in_range (goes_on old h d) = on_some_lane _ _ _ (was_admitted old) (passed_on old h)
  in_range (loses old) = given _ _ went.Lost (was_admitted old) (λ x e. never cc)
  in_range (fails r i u) = record { answer = omega arith; packet = λ n e. never cc; lane = λ x e. never cc; few_lanes = few_lanes }

pub formed_after : (s : State) (es : List Event) → well_formed s ≡ true → well_formed (after s es) ≡ true
unfolding after
formed_after s [] w = w
formed_after s (e ∷ es) w = formed_after (event s e).state es (kept (step s e) w)

pub named : Named
named =
    record {
      one = λ s e w. in_range s w (step s e);
      run = λ s es e w. in_range (after s es) (formed_after s es w) (step (after s es) e);
    }
