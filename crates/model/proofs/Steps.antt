-- What an event can do, case by case, each with what its tests told: every law of histories is proved by these cases. Assumes nothing.
use Prim.Native.Nat.{ℕ, ◌-◌, ◌<◌, ◌≤◌}
use mathlib.Core.Path.{◌≡◌, refl}
use mathlib.Core.Logic.{◌⊎◌, inl, inr}
use mathlib.Core.Bool.{Bool, true, false, not, cond, xor, ◌&&◌}
use mathlib.Core.List.{List, [], ◌∷◌}
use lib.Dec.{leb, eqb}
use lib.ListN.{length}
use borrow.Author.Tests.{leb-true, leb-false, not-true, not-false}
use Rattle.model.specs.declared.Handled.TheVariants as handled
use Rattle.model.specs.declared.Went.TheVariants as went
use Rattle.model.specs.Limits.{flight_most, events_most}
use Rattle.model.specs.Answers as answers
use Rattle.model.specs.State.{opp, Packet, State, lanes, whole}
use Rattle.model.specs.Formed.{well_formed}
use Rattle.model.specs.Departure.{has_live}
use Rattle.model.specs.Outcome.{Outcome, refuse, accepting, counted, gives, leaves, onward}
use Rattle.model.specs.Send.{send_to}
use Rattle.model.specs.Lanes.{on_lane, less, taken, with_oldest, off_lane}
use Rattle.model.specs.Deliver.{news, arrives, deliver_on}
use Rattle.model.specs.Lose.{lose_on}
use Rattle.model.specs.Fail.{off, cut, fail_of}
use Rattle.model.specs.Events.{Event, send, deliver, lose, fail, event}

-- the record is well formed and there is room for an event
pub record Ready (s : State) : Type 0 where
  pub formed : well_formed s ≡ true
  pub room : s.counts.events < events_most

-- p is the oldest packet of lane x, whose link is whole
pub record Oldest (s : State) (x : ℕ) (p : Packet) : Type 0 where
  pub ready : Ready s
  pub inside : x < lanes s
  pub joined : whole s x ≡ true
  pub rest : List Packet
  pub first : on_lane x s.flight ≡ p ∷ rest

-- the bit is new to the end that it reaches
abbrev pub is_new : State → ℕ → Packet → Bool
is_new s x p = xor p.bit (s.ends.remote (opp x))

-- the state in which packet p of lane x has been heard, and is yet to be delivered or passed on
pub data Heard (s : State) (x : ℕ) (p : Packet) : State → Type 0 where
  told : s.ends.out (opp x) ≡ true → is_new s x p ≡ true → Heard s x p (news (taken s x) (opp x))
  known : is_new s x p ≡ false → Heard s x p (taken s x)

-- hearing a packet takes it out of flight; but for the ends, nothing else changes
pub record Rest (s t : State) (x : ℕ) : Type 0 where
  pub net : t.net ≡ s.net
  pub up : t.up ≡ s.up
  pub turns : t.turns ≡ s.turns
  pub flight : t.flight ≡ less x s.flight
  pub counts : t.counts ≡ s.counts

pub rest : {s : State} {x : ℕ} {p : Packet} {t : State} → Heard s x p t → Rest s t x
unfolding news taken
rest (told o n) = record { net = refl; up = refl; turns = refl; flight = refl; counts = refl }
rest (known n) = record { net = refl; up = refl; turns = refl; flight = refl; counts = refl }

-- "When, and only then", so far as the laws ask
pub data Refused (s : State) : Event → ℕ → Type 0 where
  spoilt : {e : Event} → well_formed s ≡ false → Refused s e answers.not_formed
  over : {e : Event} → events_most ≤ s.counts.events → Refused s e answers.no_more_events
  none : {e : Event} → Refused s e answers.no_such
  down : {e : Event} → Refused s e answers.link_down
  bare : {e : Event} → Refused s e answers.lane_empty
  full : {v : ℕ} → Refused s (send v) answers.flight_full
  astray : {x : ℕ} {p : Packet} → Oldest s x p → s.ends.out (opp x) ≡ false → is_new s x p ≡ true
      → Refused s (deliver x) answers.out_of_step

pub data Step (s : State) : Event → Outcome → Type 0 where
  refused : {e : Event} {a : ℕ} → Refused s e a → Step s e (refuse s a)
  at_home : {v : ℕ} → Ready s → eqb v s.net.destination ≡ true
      → Step s (send v) (gives (counted s 1 1 0 0) s.counts.admitted went.Delivered)
  strands : {v : ℕ} → Ready s → eqb v s.net.destination ≡ false → has_live s v ≡ false
      → Step s (send v) (gives (counted s 1 0 0 1) s.counts.admitted went.Stranded)
  sends : {v : ℕ} → Ready s → eqb v s.net.destination ≡ false → has_live s v ≡ true → length s.flight < flight_most
      → Step s (send v) (onward (counted s 1 0 0 0) v s.counts.admitted)
  comes_home : {x : ℕ} {p : Packet} {t : State} → Oldest s x p → Heard s x p t
      → eqb (s.net.node (opp x)) s.net.destination ≡ true
      → Step s (deliver x) (gives (counted t 0 1 0 0) p.number went.Delivered)
  bounces : {x : ℕ} {p : Packet} → Oldest s x p → s.ends.out (opp x) ≡ true → is_new s x p ≡ false
      → eqb (s.net.node (opp x)) s.net.destination ≡ false
      → Step s (deliver x) (leaves (counted (taken s x) 0 0 0 0) (opp x) p.number)
  goes_on : {x : ℕ} {p : Packet} {t : State} → Oldest s x p → Heard s x p t
      → eqb (s.net.node (opp x)) s.net.destination ≡ false
      → Step s (deliver x) (onward (counted t 0 0 0 0) (s.net.node (opp x)) p.number)
  loses : {x : ℕ} {p : Packet} → Oldest s x p
      → Step s (lose x) (gives (counted (taken s x) 0 0 1 0) p.number went.Lost)
  fails : {l : ℕ} → Ready s → l < s.net.links → s.up l ≡ true
      → Step s (fail l)
      (record {
        state = counted (cut s l) 0 0 (length s.flight - length (off l s.flight)) 0;
        answer = answers.done;
        handled = handled.Nothing;
        went = went.Nowhere;
      })

module _ (s : State) where
  -- one test of a chain
  either : (b : Bool) {e : Event} {o r : Outcome} → (b ≡ true → Step s e o) → (b ≡ false → Step s e r) → Step s e (cond b o r)
  either true f g = f refl
  either false f g = g refl

  passed : {e : Event} {o : Outcome} → (Ready s → Step s e o) → Step s e (accepting s o)
  unfolding accepting
  passed f =
      either (not (well_formed s)) (λ b. refused (spoilt (not-true (well_formed s) b)))
      (λ b. either (leb events_most s.counts.events) (λ c. refused (over (leb-true events_most s.counts.events c)))
      (λ c. f (record { formed = not-false (well_formed s) b; room = leb-false events_most s.counts.events c })))

  sending : (v : ℕ) → Step s (send v) (send_to s v)
  unfolding send_to
  sending v =
      passed
      (λ r. either (leb s.net.nodes v) (λ _. refused none)
      (λ _. either (eqb v s.net.destination) (λ d. at_home r d)
      (λ d. either (not (has_live s v)) (λ h. strands r d (not-true (has_live s v) h))
      (λ h. either (leb flight_most (length s.flight)) (λ _. refused full)
      (λ f. sends r d (not-false (has_live s v) h) (leb-false flight_most (length s.flight) f))))))

  -- deliver and lose
  taking : (x : ℕ) {e : Event} (f : Packet → Outcome) → ((p : Packet) → Oldest s x p → Step s e (f p)) → Step s e (off_lane s x f)
  unfolding off_lane
  taking x {e} f g =
      passed
      (λ r. either (leb (lanes s) x) (λ _. refused none)
      (λ i. either (not (whole s x)) (λ _. refused down)
      (λ w. go r (leb-false (lanes s) x i) (not-false (whole s x) w) (on_lane x s.flight) refl)))
    where
      go : Ready s → x < lanes s → whole s x ≡ true → (ps : List Packet) → on_lane x s.flight ≡ ps → Step s e (with_oldest s ps f)
      go r i w [] q = refused bare
      go r i w (p ∷ ps) q = g p (record { ready = r; inside = i; joined = w; rest = ps; first = q })

  arriving : (x : ℕ) (p : Packet) → Oldest s x p → (o n : Bool) → s.ends.out (opp x) ≡ o → is_new s x p ≡ n
      → Step s (deliver x) (cond (not o && n) (refuse s answers.out_of_step) (arrives (taken s x) (opp x) p.number o n))
  unfolding arrives taken
  arriving x p old true true eo en =
      either (eqb (s.net.node (opp x)) s.net.destination) (comes_home old (told eo en)) (goes_on old (told eo en))
  arriving x p old true false eo en =
      either (eqb (s.net.node (opp x)) s.net.destination) (comes_home old (known en)) (bounces old eo en)
  arriving x p old false true eo en = refused (astray old eo en)
  arriving x p old false false eo en =
      either (eqb (s.net.node (opp x)) s.net.destination) (comes_home old (known en)) (goes_on old (known en))

  delivering : (x : ℕ) → Step s (deliver x) (deliver_on s x)
  unfolding deliver_on
  delivering x = taking x _ (λ p old. arriving x p old (s.ends.out (opp x)) (is_new s x p) refl refl)

  losing : (x : ℕ) → Step s (lose x) (lose_on s x)
  unfolding lose_on
  losing x = taking x _ (λ p old. loses old)

  failing : (l : ℕ) → Step s (fail l) (fail_of s l)
  unfolding fail_of
  failing l =
      passed
      (λ r. either (leb s.net.links l) (λ _. refused none)
      (λ i. either (not (s.up l)) (λ _. refused down)
      (λ u. fails r (leb-false s.net.links l i) (not-false (s.up l) u))))

  pub step : (e : Event) → Step s e (event s e)
  unfolding event
  step (send v) = sending v
  step (deliver x) = delivering x
  step (lose x) = losing x
  step (fail l) = failing l

-- an answer is 0, or the outcome is a refusal with its reason
pub record Refusal (s : State) (e : Event) (o : Outcome) : Type 0 where
  pub why : Refused s e o.answer
  pub outcome : o ≡ refuse s o.answer

pub answered : {s : State} {e : Event} {o : Outcome} → Step s e o → (o.answer ≡ answers.done) ⊎ Refusal s e o
unfolding onward
answered (refused r) = inr (record { why = r; outcome = refl })
answered (at_home r d) = inl refl
answered (strands r d n) = inl refl
answered (sends r d l m) = inl refl
answered (comes_home old h d) = inl refl
answered (bounces old o n d) = inl refl
answered (goes_on old h d) = inl refl
answered (loses old) = inl refl
answered (fails r i u) = inl refl
