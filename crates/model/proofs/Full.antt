-- The state after so many sends on one link, with no send computed: for the cases that fill it. Assumes nothing.
use Prim.Native.Nat.{ℕ, zero, suc, ◌+◌, ◌<◌, ◌≤◌}
use native.Mathlib.Omega.{arith}
use native.Mathlib.Numerals.{add-one}
use mathlib.Core.Path.{◌≡◌, refl, sym, ◌∙◌, ap}
use mathlib.Core.Bool.{true, false}
use mathlib.Core.List.{List, [], ◌∷◌, ◌++◌}
use lib.ListN.{length, replicate, length-append}
use borrow.Author.Tests.{lt-leb}
use Rattle.model.specs.Limits.{flight_most, events_most}
use Rattle.model.specs.Below.{any, all, first, tab}
use Rattle.model.specs.State.{Packet, State}
use Rattle.model.specs.Formed.{sized, well_formed}
use Rattle.model.specs.Departure.{has_live, has_out, update, door, pass}
use Rattle.model.specs.Outcome.{accepting, counted, onward}
use Rattle.model.specs.Send.{send_to}
use Rattle.model.specs.Events.{Event, send, event}
use Rattle.model.specs.Opening.{opened, sets_out, holds_closed_walk, first_bad_link, open_from}
use Rattle.model.specs.History.{after}
use Rattle.model.specs.File.{opening}
use Rattle.model.specs.Rows.{last, Gives, from_outcome, given}
use Rattle.model.specs.Cases.{count, one_link}
use Rattle.model.proofs.Steps.{step}
use Rattle.model.proofs.Kept.{kept}
use Rattle.model.proofs.Opened.{opening_formed}

unfoldable pub packets : ℕ → List Packet
packets zero = []
packets (suc k) = packets k ++ (record { number = k; lane = 0; bit = false } ∷ [])

unfoldable pub sent : ℕ → State
unfolding opened
sent k =
    let s = opened 2 0 (1 ∷ 0 ∷ []) in
    record { net = s.net; up = s.up; ends = s.ends; turns = s.turns; flight = packets k; counts = count k k 0 0 0 }

packets_long : (k : ℕ) → length (packets k) ≡ k
unfolding packets
packets_long zero = refl
packets_long (suc k) = length-append (packets k) _ ∙ rw (packets_long k, add-one)

one_more : (k : ℕ) → k < flight_most → well_formed (sent k) ≡ true → (event (sent k) (send 1)).state ≡ sent (suc k)
unfolding event send_to accepting counted onward pass update has_live has_out door any first opened sent packets
one_more k h w = rw (w, lt-leb events_most k (omega arith), packets_long k, lt-leb flight_most k h, add-one)

sends : (k n : ℕ) → k + n ≤ flight_most → well_formed (sent k) ≡ true → after (sent k) (replicate n (send 1)) ≡ sent (k + n)
unfolding after
sends k zero h w = ap sent (omega arith)
sends k (suc n) h w =
    let e : (event (sent k) (send 1)).state ≡ sent (suc k) = one_more k (omega arith) w in
    let v : well_formed (sent (suc k)) ≡ true = ap well_formed (sym e) ∙ kept (step (sent k) (send 1)) w in
    ap (λ (s : State). after s (replicate n (send 1))) e ∙ sends (suc k) n (omega arith) v ∙ ap sent (omega arith)

pub after_append : (s : State) (xs ys : List Event) → after s (xs ++ ys) ≡ after (after s xs) ys
unfolding after
after_append s [] ys = refl
after_append s (x ∷ xs) ys = after_append (event s x).state xs ys

opened_sent : (opening one_link).state ≡ sent 0
unfolding any all first tab sized first_bad_link sets_out holds_closed_walk open_from opened sent packets
opened_sent = refl

full : after (opening one_link).state (replicate 256 (send 1)) ≡ sent 256
full =
    ap (λ (s : State). after s (replicate 256 (send 1))) opened_sent
    ∙ sends 0 256 (omega arith) (ap well_formed (sym opened_sent) ∙ opening_formed 2 0 (1 ∷ 0 ∷ []))

-- a row whose events begin with 256 sends, from its other events at the full link
pub from_full : (es : List Event) (e : Event) {r : Gives} → from_outcome (event (after (sent 256) es) e) ≡ r
    → given (last one_link (replicate 256 (send 1) ++ es) e) ≡ r
unfolding given
from_full es e p =
    ap (λ (s : State). from_outcome (event s e))
    (after_append (opening one_link).state (replicate 256 (send 1)) es ∙ ap (λ (s : State). after s es) full)
    ∙ p
