-- What a step's answer and counts make of a state. Assumes nothing.
use Prim.Native.Nat.{ℕ, ◌+◌, ◌*◌, ◌<◌}
use mathlib.Core.Path.{◌≡◌, sym, ap, ◌∙◌}
use mathlib.Core.Bool.{Bool, false}
use mathlib.Core.List.{List}
use lib.ListN.{length, length-append}
use Rattle.model.specs.declared.Handled.{Handled}
use Rattle.model.specs.declared.Handled.TheVariants as handled
use Rattle.model.specs.declared.Went.{Went}
use Rattle.model.specs.declared.Went.TheVariants as went
use Rattle.model.specs.State.{Packet}
use Rattle.model.specs.Departure.{pass}
use Rattle.model.specs.Outcome.{counted, gives, leaves}
use Rattle.arrays.specs.declared.record.Plan.{Plan}
use Rattle.arrays.specs.declared.record.Arrows.{Arrows}
use Rattle.arrays.specs.declared.record.Tally.{Tally}
use Rattle.arrays.specs.View.{shown}
use Rattle.arrays.specs.Told.{passed_by, passed}
use Rattle.arrays.proofs.Below.{used_in}
use Rattle.departs.specs.declared.tally.Step.{Step}
use Rattle.departs.specs.Steps.{outcome_of, tally_after}

module _ (p : Plan) (a : Arrows) (flight : List Packet) where
  -- counted, the packets in flight apart
  pub counted_is : (t : Tally) {t' : Tally} (k admitted delivered lost stranded : ℕ) → t' ≡ tally_after t k admitted delivered lost stranded
      → shown p a flight t'
      ≡ counted (shown p a flight t) admitted delivered lost stranded
  unfolding counted
  counted_is t k admitted delivered lost stranded e = rw e

  module _ {r : Step} {t : Tally} where
    -- a packet was handled, and is in flight no more
    pub done_stays : {n : ℕ} {w : Went} → r ≡ record { tally = t; answer = 0; handled = handled.Packet n; went = w } → passed_by a.local flight n w ≡ flight
        → outcome_of (shown p a (passed a.local flight r.handled r.went) r.tally) r
        ≡ gives (shown p a flight t) n w
    done_stays q s = rw (q, s)

    -- it left by end x
    pub done_leaves : {n x : ℕ} → r ≡ record { tally = t; answer = 0; handled = handled.Packet n; went = went.Lane x } → x < 2 * p.links
        → outcome_of (shown p a (passed a.local flight r.handled r.went) r.tally) r
        ≡ leaves (shown p a flight t) x n
    unfolding pass
    done_leaves {x = x} q h = rw (q, used_in (2 * p.links) false a.local x h)

    -- none was
    pub bare_stays : {answer : ℕ} → r ≡ record { tally = t; answer = answer; handled = handled.Nothing; went = went.Nowhere }
        → outcome_of (shown p a (passed a.local flight r.handled r.went) r.tally) r
        ≡ record {
          state = shown p a flight t;
          answer = answer;
          handled = handled.Nothing;
          went = went.Nowhere;
        }
    bare_stays q = rw q

-- ---- how many are in flight after it
module _ (local : List Bool) (flight : List Packet) {r : Step} {t : Tally} {answer : ℕ} where
  pub stays_long : {h : Handled} {w : Went} → r ≡ record { tally = t; answer = answer; handled = h; went = w } → passed local flight h w ≡ flight
      → length flight ≡ t.flying → length (passed local flight r.handled r.went) ≡ r.tally.flying
  stays_long q s e = rw (q, s) e

  pub leaves_long : {n x : ℕ} → r ≡ record { tally = t; answer = answer; handled = handled.Packet n; went = went.Lane x }
      → t.flying ≡ length flight + 1 → length (passed local flight r.handled r.went) ≡ r.tally.flying
  leaves_long q e = rw q (length-append flight _ ∙ sym e)

-- ---- what a refusal leaves
module _ {r : Step} {t : Tally} {answer : ℕ} {h : Handled} {w : Went} (q : r ≡ record { tally = t; answer = answer; handled = h; went = w }) where
  pub tally_is : r.tally ≡ t
  tally_is = ap (λ (s : Step). s.tally) q

  pub answer_is : r.answer ≡ answer
  answer_is = ap (λ (s : Step). s.answer) q
