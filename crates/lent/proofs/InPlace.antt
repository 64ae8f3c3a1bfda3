-- What a well-formed record tells of its packets, and what an event leaves of the arrays. Assumes nothing.
use Prim.Native.Nat.{ℕ, zero, suc, ◌≤◌, ◌<◌}
use native.Mathlib.Omega.{arith}
use mathlib.Core.Path.{◌≡◌, refl, sym, ap, ◌∙◌}
use mathlib.Core.Bool.{true, false}
use mathlib.Core.List.{List}
use lib.ListN.{length, get_or}
use Rattle.model.specs.declared.Handled.TheVariants as handled
use Rattle.model.specs.declared.Went.TheVariants as went
use Rattle.model.specs.Limits.{ends_most, flight_most}
use Rattle.model.specs.Below.{tab}
use Rattle.model.specs.State.{Packet, State}
use Rattle.model.specs.Formed.{well_formed}
use Rattle.model.specs.Outcome.{Outcome}
use Rattle.model.proofs.Formed.{Flies, formed_if}
use Rattle.model.proofs.Lanes.{Each}
use Rattle.std.specs.Prelude.{Some}
use Rattle.arrays.specs.declared.Oldest.{Oldest}
use Rattle.arrays.specs.declared.Told.{Told}
use Rattle.arrays.specs.declared.record.Plan.{Plan}
use Rattle.arrays.specs.declared.record.Arrows.{Arrows}
use Rattle.arrays.specs.declared.record.Flight.{Flight}
use Rattle.arrays.specs.declared.record.Tally.{Tally}
use Rattle.arrays.specs.View.{packet_at, shown}
use Rattle.arrays.specs.Flight.{flying_in}
use Rattle.arrays.specs.Told.{tells}
use Rattle.arrays.proofs.Below.{length-tab}
use Rattle.departs.specs.declared.tally.Step.{Step}
use Rattle.steps.specs.Call.{call}
use Rattle.departs.specs.Steps.{outcome_of, Sound}
use Rattle.steps.proofs.Calls.{call_not_formed, handed_back, call_keeps}
use Rattle.departs.proofs.Sounds.{sizes_are, sound_if, few_fly}
use Rattle.steps.proofs.Tellings.{tells_there, tells_gone}
use Rattle.lent.specs.Lent.{LentPost}

each_at : (P : Packet → Type 0) (f : ℕ → Packet) (k : ℕ) → Each P (tab f k) → (i : ℕ) → i < k → P (f i)
unfolding tab
each_at P f zero e i h = absurd (omega arith)
each_at P f (suc k) e zero h = e.0
each_at P f (suc k) e (suc i) h = each_at P (λ j. f (suc j)) k e.1 i (omega arith)

module _ (p : Plan) (a : Arrows) (f : Flight) (t : Tally) where
  abbrev pub flying : List Packet
  flying = flying_in f t.flying

  abbrev pub seen : State
  seen = shown p a flying t

  pub many : length flying ≡ t.flying
  many = length-tab (packet_at f.number f.lane f.bit) t.flying

  module _ (formed : well_formed seen ≡ true) where
    pub few : t.flying ≤ flight_most
    few = omega (arith, few_fly seen formed, many)

    pub sound : Sound p a t
    sound = sound_if p a flying t many formed

    -- each packet in flight is on a lane
    pub lanes_named : (i : ℕ) → i < t.flying → get_or f.lane i 0 < ends_most
    lanes_named i h =
        let g = formed_if seen formed in
        let z = sizes_are p.nodes p.destination p.links g.net.sizes in
        let l = each_at (Flies seen) (packet_at f.number f.lane f.bit) t.flying g.flies i h in
        omega (arith, l.0, z.links_fit)

    -- an event leaves no more packets in flight than may be
    pub few_after : (kind argument : ℕ) (o : Outcome) → o ≡ call seen kind argument → length o.state.flight ≤ flight_most
    few_after kind argument o e = few_fly o.state (ap (λ (z : Outcome). well_formed z.state) e ∙ call_keeps seen kind argument ∙ formed)

  module _ (kind argument : ℕ) {told : Told} (e : told ≡ tells flying kind argument) where
    pub there : (o : Oldest) → told.oldest ≡ Some o → 0 < t.flying
    there o q = omega (arith, tells_there flying kind argument o (sym (ap (λ (t : Told). t.oldest) e) ∙ q), many)

    pub gone : told.gone ≤ t.flying
    gone = omega (arith, tells_gone flying kind argument, ap (λ (t : Told). t.gone) e, many)

  module _ (kind argument : ℕ) (r : Step) where
    pub not_formed : r ≡ record { tally = t; answer = 1; handled = handled.Nothing; went = went.Nowhere } → well_formed seen ≡ false
        → LentPost p a f t kind argument a f r
    not_formed q e =
        record {
          outcome = rw q (call_not_formed seen kind argument e);
          unchanged = λ z. (refl, refl, ap (λ (s : Step). s.tally) q);
        }

    pub refused : (b : Arrows) (left : State) → outcome_of left r ≡ call seen kind argument → (r.answer ≡ 0 → ⊥)
        → b ≡ a → r.tally ≡ t → LentPost p a f t kind argument b f r
    refused b left o n e q =
        record {
          outcome =
              ap (λ (b : Arrows). outcome_of (shown p b (flying_in f r.tally.flying) r.tally) r) e
              ∙ ap (λ (u : Tally). outcome_of (shown p a (flying_in f u.flying) u) r) q
              ∙ handed_back seen kind argument left r.answer r.handled r.went o n;
          unchanged = λ z. (e, refl, q);
        }

    -- an accepted event has moved the packets as it said
    pub accepted : (b : Arrows) (g : Flight) (k : ℕ) (left : List Packet) → flying_in g k ≡ left → length left ≡ r.tally.flying
        → outcome_of (shown p b left r.tally) r ≡ call seen kind argument → r.answer ≡ 0 → LentPost p a f t kind argument b g r
    accepted b g k left e l o z =
        record {
          outcome = ap (λ (h : List Packet). outcome_of (shown p b h r.tally) r) (ap (flying_in g) (sym count) ∙ e) ∙ o;
          unchanged = λ n. absurd (n z);
        }
      where
        count : k ≡ r.tally.flying
        count = sym (length-tab (packet_at g.number g.lane g.bit) k) ∙ ap length e ∙ l
