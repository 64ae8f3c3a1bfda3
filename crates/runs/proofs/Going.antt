-- A burst under way: the arrows and queues after the first i calls. Assumes nothing.
use Prim.Native.Nat.{ℕ, ◌+◌, ◌≤◌, ◌<◌}
use native.Mathlib.Omega.{arith}
use mathlib.Core.Path.{◌≡◌, sym, ap, ◌∙◌, subst}
use mathlib.Core.Bool.{true}
use mathlib.Core.List.{List}
use lib.ListN.{length, get_or, set}
use Rattle.std.specs.Prelude.{Some}
use Rattle.model.specs.Limits.{flight_most}
use Rattle.model.specs.State.{Packet, State}
use Rattle.model.specs.Formed.{well_formed}
use Rattle.arrays.specs.declared.Oldest.{Oldest}
use Rattle.arrays.specs.declared.Told.{Told}
use Rattle.arrays.specs.declared.record.Plan.{Plan}
use Rattle.arrays.specs.declared.record.Arrows.{Arrows}
use Rattle.arrays.specs.declared.record.Tally.{Tally}
use Rattle.arrays.specs.View.{shown}
use Rattle.arrays.specs.Told.{tells, flies}
use Rattle.queues.specs.declared.queue.Queues.{Queues}
use Rattle.queues.specs.Queue.{flown, Queued}
use Rattle.departs.specs.declared.tally.Step.{Step}
use Rattle.steps.specs.Call.{call}
use Rattle.steps.proofs.Tellings.{tells_there, tells_gone}
use Rattle.departs.specs.Steps.{outcome_of, Sound}
use Rattle.departs.proofs.Sounds.{sound_if, few_fly}
use Rattle.notes.specs.Bursts.{packet_code, way_code}
use Rattle.notes.proofs.Bursts.{calls_keep, Ran, ran_more}

module _ (p : Plan) (s : State) (kinds arguments an₀ ps₀ ws₀ : List ℕ) where
  pub record Going (a : Arrows) (q : Queues) (an ps ws : List ℕ) (t : Tally) (i : ℕ) : Type 0 where
    pub queued : Queued q
    pub many : length (flown q) ≡ t.flying
    pub ran : Ran s kinds arguments an₀ ps₀ ws₀ i (shown p a (flown q) t) an ps ws

  module _ {a : Arrows} {q : Queues} {an ps ws : List ℕ} {t : Tally} {i : ℕ} (g : Going a q an ps ws t i) where
    -- it is well formed as the record was at first
    module _ (formed : well_formed s ≡ true) where
      pub still_formed : well_formed (shown p a (flown q) t) ≡ true
      still_formed = ap well_formed g.ran.state ∙ calls_keep s kinds arguments i ∙ formed

      pub few_going : length (flown q) ≤ flight_most
      few_going = few_fly (shown p a (flown q) t) still_formed

      pub going_sound : Sound p a t
      going_sound = sound_if p a (flown q) t g.many still_formed

    -- the packets tell of no more than there are
    module _ (kind argument : ℕ) {told : Told} (e : told ≡ tells (flown q) kind argument) where
      pub going_there : (o : Oldest) → told.oldest ≡ Some o → 0 < t.flying
      going_there o h = omega (arith, tells_there (flown q) kind argument o (sym (ap (λ (t : Told). t.oldest) e) ∙ h), g.many)

      pub going_gone : told.gone ≤ t.flying
      going_gone = omega (arith, tells_gone (flown q) kind argument, ap (λ (t : Told). t.gone) e, g.many)

    -- the packets have moved to other slots
    pub going_moved : (r : Queues) → flown r ≡ flown q → Queued r → Going a r an ps ws t i
    going_moved r e k =
        record {
          queued = k;
          many = ap length e ∙ g.many;
          ran = subst (λ (f : List Packet). Ran s kinds arguments an₀ ps₀ ws₀ i (shown p a f t) an ps ws) (sym e) g.ran;
        }

    -- one call more
    pub going_on : (a' : Arrows) (q' : Queues) (an' ps' ws' : List ℕ) (r : Step)
        → outcome_of (shown p a' (flies (get_or kinds i 0) (get_or arguments i 0) a'.local (flown q) r.answer r.handled r.went) r.tally) r
        ≡ call (shown p a (flown q) t) (get_or kinds i 0) (get_or arguments i 0)
        → length (flies (get_or kinds i 0) (get_or arguments i 0) a'.local (flown q) r.answer r.handled r.went) ≡ r.tally.flying
        → flown q' ≡ flies (get_or kinds i 0) (get_or arguments i 0) a'.local (flown q) r.answer r.handled r.went → Queued q'
        → an' ≡ set an i r.answer → ps' ≡ set ps i (packet_code r.handled) → ws' ≡ set ws i (way_code r.went)
        → i < length an₀ → i < length ps₀ → i < length ws₀
        → Going a' q' an' ps' ws' r.tally (i + 1)
    going_on a' q' an' ps' ws' r o m f k ea ep ew la lp lw =
        record {
          queued = k;
          many = ap length f ∙ m;
          ran =
              ran_more s kinds arguments an₀ ps₀ ws₀ i (shown p a (flown q) t) (shown p a' (flown q') r.tally) an ps ws an' ps' ws' r.answer r.handled r.went g.ran
              (ap (λ (l : List Packet). outcome_of (shown p a' l r.tally) r) f ∙ o) ea ep ew la lp lw;
        }
