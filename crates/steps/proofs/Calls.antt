-- The ways through a call by kind, what every call keeps, and that it names a lane. Assumes nothing.
use Prim.Native.Nat.{ℕ, ◌≤◌, ◌<◌}
use native.Mathlib.Omega.{arith}
use mathlib.Core.Path.{◌≡◌, refl, sym, ap, ◌∙◌}
use mathlib.Core.Logic.{inl, inr}
use mathlib.Core.Bool.{true, false}
use mathlib.Core.Option.{Option, none, some}
use lib.Dec.{leb}
use borrow.Author.Tests.{le-leb, lt-leb, ne_eqb}
use Rattle.model.specs.declared.Handled.{Handled}
use Rattle.model.specs.declared.Went.{Went}
use Rattle.model.specs.declared.Went.TheVariants as went
use Rattle.model.specs.Limits.{ends_most, events_most}
use Rattle.model.specs.Answers as answers
use Rattle.model.specs.State.{State}
use Rattle.model.specs.Formed.{well_formed}
use Rattle.model.specs.Outcome.{Outcome, refuse, accepting}
use Rattle.model.specs.Send.{send_to}
use Rattle.model.specs.Lanes.{off_lane}
use Rattle.model.specs.Deliver.{deliver_on}
use Rattle.model.specs.Lose.{lose_on}
use Rattle.model.specs.Fail.{fail_of}
use Rattle.model.specs.Events.{Event, send, deliver, lose, fail, event}
use Rattle.model.specs.File.{of_kind}
use Rattle.model.proofs.Below.{look}
use Rattle.model.proofs.Numbers.{never}
use Rattle.model.proofs.Named.{named}
use Rattle.model.proofs.Promises.{formed_kept, refused_same}
use Rattle.steps.specs.Call.{made, call}

-- nowhere is no lane
nowhere : {x : ℕ} → went.Nowhere ≡ went.Lane x → x < ends_most
nowhere e = never cc

module _ (s : State) (a : ℕ) where
  pub call_send : send_to s a ≡ call s 1 a
  unfolding call of_kind event
  call_send = refl

  pub call_deliver : deliver_on s a ≡ call s 2 a
  unfolding call of_kind event
  call_deliver = refl

  pub call_lose : lose_on s a ≡ call s 3 a
  unfolding call of_kind event
  call_lose = refl

  pub call_fail : fail_of s a ≡ call s 4 a
  unfolding call of_kind event
  call_fail = refl

-- a record that is not well formed, then one with no event left: whatever the event
module _ (s : State) where
  not_formed_lem : (e : Event) → well_formed s ≡ false → refuse s answers.not_formed ≡ event s e
  unfolding event send_to deliver_on lose_on off_lane fail_of accepting
  not_formed_lem (send v) h = rw h
  not_formed_lem (deliver x) h = rw h
  not_formed_lem (lose x) h = rw h
  not_formed_lem (fail l) h = rw h

  no_more : (e : Event) → well_formed s ≡ true → events_most ≤ s.counts.events → refuse s answers.no_more_events ≡ event s e
  unfolding event send_to deliver_on lose_on off_lane fail_of accepting
  no_more (send v) h m = rw (h, le-leb events_most s.counts.events m)
  no_more (deliver x) h m = rw (h, le-leb events_most s.counts.events m)
  no_more (lose x) h m = rw (h, le-leb events_most s.counts.events m)
  no_more (fail l) h m = rw (h, le-leb events_most s.counts.events m)

  pub call_not_formed : (kind a : ℕ) → well_formed s ≡ false → refuse s answers.not_formed ≡ call s kind a
  unfolding call accepting
  call_not_formed kind a h = at (of_kind kind)
    where
      at : (m : Option (ℕ → Event)) → refuse s answers.not_formed ≡ made s m a
      at none = rw h
      at (some make) = not_formed_lem (make a) h

  pub call_no_more : (kind a : ℕ) → well_formed s ≡ true → events_most ≤ s.counts.events → refuse s answers.no_more_events ≡ call s kind a
  unfolding call accepting
  call_no_more kind a h m = at (of_kind kind)
    where
      at : (k : Option (ℕ → Event)) → refuse s answers.no_more_events ≡ made s k a
      at none = rw (h, le-leb events_most s.counts.events m)
      at (some make) = no_more (make a) h m

  pub call_unknown : (kind a : ℕ) → well_formed s ≡ true → s.counts.events < events_most
      → (kind ≡ 1 → ⊥) → (kind ≡ 2 → ⊥) → (kind ≡ 3 → ⊥) → (kind ≡ 4 → ⊥) → refuse s answers.no_such ≡ call s kind a
  unfolding call of_kind accepting
  call_unknown kind a h m n1 n2 n3 n4 =
      rw (ne_eqb kind 1 n1, ne_eqb kind 2 n2, ne_eqb kind 3 n3, ne_eqb kind 4 n4, h, lt-leb events_most s.counts.events m)

  -- a kind that is none leaves the record as it was
  pub none_kept : (accepting s (refuse s answers.no_such)).state ≡ s
  unfolding accepting
  none_kept = elim (look (well_formed s)) [
    | inl h ↦ elim (look (leb events_most s.counts.events)) [ inl m ↦ rw (h, m) | inr m ↦ rw (h, m) ]
    | inr h ↦ rw h
  ]

  -- a call leaves a well-formed record so, and any other as it was
  pub call_keeps : (kind a : ℕ) → well_formed (call s kind a).state ≡ well_formed s
  unfolding call accepting
  call_keeps kind a = elim (look (well_formed s)) [
    | inl h ↦ at (of_kind kind) h ∙ sym h
    | inr h ↦ sym (ap (λ o. well_formed o.state) (call_not_formed kind a h))
  ]
    where
      at : (m : Option (ℕ → Event)) → well_formed s ≡ true → well_formed (made s m a).state ≡ true
      at none h = ap well_formed (none_kept) ∙ h
      at (some make) h = formed_kept.kept s (make a) h

  -- a refused call leaves the record as it was
  pub call_refused : (kind a : ℕ) → ((call s kind a).answer ≡ answers.done → ⊥) → (call s kind a).state ≡ s
  unfolding call accepting
  call_refused kind a n = at (of_kind kind) n
    where
      at : (m : Option (ℕ → Event)) → ((made s m a).answer ≡ answers.done → ⊥) → (made s m a).state ≡ s
      at none n = none_kept
      at (some make) n = refused_same.record_same s (make a) n

  -- where a call is refused, the state that its step leaves is the one before it
  pub handed_back : (kind a : ℕ) (t : State) (answer : ℕ) (h : Handled) (w : Went)
      → record { state = t; answer = answer; handled = h; went = w } ≡ call s kind a → (answer ≡ answers.done → ⊥)
      → record { state = s; answer = answer; handled = h; went = w } ≡ call s kind a
  handed_back kind a t answer h w e n =
      let same = call_refused kind a (λ z. n (ap (λ (o : Outcome). o.answer) e ∙ z)) in
      λ i. record {
        state = sym same i;
        answer = (e i).answer;
        handled = (e i).handled;
        went = (e i).went;
      }

  -- a packet that leaves does so by a lane of the record
  pub call_lane : (kind a : ℕ) → well_formed s ≡ true → (x : ℕ) → (call s kind a).went ≡ went.Lane x → x < ends_most
  unfolding call accepting
  call_lane kind a h = at (of_kind kind)
    where
      bare : (x : ℕ) → (accepting s (refuse s answers.no_such)).went ≡ went.Lane x → x < ends_most
      bare x e = elim (look (well_formed s)) [
        | inl w ↦ elim (look (leb events_most s.counts.events)) [ inl m ↦ nowhere (rw (w, m) at e) | inr m ↦ nowhere (rw (w, m) at e) ]
        | inr w ↦ nowhere (rw w at e)
      ]

      at : (m : Option (ℕ → Event)) → (x : ℕ) → (made s m a).went ≡ went.Lane x → x < ends_most
      at none x e = bare x e
      at (some make) x e = let r = named.one s (make a) h in omega (arith, r.lane x e, r.few_lanes)
