-- What is promised of single events: well-formedness, the way out, answer 9, a failure. Assumes nothing.
use Prim.Native.Nat.{ℕ, ◌<◌}
use native.Mathlib.Omega.{arith}
use mathlib.Core.Path.{◌≡◌, refl, sym, ◌∙◌, ap}
use mathlib.Core.Logic.{◌⊎◌, inl, inr}
use mathlib.Core.Bool.{Bool, true, false, not, cond}
use lib.Dec.{leb, eqb}
use lib.ListN.{length}
use borrow.Author.Tests.{leb-true, le-leb, lt-leb, eqb-false, eq-eqb, ne_eqb}
use Rattle.model.specs.declared.Handled.TheVariants as handled
use Rattle.model.specs.declared.Went.TheVariants as went
use Rattle.model.specs.Limits.{flight_most, events_most}
use Rattle.model.specs.Answers as answers
use Rattle.model.specs.State.{end, link_of, State}
use Rattle.model.specs.Formed.{well_formed}
use Rattle.model.specs.Departure.{has_live}
use Rattle.model.specs.Outcome.{Outcome, refuse, accepting, counted, onward}
use Rattle.model.specs.Send.{send_to}
use Rattle.model.specs.Fail.{cut, fail_of}
use Rattle.model.specs.Events.{Event, event}
use Rattle.model.specs.History.{History, start, next}
use Rattle.model.specs.Promises.{FormedKept, RefusedSame, WayOut, Crowded, NineExactly, FailKeeps}
use Rattle.model.proofs.Below.{look, clash}
use Rattle.model.proofs.Ends.{test_same}
use Rattle.model.proofs.Formed.{ends_marked, formed_if}
use Rattle.model.proofs.Departure.{door_out, update_out}
use Rattle.model.proofs.Steps.{Refused, spoilt, over, none, down, bare, full, astray, step, answered}
use Rattle.model.proofs.Kept.{kept}
use Rattle.model.proofs.Opened.{opening_formed}

pub formed_history : {s : State} → History s → well_formed s ≡ true
formed_history (start n d list e) = opening_formed n d list
formed_history (next {s = s} h e) = kept (step s e) (formed_history h)

spoilt_only : {s : State} {e : Event} {a : ℕ} → Refused s e a → a ≡ answers.not_formed → well_formed s ≡ false
spoilt_only (spoilt w) q = w
spoilt_only (over h) q = absurd (omega arith)
spoilt_only none q = absurd (omega arith)
spoilt_only down q = absurd (omega arith)
spoilt_only bare q = absurd (omega arith)
spoilt_only full q = absurd (omega arith)
spoilt_only (astray old o n) q = absurd (omega arith)

one_never : {s : State} → History s → (e : Event) → (event s e).answer ≡ answers.not_formed → ⊥
one_never {s} h e q = elim (answered (step s e)) [
  | inl d ↦ omega (arith, d)
  | inr r ↦ clash (formed_history h) (spoilt_only r.why q)
]

pub formed_kept : FormedKept
formed_kept = record { opening = opening_formed; kept = λ s e w. kept (step s e) w; history = λ s h. formed_history h; one_never = λ s h. one_never h }

-- an event that is not accepted is a refusal
turned_down : (s : State) (e : Event) → ((event s e).answer ≡ answers.done → ⊥) → event s e ≡ refuse s (event s e).answer
turned_down s e n = elim (answered (step s e)) [ inl d ↦ absurd (n d) | inr r ↦ r.outcome ]

pub refused_same : RefusedSame
refused_same = record { record_same = λ s e n. ap (λ o. o.state) (turned_down s e n); no_packet = λ s e n. ap (λ o. o.handled) (turned_down s e n) }

pub way_out : WayOut
way_out = record { updated = λ s v e. update_out s v (λ x i m. (ends_marked s e x i m).1); leads = door_out }

-- answer 9 by the three tests that it rests on
abbrev nine : Bool → Bool → Bool → ℕ
nine home linked crowd = cond home answers.done (cond (not linked) answers.done (cond crowd answers.flight_full answers.done))

nine_told : (home linked crowd : Bool) → nine home linked crowd ≡ answers.flight_full → (home ≡ false) × (linked ≡ true) × (crowd ≡ true)
nine_told true linked crowd e = absurd (omega (arith, e))
nine_told false true true e = (refl, refl, refl)
nine_told false true false e = absurd (omega (arith, e))
nine_told false false crowd e = absurd (omega (arith, e))

-- one test of a chain
pick : (P : Outcome → Type 0) (b : Bool) {o r : Outcome} → P o → P r → P (cond b o r)
pick P true p q = p
pick P false p q = q

module _ (s : State) (v : ℕ) (w : well_formed s ≡ true) (r : s.counts.events < events_most) (i : v < s.net.nodes) where
  abbrev home : Bool
  home = eqb v s.net.destination

  abbrev crowd : Bool
  crowd = leb flight_most (length s.flight)

  by_tests : (send_to s v).answer ≡ nine home (has_live s v) crowd
  unfolding send_to accepting onward
  by_tests = go (look home) (look (has_live s v)) (look crowd)
    where
      go : (home ≡ true) ⊎ (home ≡ false) → (has_live s v ≡ true) ⊎ (has_live s v ≡ false) → (crowd ≡ true) ⊎ (crowd ≡ false)
          → (send_to s v).answer ≡ nine home (has_live s v) crowd
      go (inl a) b c = rw (w, lt-leb events_most s.counts.events r, lt-leb s.net.nodes v i, a)
      go (inr a) (inr b) c = rw (w, lt-leb events_most s.counts.events r, lt-leb s.net.nodes v i, a, b)
      go (inr a) (inl b) (inl c) = rw (w, lt-leb events_most s.counts.events r, lt-leb s.net.nodes v i, a, b, c)
      go (inr a) (inl b) (inr c) = rw (w, lt-leb events_most s.counts.events r, lt-leb s.net.nodes v i, a, b, c)

  given : Crowded s v → (send_to s v).answer ≡ answers.flight_full
  given c =
      by_tests
      ∙ rw (ne_eqb v s.net.destination c.away, c.linked, le-leb flight_most (length s.flight) (omega (arith, c.full)))

  only : (send_to s v).answer ≡ answers.flight_full → Crowded s v
  only e =
      let t = nine_told home (has_live s v) crowd (sym by_tests ∙ e) in
      record {
        full = omega (arith, leb-true flight_most (length s.flight) t.2, (formed_if s w).room);
        linked = t.1;
        away = eqb-false v s.net.destination t.0;
      }

pub nine_exactly : NineExactly
nine_exactly = record { given = given; only = only }

-- a failure is refused, or cuts the link
fail_cases : (s : State) (l : ℕ) (P : Outcome → Type 0) → ((a : ℕ) → (a ≡ answers.done → ⊥) → P (refuse s a))
    → ((n : ℕ) → P (record { state = counted (cut s l) 0 0 n 0; answer = answers.done; handled = handled.Nothing; went = went.Nowhere }))
    → P (fail_of s l)
unfolding fail_of accepting
fail_cases s l P r g =
    pick P (not (well_formed s)) (r answers.not_formed (λ q. omega arith))
    (pick P (leb events_most s.counts.events) (r answers.no_more_events (λ q. omega arith))
    (pick P (leb s.net.links l) (r answers.no_such (λ q. omega arith))
    (pick P (not (s.up l)) (r answers.link_down (λ q. omega arith)) (g _))))

pub fail_keeps : FailKeeps
unfolding counted cut
fail_keeps =
    record {
      down = λ s l. fail_cases s l (λ o. o.answer ≡ answers.done → o.state.up l ≡ false) (λ a n q. absurd (n q)) (λ n q. rw (test_same l));
      clear = λ s l.
          fail_cases s l (λ o. o.answer ≡ answers.done → (o.state.ends.mark (end l 0) ≡ false) × (o.state.ends.mark (end l 1) ≡ false))
          (λ a n q. absurd (n q))
          (λ n q. rw (eq-eqb (link_of (end l 0)) l (omega arith), eq-eqb (link_of (end l 1)) l (omega arith)) (refl, refl));
      directions = λ s l. fail_cases s l (λ o. o.state.ends.out ≡ s.ends.out) (λ a n. refl) (λ n. refl);
      local_bits = λ s l. fail_cases s l (λ o. o.state.ends.local ≡ s.ends.local) (λ a n. refl) (λ n. refl);
      remote_bits = λ s l. fail_cases s l (λ o. o.state.ends.remote ≡ s.ends.remote) (λ a n. refl) (λ n. refl);
    }
