-- What each case of a reading tells a caller of the file. Assumes nothing.
use Prim.Native.Nat.{ℕ, zero, suc, ◌*◌}
use native.Mathlib.Omega.{arith}
use mathlib.Core.Path.{◌≡◌, refl, sym, ap, ◌∙◌}
use mathlib.Core.Logic.{◌⊎◌, inl, inr}
use mathlib.Core.List.{List, ◌∷◌}
use mathlib.Core.Option.{Option, none, some}
use lib.Dec.{leb, eqb}
use lib.ListN.{length}
use borrow.Author.Tests.{eqb-false}
use Rattle.model.specs.Answers as answers
use Rattle.model.specs.Formed.{sized}
use Rattle.model.specs.Events.{Event}
use Rattle.model.specs.Number.{Read, had, refused, read_number}
use Rattle.model.specs.File.{and_then, Header, opening, read_numbers, accepted, read_header, kind, argument, of_kind, with_kind, read_event}
use Rattle.model.proofs.Below.{look}
use Rattle.model.proofs.Numbers.{never, number_place}
use Rattle.network.specs.View.{view}
use Rattle.drillfile.specs.declared.answers.Headed.{Headed}
use Rattle.groups.specs.declared.answers.Spoilt.{Spoilt}
use Rattle.entries.specs.declared.answers.Event.{Event as FileEvent}
use Rattle.entries.specs.declared.answers.Got.{Got}
use Rattle.entries.specs.Outcomes.{Seen, seen, seen_by, seen_at, event_at, answer_in, place_in}
use Rattle.std.specs.Prelude.{None, Some, Ok, Err}
use Rattle.drillfile.specs.Headers.{HeaderSeen, seen_header, header_seen, HeaderPost}

-- a reading that can't be had ends there, or goes on
then_refused : {A B : Type 0} (x : Read A) (f : A → ℕ → Read B) (answer place : ℕ) → and_then x f ≡ refused answer place
    → (x ≡ refused answer place) ⊎ ((v : A) × (n : ℕ) × (x ≡ had v n) × (f v n ≡ refused answer place))
then_refused (had v n) f answer place e = inr (v, n, refl, e)
then_refused (refused a p) f answer place e =
    let same : a ≡ answer = cc in
    let there : p ≡ place = cc in
    inl (ap (λ (b : ℕ). refused b p) same ∙ ap (λ (b : ℕ). refused answer b) there)

-- ---- an event
-- a spoilt event's answer is 11
with_refused : (o : Option (ℕ → Event)) (file : List ℕ) (at p answer place : ℕ) → with_kind o at (read_number file p) ≡ refused answer place
    → answer ≡ answers.spoilt
with_refused none file at p answer place e = cc
with_refused (some make) file at p answer place e =
    elim (then_refused (read_number file p) (λ a next. had (some (make a)) next) answer place e) [
      | inl f ↦ (number_place file p answer place f).0
      | inr f ↦ never (let g = f.3 in cc)
    ]

pub event_refused : (file : List ℕ) (at answer place : ℕ) → read_event file at ≡ refused answer place → answer ≡ answers.spoilt
unfolding read_event
event_refused file at answer place e = elim (look (leb (length file) at)) [
  | inl past ↦ never (let f = rw past at e in cc)
  | inr here ↦
      elim (then_refused (read_number file at) (λ k p. with_kind (of_kind k) at (read_number file p)) answer place (rw here at e)) [
        | inl f ↦ (number_place file at answer place f).0
        | inr f ↦ with_refused (of_kind f.0) file at f.1 answer place f.3
      ]
]

module _ (file : List ℕ) (at : ℕ) where
  abbrev IsEvent : ℕ → ℕ → ℕ → Read (Option Event) → Type 0
  IsEvent k a next x = (e : Event) × (x ≡ had (some e) next) × (kind e ≡ k) × (argument e ≡ a)

  seen_event : (x : Read (Option Event)) (e : FileEvent) (n : ℕ) → seen_by (Ok (Some e)) n ≡ seen_at at x → IsEvent e.kind e.argument n x
  seen_event (had none m) e n s = never (let f = ap (λ (t : Seen). t.event) s in cc)
  seen_event (had (some v) m) e n s =
      let f = ap (λ (t : Seen). t.event) s in
      let pair : ◌≡◌ {A = ℕ × ℕ} (e.kind, e.argument) (kind v, argument v) = cc in
      let next = ap (λ (t : Seen). t.next) s in
      (v, ap (λ (p : ℕ). had (some v) p) (sym next), sym (ap (λ (q : ℕ × ℕ). q.0) pair), sym (ap (λ (q : ℕ × ℕ). q.1) pair))
  seen_event (refused b p) e n s = never (let f = ap (λ (t : Seen). t.event) s in cc)

  seen_end : (x : Read (Option Event)) → read_event file at ≡ x → (n : ℕ) → seen_by (Ok None) n ≡ seen_at at x → read_event file at ≡ had none n
  seen_end (had none m) f n s = f ∙ ap (λ (p : ℕ). had none p) (sym (ap (λ (t : Seen). t.next) s))
  seen_end (had (some v) m) f n s = never (let h = ap (λ (t : Seen). t.event) s in cc)
  seen_end (refused b p) f n s = absurd (omega (arith, event_refused file at b p f, ap (λ (t : Seen). t.answer) s))

  seen_spoilt : (x : Read (Option Event)) → read_event file at ≡ x → (p : Spoilt) (n : ℕ) → seen_by (Err p) n ≡ seen_at at x
      → (read_event file at ≡ refused answers.spoilt p.place) × (n ≡ at)
  seen_spoilt (had none m) f p n s = absurd (omega (arith, ap (λ (t : Seen). t.answer) s))
  seen_spoilt (had (some v) m) f p n s = absurd (omega (arith, ap (λ (t : Seen). t.answer) s))
  seen_spoilt (refused b q) f p n s =
      let answer = ap (λ (t : Seen). t.answer) s in
      let place = ap (λ (t : Seen). t.place) s in
      (f ∙ ap (λ (a : ℕ). refused a q) (sym answer) ∙ ap (λ (a : ℕ). refused answers.spoilt a) (sym place), ap (λ (t : Seen). t.next) s)

  module _ (g : Got) (s : seen g ≡ event_at file at) where
    pub event_told : (e : FileEvent) → g.event ≡ Ok (Some e) → IsEvent e.kind e.argument g.next.at (read_event file at)
    unfolding event_at
    event_told e q = seen_event (read_event file at) e g.next.at (ap (λ x. seen_by x g.next.at) (sym q) ∙ s)

    pub end_told : g.event ≡ Ok None → read_event file at ≡ had none g.next.at
    unfolding event_at
    end_told q = seen_end (read_event file at) refl g.next.at (ap (λ x. seen_by x g.next.at) (sym q) ∙ s)

    pub spoilt_told : (p : Spoilt) → g.event ≡ Err p → (read_event file at ≡ refused answers.spoilt p.place) × (g.next.at ≡ at)
    unfolding event_at
    spoilt_told p q = seen_spoilt (read_event file at) refl p g.next.at (ap (λ x. seen_by x g.next.at) (sym q) ∙ s)

-- ---- a header
numbers_refused : (k : ℕ) (file : List ℕ) (at answer place : ℕ) → read_numbers k file at ≡ refused answer place → answer ≡ answers.spoilt
unfolding read_numbers
numbers_refused zero file at answer place e = never cc
numbers_refused (suc k) file at answer place e =
    elim (then_refused (read_number file at) (λ n p. and_then (read_numbers k file p) λ ns q. had (n ∷ ns) q) answer place e) [
      | inl f ↦ (number_place file at answer place f).0
      | inr f ↦ elim (then_refused (read_numbers k file f.1) (λ ns q. had (f.0 ∷ ns) q) answer place f.3) [
        | inl g ↦ numbers_refused k file f.1 answer place g
        | inr g ↦ never (let h = g.3 in cc)
      ]
    ]

not_accepted : (h : Header) (next answer place : ℕ) → accepted h next ≡ refused answer place → answer ≡ answers.done → ⊥
not_accepted h next answer place e z = elim (look (eqb (opening h).answer answers.done)) [
  | inl o ↦ never (let f = rw o at e in cc)
  | inr o ↦ let f = rw o at e in eqb-false (opening h).answer answers.done o (let is : (opening h).answer ≡ answer = cc in is ∙ z)
]

-- a refused header's answer is not 0
pub header_refused : (file : List ℕ) (at answer place : ℕ) → read_header file at ≡ refused answer place → answer ≡ answers.done → ⊥
unfolding read_header
header_refused file at answer place e z =
    elim (then_refused (read_number file at) _ answer place e) [
      | inl f ↦ spoilt at f
      | inr x ↦ elim (then_refused (read_number file x.1) _ answer place x.3) [
        | inl f ↦ spoilt x.1 f
        | inr y ↦ elim (then_refused (read_number file y.1) _ answer place y.3) [
          | inl f ↦ spoilt y.1 f
          | inr t ↦ elim (look (sized x.0 y.0 t.0)) [
            | inl s ↦
                elim (then_refused (read_numbers (2 * t.0) file t.1) _ answer place (rw s at t.3)) [
                  | inl f ↦ omega (arith, numbers_refused (2 * t.0) file t.1 answer place f)
                  | inr l ↦ not_accepted (record { nodes = x.0; destination = y.0; list = l.0 }) l.1 answer place l.3 z
                ]
            | inr s ↦ let f = rw s at t.3 in let two : answers.bad_sizes ≡ answer = cc in omega arith
          ]
        ]
      ]
    ]
  where
    spoilt : (p : ℕ) → read_number file p ≡ refused answer place → ⊥
    spoilt p f = omega (arith, (number_place file p answer place f).0)

module _ (file : List ℕ) (at : ℕ) (r : Headed) (p : HeaderPost at (read_header file at) r) where
  pub accepted_told : answer_in r.outcome ≡ answers.done
      → (h : Header) × (read_header file at ≡ had h r.next.at) × (view r.network ≡ (opening h).state)
  accepted_told z = go (read_header file at) refl p.outcome
    where
      go : (x : Read Header) → read_header file at ≡ x → seen_header r ≡ header_seen at x
          → (h : Header) × (read_header file at ≡ had h r.next.at) × (view r.network ≡ (opening h).state)
      go (had h n) f g = (h, f ∙ ap (λ (m : ℕ). had h m) (sym (ap (λ (s : HeaderSeen). s.next) g)), ap (λ (s : HeaderSeen). s.state) g)
      go (refused b q) f g = absurd (header_refused file at b q f (sym (ap (λ (s : HeaderSeen). s.answer) g) ∙ z))

  pub refused_told : (answer_in r.outcome ≡ answers.done → ⊥) → (read_header file at ≡ refused (answer_in r.outcome) (place_in r.outcome)) × (r.next.at ≡ at)
  refused_told n = go (read_header file at) refl p.outcome
    where
      go : (x : Read Header) → read_header file at ≡ x → seen_header r ≡ header_seen at x
          → (read_header file at ≡ refused (answer_in r.outcome) (place_in r.outcome)) × (r.next.at ≡ at)
      go (had h m) f g = absurd (n (ap (λ (s : HeaderSeen). s.answer) g))
      go (refused b q) f g =
          let answer = ap (λ (s : HeaderSeen). s.answer) g in
          let place = ap (λ (s : HeaderSeen). s.place) g in
          (f ∙ ap (λ (a : ℕ). refused a q) (sym answer) ∙ ap (λ (a : ℕ). refused (answer_in r.outcome) a) (sym place), ap (λ (s : HeaderSeen). s.next) g)
