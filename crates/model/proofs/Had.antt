-- What an event or a header that was had tells of its numbers; reading moves on and ends. Assumes nothing.
use Prim.Native.Nat.{ℕ, zero, suc, ◌+◌, ◌*◌, ◌≤◌, ◌<◌}
use native.Mathlib.Omega.{arith}
use mathlib.Core.Path.{◌≡◌, refl, sym, ap, ◌∙◌}
use mathlib.Core.Logic.{inl, inr}
use mathlib.Core.Bool.{Bool, true, false, not, cond}
use mathlib.Core.List.{List, ◌∷◌}
use mathlib.Core.Option.{Option, none, some}
use lib.Dec.{leb, eqb}
use lib.ListN.{length}
use borrow.Author.Tests.{leb-true, eqb-true}
use Rattle.model.specs.Answers as answers
use Rattle.model.specs.Formed.{sized}
use Rattle.model.specs.Events.{Event}
use Rattle.model.specs.Number.{Read, had, refused, read_number}
use Rattle.model.specs.File.{and_then, Header, opening, read_numbers, accepted, read_header, of_kind, kind, argument, with_kind, read_event, Reading, and_more, events_from, read_events}
use Rattle.model.specs.Promises.{ReadingEnds}
use Rattle.model.proofs.Below.{look}
use Rattle.model.proofs.Numbers.{never, number_moves}
use Rattle.model.proofs.Format.{kind_made, event_end}

pub then_had : {A B : Type 0} (x : Read A) (f : A → ℕ → Read B) (y : B) (m : ℕ) → and_then x f ≡ had y m
    → (v : A) × (n : ℕ) × (x ≡ had v n) × (f v n ≡ had y m)
then_had (had v n) f y m e = (v, n, refl, e)
then_had (refused a p) f y m e = never cc

cond_had : {A : Type 0} (b : Bool) (answer place : ℕ) (x : Read A) (y : A) (m : ℕ) → cond (not b) (refused answer place) x ≡ had y m
    → (b ≡ true) × (x ≡ had y m)
cond_had true answer place x y m e = (refl, e)
cond_had false answer place x y m e = never cc

-- the event that a kind and an argument make
with_had : (k at : ℕ) (o : Option (ℕ → Event)) (x : Read ℕ) (e : Event) (next : ℕ) → of_kind k ≡ o → with_kind o at x ≡ had (some e) next
    → (kind e ≡ k) × (x ≡ had (argument e) next)
with_had k at none x e next q f = never cc
with_had k at (some make) (had a n) e next q f =
    let made : make a ≡ e = cc in
    let same : n ≡ next = cc in
    let own = kind_made k make a q in
    (ap kind (sym made) ∙ own.0, ap (λ (b : ℕ). had b n) (sym own.1 ∙ ap argument made) ∙ ap (λ (m : ℕ). had (argument e) m) same)
with_had k at (some make) (refused a p) e next q f = never cc

-- what an event that was had, and a header that was had, tell of their numbers
pub record EventHad (file : List ℕ) (at : ℕ) (e : Event) (next : ℕ) : Type 0 where
  pub middle : ℕ
  pub kind_had : read_number file at ≡ had (kind e) middle
  pub argument_had : read_number file middle ≡ had (argument e) next

pub event_had : (file : List ℕ) (at : ℕ) (e : Event) (next : ℕ) → read_event file at ≡ had (some e) next → EventHad file at e next
unfolding read_event
event_had file at e next f = elim (look (leb (length file) at)) [
  | inl past ↦ never (let g = rw past at f in cc)
  | inr here ↦
      let x = then_had (read_number file at) (λ k p. with_kind (of_kind k) at (read_number file p)) (some e) next (rw here at f) in
      let w = with_had x.0 at (of_kind x.0) (read_number file x.1) e next refl x.3 in
      record { middle = x.1; kind_had = x.2 ∙ ap (λ (k : ℕ). had k x.1) (sym w.0); argument_had = w.1 }
]

no_end : (o : Option (ℕ → Event)) (at next : ℕ) (x : Read ℕ) → with_kind o at x ≡ had none next → ⊥
no_end none at next x e = never cc
no_end (some make) at next (had a n) e = never cc
no_end (some make) at next (refused a p) e = never cc

pub end_had : (file : List ℕ) (at next : ℕ) → read_event file at ≡ had none next → length file ≤ at
unfolding read_event
end_had file at next f = elim (look (leb (length file) at)) [
  | inl past ↦ leb-true (length file) at past
  | inr here ↦
      let x = then_had (read_number file at) (λ k p. with_kind (of_kind k) at (read_number file p)) none next (rw here at f) in
      absurd (no_end (of_kind x.0) at next (read_number file x.1) x.3)
]

pub record HeaderHad (file : List ℕ) (at : ℕ) (h : Header) (next : ℕ) : Type 0 where
  pub p : ℕ
  pub q : ℕ
  pub r : ℕ
  pub links : ℕ
  pub nodes_had : read_number file at ≡ had h.nodes p
  pub destination_had : read_number file p ≡ had h.destination q
  pub links_had : read_number file q ≡ had links r
  pub list_had : read_numbers (2 * links) file r ≡ had h.list next
  pub opened : (opening h).answer ≡ answers.done

accepted_had : (g : Header) (n : ℕ) (h : Header) (next : ℕ) → accepted g n ≡ had h next → (g ≡ h) × (n ≡ next) × ((opening g).answer ≡ answers.done)
accepted_had g n h next e = elim (look (eqb (opening g).answer answers.done)) [
  | inl o ↦ let f = rw o at e in (cc, cc, eqb-true (opening g).answer answers.done o)
  | inr o ↦ never (let f = rw o at e in cc)
]

told : (file : List ℕ) (at p q r links n next : ℕ) (g h : Header) → read_number file at ≡ had g.nodes p
    → read_number file p ≡ had g.destination q → read_number file q ≡ had links r → read_numbers (2 * links) file r ≡ had g.list n
    → (g ≡ h) × (n ≡ next) × ((opening g).answer ≡ answers.done) → HeaderHad file at h next
told file at p q r links n next g h nodes destination count list w =
    record {
      p = p;
      q = q;
      r = r;
      links = links;
      nodes_had = nodes ∙ ap (λ (k : Header). had k.nodes p) w.0;
      destination_had = destination ∙ ap (λ (k : Header). had k.destination q) w.0;
      links_had = count;
      list_had = list ∙ ap (λ (k : Header). had k.list n) w.0 ∙ ap (λ (m : ℕ). had h.list m) w.1;
      opened = ap (λ (k : Header). (opening k).answer) (sym w.0) ∙ w.2;
    }

pub header_had : (file : List ℕ) (at : ℕ) (h : Header) (next : ℕ) → read_header file at ≡ had h next → HeaderHad file at h next
unfolding read_header
header_had file at h next e =
    let x = then_had (read_number file at) _ h next e in
    let y = then_had (read_number file x.1) _ h next x.3 in
    let z = then_had (read_number file y.1) _ h next y.3 in
    let s = cond_had (sized x.0 y.0 z.0) answers.bad_sizes 0 _ h next z.3 in
    let l = then_had (read_numbers (2 * z.0) file z.1) _ h next s.1 in
    let g : Header = record { nodes = x.0; destination = y.0; list = l.0 } in
    told file at x.1 y.1 z.1 z.0 l.1 next g h x.2 y.2 z.2 l.2 (accepted_had g l.1 h next l.3)

-- ---- reading moves on
pub event_wide : (file : List ℕ) (at : ℕ) (e : Event) (next : ℕ) → read_event file at ≡ had (some e) next → (at + 2 ≤ next) × (next ≤ length file)
event_wide file at e next f =
    let x = event_had file at e next f in
    let k = number_moves file at (kind e) x.middle x.kind_had in
    let a = number_moves file x.middle (argument e) next x.argument_had in
    (omega (arith, k.0, a.0), a.1)

pub event_moves : (file : List ℕ) (at : ℕ) (e : Event) (next : ℕ) → read_event file at ≡ had (some e) next → (at < next) × (next ≤ length file)
event_moves file at e next f = let w = event_wide file at e next f in (omega (arith, w.0), w.1)

numbers_move : (k : ℕ) (file : List ℕ) (at : ℕ) (ns : List ℕ) (next : ℕ) → at ≤ length file → read_numbers k file at ≡ had ns next
    → (at ≤ next) × (next ≤ length file)
unfolding read_numbers
numbers_move zero file at ns next h e =
    let same : at ≡ next = cc in
    (omega arith, omega arith)
numbers_move (suc k) file at ns next h e =
    let x = then_had (read_number file at) (λ n p. and_then (read_numbers k file p) λ ms q. had (n ∷ ms) q) ns next e in
    let y = then_had (read_numbers k file x.1) (λ ms q. had (x.0 ∷ ms) q) ns next x.3 in
    let m = number_moves file at x.0 x.1 x.2 in
    let ih = numbers_move k file x.1 y.0 y.1 m.1 y.2 in
    let same : y.1 ≡ next = let f = y.3 in cc in
    (omega (arith, m.0, ih.0), omega (arith, ih.1))

pub header_moves : (file : List ℕ) (at : ℕ) (h : Header) (next : ℕ) → read_header file at ≡ had h next → (at < next) × (next ≤ length file)
header_moves file at h next e =
    let x = header_had file at h next e in
    let n₁ = number_moves file at h.nodes x.p x.nodes_had in
    let n₂ = number_moves file x.p h.destination x.q x.destination_had in
    let n₃ = number_moves file x.q x.links x.r x.links_had in
    let l = numbers_move (2 * x.links) file x.r h.list next n₃.1 x.list_had in
    (omega (arith, n₁.0, n₂.0, n₃.0, l.0), l.1)

-- with more fuel than bytes left, any fuel gives the same
and_more_same : (file : List ℕ) (at : ℕ) (f g : ℕ → Reading) → ((next : ℕ) → at < next → f next ≡ g next)
    → and_more (read_event file at) f ≡ and_more (read_event file at) g
and_more_same file at f g same = go (read_event file at) refl
  where
    go : (x : Read (Option Event)) → read_event file at ≡ x → and_more x f ≡ and_more x g
    go (had none next) e = refl
    go (had (some a) next) e =
        ap (λ (r : Reading). record { events = a ∷ r.events; spoilt = r.spoilt }) (same next (event_moves file at a next e).0)
    go (refused answer place) e = refl

pub enough : (fuel big : ℕ) (file : List ℕ) (at : ℕ) → length file < fuel + at → fuel ≤ big → events_from big file at ≡ events_from fuel file at
unfolding events_from
enough zero zero file at h l = refl
enough zero (suc big) file at h l = rw (event_end file at (omega arith))
enough (suc fuel) zero file at h l = absurd (omega arith)
enough (suc fuel) (suc big) file at h l =
    and_more_same file at (λ next. events_from big file next) (λ next. events_from fuel file next)
    (λ next past. enough fuel big file next (omega arith) (omega arith))

pub unfueled : (file : List ℕ) (at : ℕ) → read_events file at ≡ and_more (read_event file at) (λ next. read_events file next)
unfolding read_events events_from
unfueled file at =
    and_more_same file at (λ next. events_from (length file) file next) (λ next. events_from (suc (length file)) file next)
    (λ next past. sym (enough (length file) (suc (length file)) file next (omega arith) (omega arith)))

pub reading_ends : ReadingEnds
unfolding read_events
reading_ends =
    record {
      number = number_moves;
      event = event_moves;
      header = header_moves;
      more_fuel = λ file at fuel h. enough (suc (length file)) fuel file at (omega arith) h;
      one_by_one = unfueled;
    }
