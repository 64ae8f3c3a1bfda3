-- What reading tells of sizes: an event takes two bytes at least, and what is refused has a place in the file. Assumes nothing.
use Prim.Native.Nat.{ℕ, zero, suc, ◌+◌, ◌*◌, ◌≤◌, min}
use native.Mathlib.Omega.{arith}
use mathlib.Core.Path.{◌≡◌, refl}
use mathlib.Core.Bool.{Bool, true, false, not, cond}
use mathlib.Core.List.{List}
use mathlib.Core.Option.{Option, none, some}
use lib.Dec.{ltb, leb, eqb}
use lib.ListN.{length, drop}
use borrow.Author.Tests.{leb-false, ltb-true}
use Rattle.model.specs.Limits.{groups_most, file_most}
use Rattle.model.specs.Answers as answers
use Rattle.model.specs.Formed.{sized}
use Rattle.model.specs.Events.{Event}
use Rattle.model.specs.Opening.{links_in, first_bad_link, holds_closed_walk, Opening, open_from}
use Rattle.model.specs.Number.{Value, number_in, Read, had, refused, placed, read_number}
use Rattle.model.specs.File.{and_then, Header, opening, read_numbers, accepted, read_header, of_kind, with_kind, read_event, Reading, and_more, events_from, read_events}
use Rattle.model.proofs.Numbers.{never}
use Rattle.model.proofs.Format.{sizes_small}
use Rattle.model.proofs.Opening.{bad_sizes, right_sizes}
use Rattle.model.proofs.Had.{event_wide}

-- what is refused has an answer of two digits and a place that is a byte of a file or a link
abbrev pub Near : {A : Type 0} → Read A → Type 0
Near (had a next) = Unit {0}
Near (refused answer place) = (answer ≤ answers.spoilt) × (place ≤ file_most)

near_then : {A B : Type 0} (x : Read A) (f : A → ℕ → Read B) → Near x → ((a : A) (next : ℕ) → Near (f a next)) → Near (and_then x f)
near_then (had a next) f n m = m a next
near_then (refused answer place) f n m = n

-- one test of a chain
either : {A : Type 0} (P : A → Type 0) (b : Bool) {x y : A} → (b ≡ true → P x) → (b ≡ false → P y) → P (cond b x y)
either P true f g = f refl
either P false f g = g refl

near_placed : (at : ℕ) (o : Option Value) → at ≤ file_most → Near (placed at o)
near_placed at none h = (omega arith, h)
near_placed at (some v) h = tt

-- an opening that is refused: its place is 0 or a link
abbrev Placed : Opening → Type 0
Placed o = (o.answer ≤ answers.spoilt) × (o.place ≤ file_most)

opening_placed : (nodes destination : ℕ) (list : List ℕ) → Placed (open_from nodes destination list)
unfolding open_from
opening_placed nodes destination list =
    either Placed (bad_sizes nodes destination list) (λ _. (omega arith, omega arith))
    (λ sizes.
    let few = (sizes_small nodes destination (links_in list) (right_sizes nodes destination list sizes)).2 in
    either Placed (ltb (first_bad_link nodes list) (links_in list))
    (λ bad. (omega arith, omega (arith, ltb-true (first_bad_link nodes list) (links_in list) bad)))
    (λ _. either Placed (holds_closed_walk nodes list) (λ _. (omega arith, omega arith)) (λ _. (omega arith, omega arith))))

near_accepted : (h : Header) (next : ℕ) → Near (accepted h next)
near_accepted h next =
    either Near (eqb (opening h).answer answers.done) (λ _. tt) (λ _. opening_placed h.nodes h.destination h.list)

module _ (file : List ℕ) (short : length file ≤ file_most) where
  near_number : (at : ℕ) → Near (read_number file at)
  unfolding read_number
  near_number at = near_placed (min at (length file)) (number_in groups_most (drop at file)) (omega arith)

  near_numbers : (k at : ℕ) → Near (read_numbers k file at)
  unfolding read_numbers
  near_numbers zero at = tt
  near_numbers (suc k) at =
      near_then (read_number file at) _ (near_number at) (λ n p. near_then (read_numbers k file p) _ (near_numbers k p) (λ ns q. tt))

  pub near_header : (at : ℕ) → Near (read_header file at)
  unfolding read_header
  near_header at =
      near_then (read_number file at) _ (near_number at)
      (λ nodes p. near_then (read_number file p) _ (near_number p)
      (λ destination q. near_then (read_number file q) _ (near_number q)
      (λ links r. either Near (not (sized nodes destination links)) (λ _. (omega arith, omega arith))
      (λ _. near_then (read_numbers (2 * links) file r) _ (near_numbers (2 * links) r) (λ list next. near_accepted _ next)))))

  near_kind : (o : Option (ℕ → Event)) (at : ℕ) (x : Read ℕ) → at ≤ file_most → Near x → Near (with_kind o at x)
  near_kind none at x h n = (omega arith, h)
  near_kind (some make) at x h n = near_then x _ n (λ a next. tt)

  near_event : (at : ℕ) → Near (read_event file at)
  unfolding read_event
  near_event at =
      either Near (leb (length file) at) (λ _. tt)
      (λ here. near_then (read_number file at) _ (near_number at)
      (λ k p. near_kind (of_kind k) at (read_number file p) (omega (arith, leb-false (length file) at here)) (near_number p)))

  -- the events from a position on, and the place of a spoilt one
  pub record Sizes (at : ℕ) (r : Reading) : Type 0 where
    pub events : at + 2 * length r.events ≤ length file
    pub place : (n : ℕ) → r.spoilt ≡ some n → n ≤ file_most

  -- one event, and the rest that has its sizes already
  sizes_more : (at : ℕ) (more : ℕ → Reading) → at ≤ length file → ((next : ℕ) → next ≤ length file → Sizes next (more next))
      → (x : Read (Option Event)) → read_event file at ≡ x → Near x → Sizes at (and_more x more)
  sizes_more at more h rest (had none next) e n = record { events = omega arith; place = λ m f. never cc }
  sizes_more at more h rest (had (some a) next) e n =
      let w = event_wide file at a next e in
      let r = rest next w.1 in
      record { events = omega (arith, w.0, r.events); place = r.place }
  sizes_more at more h rest (refused answer place) e n =
      record { events = omega arith; place = λ m f. let same : place ≡ m = cc in omega (arith, n.1) }

  sizes_from : (fuel at : ℕ) → at ≤ length file → Sizes at (events_from fuel file at)
  unfolding events_from
  sizes_from zero at h = record { events = omega arith; place = λ m f. never cc }
  sizes_from (suc fuel) at h =
      sizes_more at (λ next. events_from fuel file next) h (λ next i. sizes_from fuel next i) (read_event file at) refl (near_event at)

  pub sizes : (at : ℕ) → at ≤ length file → Sizes at (read_events file at)
  unfolding read_events
  sizes at h = sizes_from (suc (length file)) at h
