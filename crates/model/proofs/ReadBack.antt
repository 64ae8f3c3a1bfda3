-- What was written is read back. Assumes nothing.
use Prim.Native.Nat.{ℕ, zero, suc, ◌+◌, ◌*◌, ◌≤◌, ◌<◌}
use native.Mathlib.Nat.{add-zero}
use native.Mathlib.Omega.{arith}
use mathlib.Core.Path.{◌≡◌, sym, ap, ◌∙◌}
use mathlib.Core.List.{List, [], ◌∷◌, ◌++◌}
use mathlib.Core.Option.{none, some}
use lib.ListN.{length, drop, length-drop, length-append}
use lib.Seq.{drop-append_seam}
use borrow.Author.Tests.{lt-leb, eq-eqb}
use Rattle.model.specs.Limits.{number_most}
use Rattle.model.specs.Answers as answers
use Rattle.model.specs.Events.{Event}
use Rattle.model.specs.Opening.{links_in}
use Rattle.model.specs.Number.{number_bytes, had, read_number}
use Rattle.model.specs.File.{Header, opening, read_numbers, read_header, kind, argument, read_event, events_from, read_events, Drill, read}
use Rattle.model.specs.Writing.{numbers_bytes, header_bytes, event_bytes, events_bytes, write}
use Rattle.model.specs.Writable.{ArgumentsFit, Writable}
use Rattle.model.specs.Promises.{ReadBack}
use Rattle.model.proofs.Numbers.{number_long, after, before_end, number_written}
use Rattle.model.proofs.Format.{Small, numbers_nil, numbers_assoc, numbers_length, of_kind_lem, kind_small, opens, events_nil, events_cons, few, write_is, event_end}

module _ (file : List ℕ) where
  -- the first of several numbers that stand at a position, and what follows it
  module _ (at n : ℕ) (ns t : List ℕ) (e : drop at file ≡ numbers_bytes (n ∷ ns) ++ t) where
    first_read : n ≤ number_most → read_number file at ≡ had n (at + length (number_bytes n))
    first_read h = number_written file at n (numbers_bytes ns ++ t) h (e ∙ numbers_assoc n ns t)

    others : drop (at + length (number_bytes n)) file ≡ numbers_bytes ns ++ t
    others = after file at (number_bytes n) (numbers_bytes ns ++ t) (e ∙ numbers_assoc n ns t)

  numbers_read : (ns : List ℕ) (at : ℕ) (t : List ℕ) → Small ns → drop at file ≡ numbers_bytes ns ++ t
      → read_numbers (length ns) file at ≡ had ns (at + length (numbers_bytes ns))
  unfolding read_numbers
  numbers_read [] at t h e = rw (numbers_nil, add-zero)
  numbers_read (n ∷ ns) at t (h, hs) e =
      let q : at + length (number_bytes n) + length (numbers_bytes ns) ≡ at + length (numbers_bytes (n ∷ ns)) = omega (arith, numbers_length n ns) in
      rw (first_read at n ns t e h, numbers_read ns (at + length (number_bytes n)) t hs (others at n ns t e), q)

  pub event_read : (at : ℕ) (e : Event) (t : List ℕ) → argument e ≤ number_most → drop at file ≡ event_bytes e ++ t
      → read_event file at ≡ had (some e) (at + length (event_bytes e))
  unfolding read_event
  event_read at e t h s =
      let k = kind e in
      let a = argument e in
      let made = of_kind_lem e in
      let r = first_read at k (a ∷ []) t s (omega (arith, kind_small e)) in
      let u = first_read (at + length (number_bytes k)) a [] t (others at k (a ∷ []) t s) h in
      let q : at + length (number_bytes k) + length (number_bytes a) ≡ at + length (event_bytes e) =
      omega (arith, numbers_length k (a ∷ []), numbers_length a [], ap length numbers_nil) in
      let here = before_end file at (number_bytes k) (numbers_bytes (a ∷ []) ++ t) (s ∙ numbers_assoc k (a ∷ []) t) (number_long k) in
      rw (lt-leb (length file) at (omega (arith, here, number_long k)), r, made.1, u, made.2, q)

  pub header_read : (h : Header) → (opening h).answer ≡ answers.done → (at : ℕ) (t : List ℕ) → drop at file ≡ header_bytes h ++ t
      → read_header file at ≡ had h (at + length (header_bytes h))
  unfolding read_header
  header_read h o at t e =
      let list = h.list in
      let links = links_in list in
      let os = opens h o in
      let n : List ℕ = h.destination ∷ links ∷ list in
      let p : ℕ = at + length (number_bytes h.nodes) in
      let q : ℕ = p + length (number_bytes h.destination) in
      let r : ℕ = q + length (number_bytes links) in
      let e₁ : drop p file ≡ numbers_bytes n ++ t = others at h.nodes n t e in
      let e₂ : drop q file ≡ numbers_bytes (links ∷ list) ++ t = others p h.destination (links ∷ list) t e₁ in
      let e₃ : drop r file ≡ numbers_bytes list ++ t = others q links list t e₂ in
      let r₀ = first_read at h.nodes n t e os.numbers.0 in
      let r₁ = first_read p h.destination (links ∷ list) t e₁ os.numbers.1.0 in
      let r₂ = first_read q links list t e₂ os.numbers.1.1.0 in
      let r₃ : read_numbers (2 * links) file r ≡ had list (r + length (numbers_bytes list)) =
      ap (λ (k : ℕ). read_numbers k file r) (sym os.even) ∙ numbers_read list r t os.numbers.1.1.1 e₃ in
      let last : r + length (numbers_bytes list) ≡ at + length (header_bytes h) =
      omega (arith, numbers_length h.nodes n, numbers_length h.destination (links ∷ list), numbers_length links list) in
      rw (r₀, r₁, r₂, os.sizes, r₃, eq-eqb (opening h).answer answers.done o, last)

  pub events_read : (es : List Event) (fuel at : ℕ) → length es < fuel → ArgumentsFit es → drop at file ≡ events_bytes es
      → events_from fuel file at ≡ record { events = es; spoilt = none }
  unfolding events_from
  events_read es zero at l h e = absurd (omega arith)
  events_read [] (suc fuel) at l h e = rw (event_end file at (omega (arith, length-drop at file, ap length (e ∙ events_nil))))
  events_read (a ∷ es) (suc fuel) at l (h, hs) e =
      let f = e ∙ events_cons a es in
      let more = events_read es fuel (at + length (event_bytes a)) (omega arith) hs (after file at (event_bytes a) (events_bytes es) f) in
      rw (event_read at a (events_bytes es) h f, more)

pub read_write : (d : Drill) → Writable d → read (write d) ≡ had d (length (write d))
unfolding read read_events
read_write d w =
    let file = write d in
    let h = header_read file d.header w.header 0 (events_bytes d.events) (write_is d) in
    let start : ℕ = 0 + length (header_bytes d.header) in
    let e : drop start file ≡ events_bytes d.events = after file 0 (header_bytes d.header) (events_bytes d.events) (write_is d) in
    let long : length file ≡ length (header_bytes d.header) + length (events_bytes d.events) =
    ap length (write_is d) ∙ length-append (header_bytes d.header) (events_bytes d.events) in
    let r : read_events file start ≡ record { events = d.events; spoilt = none } =
    events_read file d.events (suc (length file)) start (omega (arith, few d.events)) w.arguments e in
    rw (h, r)

-- something that stands at a position of a file
stands : (before w rest : List ℕ) → drop (length before) (before ++ (w ++ rest)) ≡ w ++ rest
stands before w rest = drop-append_seam before (w ++ rest)

pub read_back : ReadBack
read_back =
    record {
      number = λ before rest n h. number_written (before ++ (number_bytes n ++ rest)) (length before) n rest h (stands before (number_bytes n) rest);
      event = λ before rest e h. event_read (before ++ (event_bytes e ++ rest)) (length before) e rest h (stands before (event_bytes e) rest);
      header = λ before rest h o. header_read (before ++ (header_bytes h ++ rest)) h o (length before) rest (stands before (header_bytes h) rest);
      drill = read_write;
    }
