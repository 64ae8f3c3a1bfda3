-- What is read is the one writing of what it gives. Assumes nothing.
use Prim.Native.Nat.{ℕ, zero, suc, ◌+◌, ◌*◌, ◌≤◌, ◌<◌}
use native.Mathlib.Omega.{arith}
use mathlib.Core.Path.{◌≡◌, refl, sym, ap, ◌∙◌}
use mathlib.Core.List.{List, [], ◌∷◌, ◌++◌}
use mathlib.Core.Option.{Option, none, some}
use lib.ListN.{length, drop, drop_of_length-le}
use Rattle.model.specs.Limits.{number_most}
use Rattle.model.specs.Answers as answers
use Rattle.model.specs.Events.{Event}
use Rattle.model.specs.Opening.{links_in}
use Rattle.model.specs.Number.{number_bytes, Read, had, refused, read_number}
use Rattle.model.specs.File.{and_then, Header, opening, read_numbers, read_header, kind, argument, read_event, Reading, and_more, events_from, read_events, Drill, drill_of, read}
use Rattle.model.specs.Writing.{numbers_bytes, header_bytes, event_bytes, events_bytes, write}
use Rattle.model.specs.Writable.{Bytes, ArgumentsFit, Writable}
use Rattle.model.specs.Promises.{OneWritingEach}
use Rattle.model.proofs.Numbers.{never, number_small, number_is}
use Rattle.model.proofs.Format.{numbers_nil, numbers_assoc, events_nil, events_cons, write_is}
use Rattle.model.proofs.Had.{then_had, event_had, end_had, header_had, event_moves}

module _ (file : List ℕ) (all : Bytes file) where
  numbers_is : (k at : ℕ) (ns : List ℕ) (next : ℕ) → read_numbers k file at ≡ had ns next
      → (length ns ≡ k) × (drop at file ≡ numbers_bytes ns ++ drop next file)
  unfolding read_numbers
  numbers_is zero at ns next e =
      let none : [] ≡ ns = cc in
      let same : at ≡ next = cc in
      rw (← none, same, numbers_nil) (refl, refl)
  numbers_is (suc k) at ns next e =
      let x = then_had (read_number file at) (λ n p. and_then (read_numbers k file p) λ ms q. had (n ∷ ms) q) ns next e in
      let y = then_had (read_numbers k file x.1) (λ ms q. had (x.0 ∷ ms) q) ns next x.3 in
      let ih = numbers_is k x.1 y.0 y.1 y.2 in
      let list : x.0 ∷ y.0 ≡ ns = let f = y.3 in cc in
      let same : y.1 ≡ next = let f = y.3 in cc in
      let bytes : drop at file ≡ numbers_bytes (x.0 ∷ y.0) ++ drop y.1 file =
      number_is file at x.0 x.1 x.2 all ∙ ap (λ (l : List ℕ). number_bytes x.0 ++ l) ih.1 ∙ sym (numbers_assoc x.0 y.0 (drop y.1 file)) in
      (ap length (sym list) ∙ ap suc ih.0, bytes ∙ cc)

  pub event_is : (at : ℕ) (e : Event) (next : ℕ) → read_event file at ≡ had (some e) next
      → (argument e ≤ number_most) × (drop at file ≡ event_bytes e ++ drop next file)
  event_is at e next f =
      let x = event_had file at e next f in
      let k = number_is file at (kind e) x.middle x.kind_had all in
      let a = number_is file x.middle (argument e) next x.argument_had all in
      let last : numbers_bytes (argument e ∷ []) ++ drop next file ≡ number_bytes (argument e) ++ drop next file =
      numbers_assoc (argument e) [] (drop next file) ∙ ap (λ (l : List ℕ). number_bytes (argument e) ++ (l ++ drop next file)) numbers_nil in
      let bytes : event_bytes e ++ drop next file ≡ number_bytes (kind e) ++ (number_bytes (argument e) ++ drop next file) =
      numbers_assoc (kind e) (argument e ∷ []) (drop next file) ∙ ap (λ (l : List ℕ). number_bytes (kind e) ++ l) last in
      (number_small file x.middle (argument e) next x.argument_had all, k ∙ ap (λ (l : List ℕ). number_bytes (kind e) ++ l) a ∙ sym bytes)

  pub header_is : (at : ℕ) (h : Header) (next : ℕ) → read_header file at ≡ had h next
      → ((opening h).answer ≡ answers.done) × (drop at file ≡ header_bytes h ++ drop next file)
  header_is at h next e =
      let x = header_had file at h next e in
      let list = h.list in
      let l = numbers_is (2 * x.links) x.r list next x.list_had in
      let same : x.links ≡ links_in list = omega (arith, l.0) in
      let rest = drop next file in
      let n₁ = number_is file at h.nodes x.p x.nodes_had all in
      let n₂ = number_is file x.p h.destination x.q x.destination_had all in
      let n₃ = number_is file x.q x.links x.r x.links_had all in
      let e₃ : drop x.q file ≡ numbers_bytes (links_in list ∷ list) ++ rest =
      n₃
      ∙ ap (λ (m : ℕ). number_bytes m ++ drop x.r file) same
      ∙ ap (λ (k : List ℕ). number_bytes (links_in list) ++ k) l.1
      ∙ sym (numbers_assoc (links_in list) list rest) in
      let e₂ : drop x.p file ≡ numbers_bytes (h.destination ∷ links_in list ∷ list) ++ rest =
      n₂ ∙ ap (λ (k : List ℕ). number_bytes h.destination ++ k) e₃ ∙ sym (numbers_assoc h.destination (links_in list ∷ list) rest) in
      (x.opened, n₁ ∙ ap (λ (k : List ℕ). number_bytes h.nodes ++ k) e₂ ∙ sym (numbers_assoc h.nodes (h.destination ∷ links_in list ∷ list) rest))

  abbrev EventsAre : ℕ → List Event → Type 0
  EventsAre at es = (drop at file ≡ events_bytes es) × ArgumentsFit es

  none_left : (at : ℕ) (es : List Event) → length file ≤ at → [] ≡ es → EventsAre at es
  none_left at es h e = rw (← e) (drop_of_length-le file h ∙ sym events_nil, tt)

  one_more : (at : ℕ) (e : Event) (es more : List Event) (next : ℕ) → read_event file at ≡ had (some e) next → EventsAre next more
      → e ∷ more ≡ es → EventsAre at es
  one_more at e es more next f ih q =
      let x = event_is at e next f in
      rw (← q) (x.1 ∙ ap (λ (l : List ℕ). event_bytes e ++ l) ih.0 ∙ sym (events_cons e more), (x.0, ih.1))

  events_are : (fuel at : ℕ) (es : List Event) → length file < fuel + at → events_from fuel file at ≡ record { events = es; spoilt = none } → EventsAre at es
  unfolding events_from
  events_are zero at es h e = none_left at es (omega arith) (ap (λ (r : Reading). r.events) e)
  events_are (suc fuel) at es h e = go (read_event file at) refl e (λ next more past f. events_are fuel next more (omega arith) f)
    where
      go : (x : Read (Option Event)) → read_event file at ≡ x → and_more x (λ next. events_from fuel file next) ≡ record { events = es; spoilt = none }
          → ((next : ℕ) (more : List Event) → at < next → events_from fuel file next ≡ record { events = more; spoilt = none } → EventsAre next more)
          → EventsAre at es
      go (had none next) f g ih = none_left at es (end_had file at next f) (ap (λ (r : Reading). r.events) g)
      go (had (some a) next) f g ih =
          let r = events_from fuel file next in
          let whole : r.spoilt ≡ none = ap (λ (k : Reading). k.spoilt) g in
          one_more at a es r.events next f
          (ih next r.events (event_moves file at a next f).0 (λ i. record { events = r.events; spoilt = whole i })) (ap (λ (k : Reading). k.events) g)
      go (refused answer place) f g ih = never (let z = ap (λ (k : Reading). k.spoilt) g in cc)

drill_had : (h : Header) (es : List Event) (o : Option ℕ) (last : ℕ) (d : Drill) (n : ℕ)
    → drill_of h (record { events = es; spoilt = o }) last ≡ had d n → (o ≡ none) × (d ≡ record { header = h; events = es })
drill_had h es none last d n e = (refl, cc)
drill_had h es (some place) last d n e = never cc

pub write_read : (file : List ℕ) → Bytes file → (d : Drill) (n : ℕ) → read file ≡ had d n → (write d ≡ file) × Writable d
unfolding read read_events
write_read file all d n e =
    let x = then_had (read_header file 0) (λ h next. drill_of h (read_events file next) (length file)) d n e in
    let r = read_events file x.1 in
    let y = drill_had x.0 r.events r.spoilt (length file) d n x.3 in
    let head = header_is file all 0 x.0 x.1 x.2 in
    let es = events_are file all (suc (length file)) x.1 r.events (omega arith) (λ i. record { events = r.events; spoilt = y.0 i }) in
    let made : write (record { header = x.0; events = r.events }) ≡ file =
    write_is (record { header = x.0; events = r.events }) ∙ ap (λ (l : List ℕ). header_bytes x.0 ++ l) (sym es.0) ∙ sym head.1 in
    (ap write y.1 ∙ made, rw y.1 (record { header = head.0; arguments = es.1 }))

pub one_writing : OneWritingEach
one_writing file all =
    record {
      number = λ at n next e. (number_small file at n next e all, number_is file at n next e all);
      event = event_is file all;
      header = header_is file all;
      drill = write_read file all;
      same = λ other others d n m e f. sym (write_read file all d n e).0 ∙ (write_read other others d m f).0;
    }
