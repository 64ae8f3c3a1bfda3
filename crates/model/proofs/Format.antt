-- The parts of the format: several numbers, kinds of events, the header of an accepted opening. Assumes nothing.
use Prim.Native.Nat.{ℕ, suc, ◌+◌, ◌*◌, ◌/◌, ◌%◌, ◌≤◌, ◌<◌}
use native.Mathlib.Omega.{arith}
use mathlib.Core.Path.{◌≡◌, refl, sym, ap, ◌∙◌}
use mathlib.Core.Logic.{inl, inr}
use mathlib.Core.Bool.{true, false, ◌&&◌}
use mathlib.Core.List.{List, [], ◌∷◌, ◌++◌, append_assoc}
use mathlib.Core.Option.{none, some}
use lib.Dec.{ltb, leb, eqb}
use lib.ListN.{length, get_or, length-append}
use borrow.Author.Tests.{le-leb, leb-true, eqb-true, eqb-false, ltb-true, not-false}
use Rattle.model.specs.Limits.{nodes_most, links_most, number_most}
use Rattle.model.specs.Answers as answers
use Rattle.model.specs.State.{end}
use Rattle.model.specs.Formed.{sized}
use Rattle.model.specs.Events.{Event, send, deliver, lose, fail}
use Rattle.model.specs.Opening.{links_in}
use Rattle.model.specs.Number.{number_bytes, had}
use Rattle.model.specs.File.{Header, opening, of_kind, kind, argument, read_event, Drill}
use Rattle.model.specs.Writing.{numbers_bytes, header_bytes, event_bytes, events_bytes, write}
use Rattle.model.proofs.Below.{look, and_both}
use Rattle.model.proofs.Opening.{Tested, tested, right_sizes, named}
use Rattle.model.proofs.Numbers.{never, number_long}

-- ---- several numbers
abbrev pub Small : List ℕ → Type 0
Small [] = Unit {0}
Small (n ∷ ns) = (n ≤ number_most) × Small ns

pub numbers_cons : (n : ℕ) (ns : List ℕ) → numbers_bytes (n ∷ ns) ≡ number_bytes n ++ numbers_bytes ns
unfolding numbers_bytes
numbers_cons n ns = refl

pub numbers_nil : numbers_bytes [] ≡ []
unfolding numbers_bytes
numbers_nil = refl

pub numbers_assoc : (n : ℕ) (ns t : List ℕ) → numbers_bytes (n ∷ ns) ++ t ≡ number_bytes n ++ (numbers_bytes ns ++ t)
numbers_assoc n ns t = rw numbers_cons (append_assoc (number_bytes n) (numbers_bytes ns) t)

pub numbers_length : (n : ℕ) (ns : List ℕ) → length (numbers_bytes (n ∷ ns)) ≡ length (number_bytes n) + length (numbers_bytes ns)
numbers_length n ns = ap length (numbers_cons n ns) ∙ length-append (number_bytes n) (numbers_bytes ns)

-- ---- events by their kinds
pub of_kind_lem : (e : Event) → (make : ℕ → Event) × (of_kind (kind e) ≡ some make) × (make (argument e) ≡ e)
unfolding of_kind
of_kind_lem (send v) = (send, refl, refl)
of_kind_lem (deliver x) = (deliver, refl, refl)
of_kind_lem (lose x) = (lose, refl, refl)
of_kind_lem (fail l) = (fail, refl, refl)

pub kind_small : (e : Event) → kind e ≤ 4
kind_small (send v) = omega arith
kind_small (deliver x) = omega arith
kind_small (lose x) = omega arith
kind_small (fail l) = omega arith

-- a kind that is known makes an event of it
pub kind_made : (k : ℕ) (make : ℕ → Event) (a : ℕ) → of_kind k ≡ some make → (kind (make a) ≡ k) × (argument (make a) ≡ a)
unfolding of_kind
kind_made k make a e = elim (look (eqb k 1)) [
  | inl one ↦ let f = rw one at e in let is : send ≡ make = cc in rw (← is) (sym (eqb-true k 1 one), refl)
  | inr not_one ↦ elim (look (eqb k 2)) [
    | inl two ↦ let f = rw (not_one, two) at e in let is : deliver ≡ make = cc in rw (← is) (sym (eqb-true k 2 two), refl)
    | inr not_two ↦ elim (look (eqb k 3)) [
      | inl three ↦ let f = rw (not_one, not_two, three) at e in let is : lose ≡ make = cc in rw (← is) (sym (eqb-true k 3 three), refl)
      | inr not_three ↦ elim (look (eqb k 4)) [
        | inl four ↦ let f = rw (not_one, not_two, not_three, four) at e in let is : fail ≡ make = cc in rw (← is) (sym (eqb-true k 4 four), refl)
        | inr not_four ↦ never (let f = rw (not_one, not_two, not_three, not_four) at e in cc)
      ]
    ]
  ]
]

-- ---- what an accepted opening tells of its header
all_small : (ns : List ℕ) → ((i : ℕ) → i < length ns → get_or ns i 0 ≤ number_most) → Small ns
all_small [] h = tt
all_small (n ∷ ns) h = (h 0 (omega arith), all_small ns (λ i l. h (suc i) (omega arith)))

pub record Opens (h : Header) : Type 0 where
  pub sizes : sized h.nodes h.destination (links_in h.list) ≡ true
  pub even : length h.list ≡ 2 * links_in h.list
  pub numbers : Small (h.nodes ∷ h.destination ∷ links_in h.list ∷ h.list)

pub sizes_small : (nodes destination links : ℕ) → sized nodes destination links ≡ true
    → (nodes ≤ nodes_most) × (destination < nodes) × (links ≤ links_most)
unfolding sized
sizes_small n d l e =
    let a = and_both (leb 1 n && leb n nodes_most && ltb d n) (leb l links_most) e in
    let b = and_both (leb 1 n && leb n nodes_most) (ltb d n) a.0 in
    let c = and_both (leb 1 n) (leb n nodes_most) b.0 in
    (leb-true n nodes_most c.1, ltb-true d n b.1, leb-true l links_most a.1)

pub opens : (h : Header) → (opening h).answer ≡ answers.done → Opens h
opens h e =
    record {
      sizes = sizes;
      even = even;
      numbers = (omega (arith, small.0), (omega (arith, small.0, small.1), (omega (arith, small.2), all_small list node)));
    }
  where
    list : List ℕ
    list = h.list

    tests : Tested h.nodes h.destination list false
    tests = tested h.nodes h.destination list false e

    sizes : sized h.nodes h.destination (links_in list) ≡ true
    sizes = right_sizes h.nodes h.destination list tests.sizes

    small : (h.nodes ≤ nodes_most) × (h.destination < h.nodes) × (links_in list ≤ links_most)
    small = sizes_small h.nodes h.destination (links_in list) sizes

    even : length list ≡ 2 * links_in list
    even =
        let odd = eqb (length list % 2) 0 in
        let both = and_both odd (sized h.nodes h.destination (links_in list)) (not-false (odd && sized h.nodes h.destination (links_in list)) tests.sizes) in
        omega (arith, eqb-true (length list % 2) 0 both.0)

    node : (i : ℕ) → i < length list → get_or list i 0 ≤ number_most
    node i l =
        let two = named h.nodes h.destination list tests.links (i / 2) (omega (arith, even)) in
        elim (look (eqb (i % 2) 0)) [
          | inl z ↦
              let same : end (i / 2) 0 ≡ i = omega (arith, eqb-true (i % 2) 0 z) in
              omega (arith, rw same at two.0, small.0)
          | inr z ↦
              let same : end (i / 2) 1 ≡ i = omega (arith, eqb-false (i % 2) 0 z) in
              omega (arith, rw same at two.1, small.0)
        ]

-- ---- the parts of a writing
pub events_nil : events_bytes [] ≡ []
unfolding events_bytes
events_nil = refl

pub events_cons : (e : Event) (es : List Event) → events_bytes (e ∷ es) ≡ event_bytes e ++ events_bytes es
unfolding events_bytes
events_cons e es = refl

pub event_long : (e : Event) → 0 < length (event_bytes e)
event_long e = omega (arith, numbers_length (kind e) (argument e ∷ []), number_long (kind e))

-- no more events than bytes
pub few : (es : List Event) → length es ≤ length (events_bytes es)
few [] = omega arith
few (e ∷ es) = omega (arith, ap length (events_cons e es) ∙ length-append (event_bytes e) (events_bytes es), event_long e, few es)

pub write_is : (d : Drill) → write d ≡ header_bytes d.header ++ events_bytes d.events
unfolding write
write_is d = refl

pub event_end : (file : List ℕ) (at : ℕ) → length file ≤ at → read_event file at ≡ had none (length file)
unfolding read_event
event_end file at h = rw (le-leb (length file) at h)
