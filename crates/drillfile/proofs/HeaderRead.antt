-- What reading a header gives in each case that the code tells apart. Assumes nothing.
use Prim.Native.Nat.{ℕ, ◌*◌, min}
use native.Mathlib.Omega.{arith}
use native.Mathlib.Decide.{dec_le}
use mathlib.Core.Path.{◌≡◌, refl, sym, ap, ◌∙◌, subst}
use mathlib.Core.Logic.{◌⊎◌, inl, inr}
use mathlib.Core.Bool.{Bool, true, false}
use mathlib.Core.List.{List, []}
use lib.Dec.{ltb}
use lib.ListN.{length, drop_of_length-le}
use borrow.Author.Tests.{eq-eqb, ne_eqb}
use Rattle.model.specs.Answers as answers
use Rattle.model.specs.Formed.{sized}
use Rattle.model.specs.Opening.{Opening, links_in, holds_closed_walk, first_bad_link, open_from}
use Rattle.model.specs.Number.{Read, had, refused, read_number}
use Rattle.model.specs.File.{Header, accepted, read_numbers, read_header}
use Rattle.model.proofs.Below.{look}
use Rattle.model.proofs.Opening.{bad_sizes}
use Rattle.network.specs.declared.opening.Opened.{Opened}
use Rattle.network.specs.Opening.{OpenPost}
use Rattle.network.proofs.Filled.{lone_view}
use Rattle.entries.specs.declared.answers.Cursor.{Cursor}
use Rattle.entries.specs.declared.answers.Refusal.{Refusal}
use Rattle.entries.specs.declared.answers.Refusal.TheVariants.{BadSizes, BadLink, ClosedWalk, NoSuch, Spoilt, TooShort}
use Rattle.entries.specs.Outcomes.{answer_of, place_of}
use Rattle.drillfile.specs.declared.answers.Headed.{Headed}
use Rattle.drillfile.specs.Headers.{header_of, OpeningAnswer, HeaderPost, refused_header, from_links}
use Rattle.std.specs.Prelude.{Ok, Err}

-- ---- openings
-- their answers, each with its place
module _ (nodes destination : ℕ) (list : List ℕ) where
  abbrev bad_link : Bool
  bad_link = ltb (first_bad_link nodes list) (links_in list)

  abbrev ring : Bool
  ring = holds_closed_walk nodes list

  answered : OpeningAnswer (open_from nodes destination list).answer (open_from nodes destination list).place
  unfolding open_from
  answered = go (look (bad_sizes nodes destination list)) (look bad_link) (look ring)
    where
      go : (bad_sizes nodes destination list ≡ true) ⊎ (bad_sizes nodes destination list ≡ false)
          → (bad_link ≡ true) ⊎ (bad_link ≡ false)
          → (ring ≡ true) ⊎ (ring ≡ false)
          → OpeningAnswer (open_from nodes destination list).answer (open_from nodes destination list).place
      go (inl s) l w = rw s (inr (inl (refl, refl)))
      go (inr s) (inl l) w = rw (s, l) (inr (inr (inl refl)))
      go (inr s) (inr l) (inl w) = rw (s, l, w) (inr (inr (inr (refl, refl))))
      go (inr s) (inr l) (inr w) = rw (s, l, w) (inl (refl, refl))

  pub opening_answers : (o : Opened) → OpenPost nodes destination list o → OpeningAnswer o.answer o.place
  opening_answers o p = subst (λ (x : Opening). OpeningAnswer x.answer x.place) (sym p.outcome) answered

-- ---- refusals
-- a refusal's answer is not 0
pub not_done : (r : Refusal) → answer_of r ≡ answers.done → ⊥
not_done BadSizes e = omega arith
not_done (BadLink place) e = omega arith
not_done ClosedWalk e = omega arith
not_done NoSuch e = omega arith
not_done (Spoilt place) e = omega arith
not_done TooShort e = omega arith

-- an opening that is refused has the record that a refused header gives
no_nodes : (open_from 0 0 []).answer ≡ answers.bad_sizes
unfolding open_from sized
no_nodes = refl

pub refused_is : (r : Opened) → OpenPost 0 0 [] r → (refusal : Refusal) (from : Cursor)
    → record { network = r.network; outcome = Err refusal; next = from } ≡ refused_header refusal from
refused_is r p refusal from =
    let two : r.answer ≡ answers.bad_sizes = ap (λ o. o.answer) p.outcome ∙ no_nodes in
    λ i. record { network = p.lone (λ e. omega arith) i; outcome = Err refusal; next = from }

pub refuses : (read : Read Header) (refusal : Refusal) (from : Cursor) (r : Headed) → r ≡ refused_header refusal from
    → read ≡ refused (answer_of refusal) (place_of refusal) → HeaderPost from.at read r
refuses read refusal from r e f =
    rw (e, f)
    (record {
      outcome = λ i. record { state = lone_view i; answer = answer_of refusal; place = place_of refusal; next = from.at };
      lone = λ n. refl;
    })

-- ---- the links
-- what their list opens
module _ (nodes destination : ℕ) (list : List ℕ) (next : ℕ) (from : Cursor) (o : Opened) (p : OpenPost nodes destination list o) where
  abbrev Opens : Headed → Type 0
  Opens h = HeaderPost from.at (accepted (header_of nodes destination list) next) h

  answer_is : o.answer ≡ (open_from nodes destination list).answer
  answer_is = ap (λ x. x.answer) p.outcome

  place_is : o.place ≡ (open_from nodes destination list).place
  place_is = ap (λ x. x.place) p.outcome

  pub not_opened : (refusal : Refusal) → answer_of refusal ≡ o.answer → place_of refusal ≡ o.place
      → Opens (record { network = o.network; outcome = Err refusal; next = from })
  not_opened refusal e f =
      let n : o.answer ≡ answers.done → ⊥ = λ z. not_done refusal (e ∙ z) in
      refuses (accepted (header_of nodes destination list) next) refusal from
      (record { network = o.network; outcome = Err refusal; next = from })
      (λ i. record { network = p.lone n i; outcome = Err refusal; next = from })
      (rw (ne_eqb (open_from nodes destination list).answer answers.done (λ z. n (answer_is ∙ z)), e, f, answer_is, place_is))

  pub opens_it : (one : Unit {0}) → o.answer ≡ answers.done
      → Opens (record { network = o.network; outcome = Ok one; next = record { at = next } })
  opens_it one z =
      let read : accepted (header_of nodes destination list) next ≡ had (header_of nodes destination list) next =
      rw (eq-eqb (open_from nodes destination list).answer answers.done (sym answer_is ∙ z)) in
      record {
        outcome = (λ i. record { state = (p.outcome i).state; answer = answers.done; place = 0; next = next }) ∙ rw read;
        lone = λ n. absurd (n refl);
      }

-- the list is cut short, or is whole
module _ (nodes destination links : ℕ) (file : List ℕ) (at place : ℕ) (from : Cursor) (r : Headed) where
  pub list_cut : read_numbers (2 * links) file at ≡ refused answers.spoilt place → r ≡ refused_header (Spoilt place) from
      → HeaderPost from.at (from_links nodes destination links file at) r
  list_cut e q = refuses (from_links nodes destination links file at) (Spoilt place) from r q (rw e)

  pub list_whole : (list : List ℕ) → read_numbers (2 * links) file at ≡ had list place
      → HeaderPost from.at (accepted (header_of nodes destination list) place) r
      → HeaderPost from.at (from_links nodes destination links file at) r
  list_whole list e p = rw e p

-- ---- the three numbers before them
-- a position past the end counts as the end
clamped : (file : List ℕ) (at : ℕ) → read_number file (min at (length file)) ≡ read_number file at
unfolding read_number
clamped file at = elim (dec_le at (length file)) [
  | yes h ↦ let same : min at (length file) ≡ at = omega arith in ap (λ (k : ℕ). read_number file k) same
  | no h ↦
      let last : min at (length file) ≡ length file = omega arith in
      let again : min (length file) (length file) ≡ length file = omega arith in
      rw (last, again, drop_of_length-le file {i = at} (omega arith), drop_of_length-le file {i = length file} (omega arith))
]

pub first_at : (file : List ℕ) (from : Cursor) (at : ℕ) → at ≡ min from.at (length file) → read_number file at ≡ read_number file from.at
first_at file from at e = ap (λ (k : ℕ). read_number file k) e ∙ clamped file from.at

module _ (file : List ℕ) (at : ℕ) where
  pub nodes_cut : (place : ℕ) → read_number file at ≡ refused answers.spoilt place → read_header file at ≡ refused answers.spoilt place
  unfolding read_header
  nodes_cut place e = rw e

  module _ (nodes p : ℕ) (e : read_number file at ≡ had nodes p) where
    pub destination_cut : (place : ℕ) → read_number file p ≡ refused answers.spoilt place → read_header file at ≡ refused answers.spoilt place
    unfolding read_header
    destination_cut place f = rw (e, f)

    module _ (destination q : ℕ) (f : read_number file p ≡ had destination q) where
      pub links_cut : (place : ℕ) → read_number file q ≡ refused answers.spoilt place → read_header file at ≡ refused answers.spoilt place
      unfolding read_header
      links_cut place g = rw (e, f, g)

      module _ (links r : ℕ) (g : read_number file q ≡ had links r) where
        pub wrong_sizes : sized nodes destination links ≡ false → read_header file at ≡ refused answers.bad_sizes 0
        unfolding read_header
        wrong_sizes s = rw (e, f, g, s)

        pub right_sizes : sized nodes destination links ≡ true → read_header file at ≡ from_links nodes destination links file r
        unfolding read_header
        right_sizes s = rw (e, f, g, s)
