-- What writing a header gives in each case that the code tells apart. Assumes nothing.
use Prim.Native.Nat.{ℕ, zero, suc, ◌+◌, ◌^◌, ◌≤◌, ◌<◌}
use native.Mathlib.Omega.{arith}
use mathlib.Core.Path.{◌≡◌, sym, ap, ◌∙◌}
use mathlib.Core.List.{List, [], ◌∷◌, ◌++◌, append_assoc}
use lib.ListN.{length, get_or}
use lib.Seq.{sets}
use borrow.Author.Tests.{ne_eqb}
use Rattle.model.specs.Limits.{nodes_most, links_most, number_most}
use Rattle.model.specs.Answers as answers
use Rattle.model.specs.Opening.{links_in, open_from}
use Rattle.model.specs.Number.{number_bytes}
use Rattle.model.specs.File.{opening}
use Rattle.model.specs.Writing.{numbers_bytes, header_bytes, store, write_header}
use Rattle.model.proofs.Format.{Small, numbers_cons, numbers_nil, Opens, opens, sizes_small}
use Rattle.model.proofs.Pieces.{header_stored}
use Rattle.network.specs.declared.opening.Opened.{Opened}
use Rattle.network.specs.Opening.{OpenPost}
use Rattle.std.specs.Prelude.{Ok, Err}
use Rattle.entries.specs.declared.answers.Refusal.{Refusal}
use Rattle.entries.specs.declared.answers.Refusal.TheVariants.{TooShort}
use Rattle.entries.specs.Outcomes.{answer_of, place_of, holding}
use Rattle.drillfile.specs.Headers.{header_of}
use Rattle.entries.proofs.Stores.{two_no_room, two_room}
use Rattle.drillfile.proofs.Runs.{numbers_short}
use Rattle.drillfile.proofs.HeaderRead.{not_done}

small_at : (ns : List ℕ) → Small ns → (i : ℕ) → get_or ns i 0 ≤ number_most
small_at [] s i = omega arith
small_at (n ∷ ns) s zero = s.0
small_at (n ∷ ns) s (suc i) = small_at ns s.1 i

numbers_append : (x y : List ℕ) → numbers_bytes (x ++ y) ≡ numbers_bytes x ++ numbers_bytes y
numbers_append [] y = rw numbers_nil
numbers_append (n ∷ x) y =
    rw (numbers_cons n (x ++ y), numbers_cons n x, numbers_append x y) (sym (append_assoc (number_bytes n) (numbers_bytes x) (numbers_bytes y)))

module _ (nodes destination : ℕ) (list : List ℕ) where
  abbrev pub sizes : List ℕ
  sizes = nodes ∷ destination ∷ links_in list ∷ []

  bytes_are : header_bytes (header_of nodes destination list) ≡ numbers_bytes sizes ++ numbers_bytes list
  bytes_are = numbers_append sizes list

  module _ (o : Opened) (p : OpenPost nodes destination list o) where
    answer_is : o.answer ≡ (open_from nodes destination list).answer
    answer_is = ap (λ x. x.answer) p.outcome

    place_is : o.place ≡ (open_from nodes destination list).place
    place_is = ap (λ x. x.place) p.outcome

    pub not_opened : (part : List ℕ) (r : Refusal) → answer_of r ≡ o.answer → place_of r ≡ o.place
        → holding (Err r) part ≡ write_header (header_of nodes destination list) part
    unfolding write_header
    not_opened part r e f =
        rw (ne_eqb (open_from nodes destination list).answer answers.done (λ z. not_done r (e ∙ answer_is ∙ z)), e, f, answer_is, place_is)

    -- an accepted opening's numbers are small
    module _ (z : o.answer ≡ answers.done) where
      done : (opening (header_of nodes destination list)).answer ≡ answers.done
      done = sym answer_is ∙ z

      opened : Opens (header_of nodes destination list)
      opened = opens (header_of nodes destination list) done

      pub small_sizes : (nodes ≤ nodes_most) × (destination < nodes) × (links_in list ≤ links_most)
      small_sizes = sizes_small nodes destination (links_in list) opened.sizes

      pub sizes_fit : (i : ℕ) → get_or sizes i 0 ≤ number_most
      sizes_fit = small_at sizes (opened.numbers.0, (opened.numbers.1.0, (opened.numbers.1.1.0, tt)))

      pub list_fits : (i : ℕ) → get_or list i 0 ≤ number_most
      list_fits = small_at list opened.numbers.1.1.1

      pub count_fits : (v w : ℕ) → v ≡ length (numbers_bytes sizes) → w ≡ length (numbers_bytes list) → v + w < 2 ^ 64
      count_fits v w first second = omega (arith, numbers_short sizes, numbers_short list, opened.even, small_sizes.2)

      module _ (part : List ℕ) {v w : ℕ} (first : v ≡ length (numbers_bytes sizes)) (second : w ≡ length (numbers_bytes list)) where
        stores : store (numbers_bytes sizes ++ numbers_bytes list) part ≡ write_header (header_of nodes destination list) part
        stores = sym (header_stored (header_of nodes destination list) part done ∙ ap (λ (l : List ℕ). store l part) bytes_are)

        pub too_short : length part < v + w → holding (Err TooShort) part ≡ write_header (header_of nodes destination list) part
        too_short l = two_no_room (numbers_bytes sizes) (numbers_bytes list) part first second l ∙ stores

        pub all_written : {one both : List ℕ} → v + w ≤ length part → one ≡ sets part 0 (numbers_bytes sizes)
            → both ≡ sets one v (numbers_bytes list)
            → holding (Ok (v + w)) both ≡ write_header (header_of nodes destination list) part
        all_written l f g = two_room (numbers_bytes sizes) (numbers_bytes list) part first second l f g ∙ stores
