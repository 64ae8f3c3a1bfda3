-- What writing an event gives in each case that the code tells apart. Assumes nothing.
use Prim.Native.Nat.{ℕ, ◌+◌, ◌≤◌, ◌<◌}
use mathlib.Core.Path.{◌≡◌, ◌∙◌}
use mathlib.Core.Bool.{true, false}
use mathlib.Core.List.{List, [], ◌∷◌, ◌++◌, append-nil}
use lib.ListN.{length}
use lib.Seq.{sets}
use borrow.Author.Tests.{le-leb, lt-leb}
use Rattle.model.specs.Limits.{number_most}
use Rattle.model.specs.Number.{number_bytes}
use Rattle.model.specs.File.{of_kind}
use Rattle.model.specs.Writing.{numbers_bytes, store, write_event}
use Rattle.model.proofs.Format.{numbers_cons, numbers_nil, kind_made}
use Rattle.std.specs.Prelude.{Ok, Err}
use Rattle.entries.specs.declared.answers.Refusal.TheVariants.{NoSuch, TooShort}
use Rattle.entries.specs.Outcomes.{known, holding}
use Rattle.entries.proofs.KnownKinds.{known_makes, known_not}
use Rattle.entries.proofs.Stores.{two_no_room, two_room}

module _ (k a : ℕ) where
  abbrev bytes : List ℕ
  bytes = number_bytes k ++ number_bytes a

  bytes_are : numbers_bytes (k ∷ a ∷ []) ≡ bytes
  bytes_are = rw (numbers_cons k (a ∷ []), numbers_cons a [], numbers_nil, append-nil)

  module _ (part : List ℕ) where
    pub unknown : known (of_kind k) ≡ false → holding (Err NoSuch) part ≡ write_event k a part
    unfolding write_event
    unknown e = rw (known_not (of_kind k) e)

    module _ (e : known (of_kind k) ≡ true) where
      pub too_large : number_most < a → holding (Err NoSuch) part ≡ write_event k a part
      unfolding write_event
      too_large h = rw ((known_makes (of_kind k) e).1, lt-leb a number_most h)

      module _ (h : a ≤ number_most) {v w : ℕ} (p : v ≡ length (number_bytes k)) (q : w ≡ length (number_bytes a)) where
        stores : store bytes part ≡ write_event k a part
        unfolding write_event
        stores =
            let m = known_makes (of_kind k) e in
            let own = kind_made k m.0 a m.1 in
            rw (m.1, le-leb a number_most h, own.0, own.1, bytes_are)

        pub too_short : length part < v + w → holding (Err TooShort) part ≡ write_event k a part
        too_short l = two_no_room (number_bytes k) (number_bytes a) part p q l ∙ stores

        pub done : {one both : List ℕ} → v + w ≤ length part → one ≡ sets part 0 (number_bytes k) → both ≡ sets one v (number_bytes a)
            → holding (Ok (v + w)) both ≡ write_event k a part
        done l f g = two_room (number_bytes k) (number_bytes a) part p q l f g ∙ stores
