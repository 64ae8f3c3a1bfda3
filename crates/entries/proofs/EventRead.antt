-- What reading an event gives in each case that the code tells apart. Assumes nothing.
use Prim.Native.Nat.{ℕ, ◌≤◌, ◌<◌}
use native.Mathlib.Omega.{arith}
use mathlib.Core.Path.{◌≡◌, sym, ap, ◌∙◌}
use mathlib.Core.Bool.{true, false}
use mathlib.Core.List.{List}
use lib.ListN.{length}
use borrow.Author.Tests.{lt-leb}
use Rattle.model.specs.Answers as answers
use Rattle.model.specs.Number.{had, refused, read_number}
use Rattle.model.specs.File.{of_kind, read_event}
use Rattle.model.proofs.Numbers.{number_place, number_moves}
use Rattle.model.proofs.Format.{kind_made, event_end}
use Rattle.std.specs.Prelude.{None, Some, Result, Ok, Err}
use Rattle.groups.specs.declared.answers.Number.{Number}
use Rattle.groups.specs.declared.answers.Spoilt.{Spoilt}
use Rattle.groups.specs.Numbers.{number_of}
use Rattle.entries.specs.declared.answers.Cursor.{Cursor}
use Rattle.entries.specs.declared.answers.Got.{Got}
use Rattle.entries.specs.Outcomes.{seen, spoilt_at, event_at, known}
use Rattle.entries.proofs.KnownKinds.{known_makes, known_not}

-- a number that was not had was looked for at its place
pub place_is : (file : List ℕ) (at place : ℕ) → at ≤ length file → read_number file at ≡ refused answers.spoilt place
    → read_number file at ≡ refused answers.spoilt at
place_is file at place h e =
    let p = number_place file at answers.spoilt place e in
    let same : place ≡ at = omega (arith, p.1) in
    e ∙ ap (λ (n : ℕ). refused answers.spoilt n) same

-- what the code's number says of the file's
pub as_had : (file : List ℕ) (at : ℕ) {r : Result Number Spoilt} (n : Number) → number_of r ≡ read_number file at → r ≡ Ok n
    → read_number file at ≡ had n.value n.next
as_had file at n e q = sym e ∙ ap number_of q

pub as_spoilt : (file : List ℕ) (at : ℕ) {r : Result Number Spoilt} (s : Spoilt) → at ≤ length file → number_of r ≡ read_number file at
    → r ≡ Err s → read_number file at ≡ refused answers.spoilt at
as_spoilt file at s h e q = place_is file at s.place h (sym e ∙ ap number_of q)

-- the end of a file, and an event, as the code gives them
abbrev end_of : ℕ → Got
end_of length = record { event = Ok None; next = record { at = length } }

abbrev event_of : ℕ → ℕ → ℕ → Got
event_of kind argument next = record { event = Ok (Some (record { kind = kind; argument = argument })); next = record { at = next } }

module _ (file : List ℕ) (from : Cursor) where
  pub no_more : length file ≤ from.at → seen (end_of (length file)) ≡ event_at file from.at
  unfolding event_at
  no_more h = rw (event_end file from.at h)

  module _ (here : from.at < length file) {kind : Result Number Spoilt} (read : number_of kind ≡ read_number file from.at) where
    pub no_kind : (s : Spoilt) → kind ≡ Err s → {g : Got} → g ≡ spoilt_at from.at from → seen g ≡ event_at file from.at
    unfolding event_at read_event
    no_kind s q g = rw (g, lt-leb (length file) from.at here, as_spoilt file from.at s (omega arith) read q)

    module _ (k : Number) (q : kind ≡ Ok k) where
      pub unknown_kind : known (of_kind k.value) ≡ false → {g : Got} → g ≡ spoilt_at from.at from → seen g ≡ event_at file from.at
      unfolding event_at read_event
      unknown_kind e g = rw (g, lt-leb (length file) from.at here, as_had file from.at k read q, known_not (of_kind k.value) e)

      module _ (e : known (of_kind k.value) ≡ true) {argument : Result Number Spoilt} (read_argument : number_of argument ≡ read_number file k.next) where
        pub no_argument : (s : Spoilt) → argument ≡ Err s → {g : Got} → g ≡ spoilt_at k.next from → seen g ≡ event_at file from.at
        unfolding event_at read_event
        no_argument s f g =
            let r = as_had file from.at k read q in
            let m = number_moves file from.at k.value k.next r in
            rw (g, lt-leb (length file) from.at here, r, (known_makes (of_kind k.value) e).1, as_spoilt file k.next s m.1 read_argument f)

        pub whole : (a : Number) → argument ≡ Ok a → seen (event_of k.value a.value a.next) ≡ event_at file from.at
        unfolding event_at read_event
        whole a f =
            let m = known_makes (of_kind k.value) e in
            let own = kind_made k.value m.0 a.value m.1 in
            rw
            (lt-leb (length file) from.at here, as_had file from.at k read q, m.1, as_had file k.next a read_argument f, own.0, own.1)
