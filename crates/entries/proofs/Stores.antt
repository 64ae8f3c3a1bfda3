-- What a part holds after runs of stores, against the bytes to be written. Assumes nothing.
use Prim.Native.Nat.{ℕ, ◌+◌, ◌≤◌, ◌<◌}
use native.Mathlib.Nat.{zero-add}
use native.Mathlib.Omega.{arith}
use mathlib.Core.Path.{◌≡◌, ◌∙◌}
use mathlib.Core.List.{List, ◌++◌}
use lib.ListN.{length, length-append}
use lib.Seq.{sets}
use borrow.Author.Tests.{lt-ltb}
use Rattle.model.specs.Writing.{store}
use Rattle.model.proofs.Pieces.{stored}
use Rattle.groups.proofs.Stores.{sets_append, sets_front}
use Rattle.std.specs.Prelude.{Ok, Err}
use Rattle.entries.specs.declared.answers.Refusal.TheVariants.{TooShort}
use Rattle.entries.specs.Outcomes.{holding}

pub no_room : (bytes part : List ℕ) → length part < length bytes → holding (Err TooShort) part ≡ store bytes part
unfolding store
no_room bytes part h = rw (lt-ltb (length part) (length bytes) h)

pub room : (bytes part : List ℕ) {count : ℕ} {out : List ℕ} → length bytes ≤ length part → count ≡ length bytes → out ≡ sets part 0 bytes
    → holding (Ok count) out ≡ store bytes part
room bytes part h c o = rw (c, o, sets_front bytes part h, stored bytes part h)

-- two runs, one behind the other
module _ (x y part : List ℕ) {v w : ℕ} (p : v ≡ length x) (q : w ≡ length y) where
  long : length (x ++ y) ≡ length x + length y
  long = length-append x y

  pub two_no_room : length part < v + w → holding (Err TooShort) part ≡ store (x ++ y) part
  two_no_room h = no_room (x ++ y) part (omega (arith, long))

  pub two_room : {one both : List ℕ} → v + w ≤ length part → one ≡ sets part 0 x → both ≡ sets one v y
      → holding (Ok (v + w)) both ≡ store (x ++ y) part
  two_room h f g =
      let at : 0 + length x ≡ v = omega (arith, zero-add (length x)) in
      room (x ++ y) part (omega (arith, long)) (omega (arith, long)) (g ∙ rw (f, ← at) (sets_append x y part 0))
