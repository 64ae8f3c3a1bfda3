-- A read in place: the front that holds what was read grows by what one more read gave. Assumes nothing.
use Rattle.std.proofs.Common.{◌≡◌, ℕ, ◌+◌, ◌≤◌, List, ◌++◌, length, take, drop, sym, ap, ◌∙◌, subst, le_refl, drop_at, length-take-le, Option}
use Rattle.std.proofs.lemmas.Slice.{take-put_mid_below}
use Rattle.std.specs.Io.KnownBytes.{Consumes}
use Rattle.std.proofs.KnownBytes.{Consumes-trans}
use borrow.Rule.Slice.PartMut.{put_mid, post_of}
use lib.Seq.{take-add, take-append-le}

-- the bytes behind a part's front are those that a read put there
after_front : (at room n : ℕ) (old read : List ℕ) → at ≤ length old → n ≤ length read → take n (drop at (put_mid at room old read)) ≡ take n read
after_front at room n old read within fits =
    let rest = post_of at room old in
    ap (take n) (drop_at (take at old) (read ++ rest) at (length-take-le at old within)) ∙ take-append-le n read rest fits

pub front_grows : (a b c : Option (List ℕ)) (at room n : ℕ) (old read : List ℕ) → at ≤ length old → n ≤ length read
    → Consumes a b (take at old) → Consumes b c (take n read) → Consumes a c (take (at + n) (put_mid at room old read))
front_grows a b c at room n old read within fits before more =
    let new = put_mid at room old read in
    let front : take at new ≡ take at old = take-put_mid_below _ _ _ _ _ (le_refl at) within in
    let joined : take (at + n) new ≡ take at old ++ take n read = take-add at n new ∙ ap (λ l. take at new ++ l) (after_front at room n old read within fits) ∙ ap (λ l. l ++ take n read) front in
    subst (Consumes a c) (sym joined) (Consumes-trans a b c _ _ before more)
