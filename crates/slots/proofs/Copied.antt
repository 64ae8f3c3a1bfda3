-- The first entries of an array copied over those of another; the rest stays. Assumes nothing.
use Prim.Native.Nat.{ℕ, ◌+◌, ◌-◌, ◌≤◌, ◌<◌}
use native.Mathlib.Omega.{arith}
use mathlib.Core.Path.{◌≡◌, ap, ◌∙◌}
use mathlib.Core.List.{List, ◌++◌}
use lib.ListN.{length, get_or, get_or-append, length-append, length-drop, take}
use borrow.Rule.Slice.PartMut.{post_of}
use Rattle.std.proofs.lemmas.List.{get_or-take, get_or-drop, get_or-append_right, length-take}

module _ {A : Type 0} (k : ℕ) (src old part : List A) (e : part ≡ take k src) (h : k ≤ length src) where
  long : length part ≡ k
  long = omega (arith, ap length e, length-take k src)

  pub copied_long : k ≤ length old → length (part ++ post_of 0 k old) ≡ length old
  copied_long b =
      let behind : length (post_of 0 k old) ≡ length old - k = length-drop k old in
      omega (arith, length-append part (post_of 0 k old), long, behind, b)

  module _ (i : ℕ) (d : A) where
    pub copied_here : i < k → get_or (part ++ post_of 0 k old) i d ≡ get_or src i d
    copied_here b = get_or-append part (post_of 0 k old) d i (omega (arith, long)) ∙ rw e (get_or-take k src i d b)

    pub copied_past : k ≤ i → get_or (part ++ post_of 0 k old) i d ≡ get_or old i d
    copied_past b =
        let on : k + (i - k) ≡ i = omega arith in
        get_or-append_right part (post_of 0 k old) k i d long b ∙ get_or-drop k old (i - k) d ∙ rw on
