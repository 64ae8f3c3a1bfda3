-- Runs of stores. Assumes nothing.
use Prim.Native.Nat.{ℕ, suc, ◌+◌, ◌≤◌}
use native.Mathlib.Nat.{add-zero, zero-add}
use native.Mathlib.Omega.{arith}
use mathlib.Core.Path.{◌≡◌, ap, ◌∙◌}
use mathlib.Core.List.{List, [], ◌∷◌, ◌++◌}
use lib.ListN.{length, drop, set}
use lib.Seq.{sets, sets-eq}

-- two runs, one behind the other
pub sets_append : (x y l : List ℕ) (i : ℕ) → sets (sets l i x) (i + length x) y ≡ sets l i (x ++ y)
sets_append [] y l i = rw add-zero
sets_append (a ∷ x) y l i =
    let e : i + suc (length x) ≡ suc i + length x = omega arith in
    rw e (sets_append x y (set l i a) (suc i))

-- a run at the front
pub sets_front : (x l : List ℕ) → length x ≤ length l → sets l 0 x ≡ x ++ drop (length x) l
sets_front x l h =
    let n : 0 + length x ≡ length x = zero-add (length x) in
    sets-eq x l 0 (rw n h) ∙ ap (λ (i : ℕ). x ++ drop i l) n
