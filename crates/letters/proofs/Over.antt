-- Stores over stores. Assumes nothing.
use Prim.Native.Nat.{ℕ, suc, ◌+◌, ◌≤◌, ◌<◌}
use native.Mathlib.Omega.{arith}
use mathlib.Core.Path.{◌≡◌, refl, sym, ap, ◌∙◌}
use mathlib.Core.List.{List, [], ◌∷◌, ◌++◌}
use lib.ListN.{length, set, take, drop}
use lib.Seq.{sets, sets-eq, take-length, set-set, set_comm}
use borrow.Rule.Slice.PartMut.{put_mid}
use Rattle.std.proofs.lemmas.Slice.{put_mid-paste}
use Rattle.groups.proofs.Stores.{sets_append}

-- a part overwritten
pub part_stored : (l new w : List ℕ) (at k : ℕ) → at + length w ≤ length l → k ≡ length w → new ≡ w → put_mid at k l new ≡ sets l at w
part_stored l new w at k h n e =
    put_mid-paste at k l new w (length w) e (sym n) refl
    ∙ ap (λ x. take at l ++ x ++ drop (at + length w) l) (take-length w)
    ∙ sym (sets-eq w l at h)

set_before : (y l : List ℕ) (i j b : ℕ) → i < j → set (sets l j y) i b ≡ sets (set l i b) j y
set_before [] l i j b h = refl
set_before (a ∷ y) l i j b h =
    set_before y (set l j a) i (suc j) b (omega arith) ∙ ap (λ (m : List ℕ). sets m (suc j) y) (set_comm l j i a b (λ e. omega (arith, e)))

-- a run of stores is gone where as long a one comes after it
sets_again : (y w l : List ℕ) (i : ℕ) → length y ≤ length w → sets (sets l i y) i w ≡ sets l i w
sets_again [] w l i h = refl
sets_again (a ∷ y) [] l i h = absurd (omega arith)
sets_again (a ∷ y) (b ∷ w) l i h =
    ap (λ (m : List ℕ). sets m (suc i) w) (set_before y (set l i a) i (suc i) b (omega arith))
    ∙ ap (λ (m : List ℕ). sets (sets m (suc i) y) (suc i) w) (set-set l i a b)
    ∙ sets_again y w (set l i b) (suc i) (omega arith)

pub sets_over : (x y w l : List ℕ) (i : ℕ) → length y ≤ length w → sets (sets l i (x ++ y)) (i + length x) w ≡ sets l i (x ++ w)
sets_over x y w l i h =
    ap (λ (m : List ℕ). sets m (i + length x) w) (sym (sets_append x y l i))
    ∙ sets_again y w (sets l i x) (i + length x) h
    ∙ sets_append x w l i
