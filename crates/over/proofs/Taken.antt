-- Some of a list's first items passes a test: by item, and by number. Assumes nothing.
use Rattle.std.proofs.Common.{ℕ, zero, suc, ◌≤◌, arith, ◌≡◌, refl, ap, ◌∙◌, Bool, ◌||◌, List, length, take, get_or, add-one}
use Rattle.std.specs.List.{list_any}
use Rattle.std.proofs.lemmas.List.Folds.{list_any_more}
use Rattle.model.specs.Below.{any}

pub any_taken : {A : Type 0} (p : A → Bool) (d : A) (xs : List A) (n : ℕ) → n ≤ length xs
    → list_any p (take n xs) ≡ any (λ i. p (get_or xs i d)) n
unfolding any
any_taken p d xs zero h = refl
any_taken {A} p d xs (suc n) h =
    let more = list_any_more {X = A} p xs n d (omega arith) in
    (rw add-one at more) ∙ ap (λ b. b || p (get_or xs n d)) (any_taken p d xs n (omega arith))
