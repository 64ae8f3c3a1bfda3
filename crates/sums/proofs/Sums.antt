-- Sums of lists that are put together. Assumes nothing.
use Prim.Native.Nat.{ℕ, ◌+◌, ◌<◌}
use native.Mathlib.Numerals.{add-one}
use mathlib.Core.Path.{◌≡◌, refl, sym, ap, ◌∙◌}
use mathlib.Core.List.{List, [], ◌∷◌, ◌++◌}
use lib.ListN.{length, get_or, take}
use lib.Seq.{take-suc}
use Rattle.sums.specs.Sums.{summed, sum_from, each}

sum_append : (h : ℕ) (a b : List ℕ) → sum_from h (a ++ b) ≡ sum_from (sum_from h a) b
sum_append h [] b = refl
sum_append h (v ∷ a) b = sum_append (summed h v) a b

-- one list after another
pub sum_then : (h : ℕ) (a b : List ℕ) (s t : ℕ) → s ≡ sum_from h a → t ≡ sum_from s b → t ≡ sum_from h (a ++ b)
sum_then h a b s t e e' = e' ∙ ap (λ (x : ℕ). sum_from x b) e ∙ sym (sum_append h a b)

-- in a loop: the first k of a kind, and one more
pub sum_step : (h : ℕ) (f : ℕ → List ℕ) (k s t : ℕ) → s ≡ sum_from h (each f k) → t ≡ sum_from s (f k) → t ≡ sum_from h (each f (k + 1))
unfolding each
sum_step h f k s t e e' = sum_then h (each f k) (f k) s t e e' ∙ ap (λ (n : ℕ). sum_from h (each f n)) (sym (add-one k))

-- the same of a list's values
pub values_step : (h : ℕ) (b : List ℕ) (i s t : ℕ) → i < length b → s ≡ sum_from h (take i b) → t ≡ summed s (get_or b i 0) → t ≡ sum_from h (take (i + 1) b)
values_step h b i s t l e e' =
    sum_then h (take i b) (get_or b i 0 ∷ []) s t e e' ∙ ap (sum_from h) (sym (take-suc b i 0 l) ∙ ap (λ (n : ℕ). take n b) (sym (add-one i)))
