-- Tests over the numbers below a bound, and the list of a function's first values.
use Rattle.std.specs.Prelude.{ℕ, zero, suc, Bool, true, false, cond, ◌&&◌, ◌||◌, List, [], ◌∷◌}

-- some number below the bound passes the test
unfoldable pub any : (ℕ → Bool) → ℕ → Bool
any p zero = false
any p (suc n) = any p n || p n

-- every number below the bound passes the test
unfoldable pub all : (ℕ → Bool) → ℕ → Bool
all p zero = true
all p (suc n) = all p n && p n

-- the lowest of the k numbers from i on that passes the test; where none does, the number after them
unfoldable pub first : (ℕ → Bool) → ℕ → ℕ → ℕ
first p i zero = i
first p i (suc k) = cond (p i) i (first p (suc i) k)

-- the first n values of a function
unfoldable pub tab {ℓ} : {A : Type ℓ} → (ℕ → A) → ℕ → List A
tab f zero = []
tab f (suc n) = f 0 ∷ tab (λ i. f (suc i)) n
