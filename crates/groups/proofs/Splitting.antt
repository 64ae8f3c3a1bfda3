-- The bytes of a number, by how many groups it has. Assumes nothing.
use Prim.Native.Nat.{ℕ, suc, ◌+◌, ◌/◌, ◌%◌, ◌≤◌}
use native.Mathlib.Omega.{arith}
use mathlib.Core.Path.{◌≡◌}
use mathlib.Core.List.{[], ◌∷◌}
use borrow.Author.Tests.{lt-ltb, le-ltb}
use Rattle.model.specs.Limits.{group, number_most}
use Rattle.model.specs.Number.{groups}

-- the number ends, or goes on, with its lowest group
groups_end : (k n : ℕ) → n / group ≡ 0 → groups (suc k) n ≡ n % group ∷ []
unfolding groups
groups_end k n e =
    let same : n % group ≡ n = omega arith in
    rw (lt-ltb n group (omega arith), same)

groups_more : (k n : ℕ) → (n / group ≡ 0 → ⊥) → groups (suc k) n ≡ (n % group + group) ∷ groups k (n / group)
unfolding groups
groups_more k n e = rw (le-ltb n group (omega arith))

module _ (n : ℕ) where
  pub one : (high a : ℕ) → high ≡ n / group → high ≡ 0 → a ≡ n % group → a ∷ [] ≡ groups 3 n
  one high a p z q = rw (q, groups_end 2 n (omega arith))

  module _ (high a : ℕ) (p : high ≡ n / group) (z : high ≡ 0 → ⊥) (q : a ≡ n % group + group) where
    lower : groups 3 n ≡ a ∷ groups 2 high
    lower = rw (q, p, groups_more 2 n (λ e. z (omega arith)))

    pub two : (top b : ℕ) → top ≡ high / group → top ≡ 0 → b ≡ high % group → a ∷ b ∷ [] ≡ groups 3 n
    two top b t y r = rw (lower, r, groups_end 1 high (omega arith))

    pub three : n ≤ number_most → (top b d : ℕ) → top ≡ high / group → (top ≡ 0 → ⊥) → b ≡ high % group + group → d ≡ top % group
        → a ∷ b ∷ d ∷ [] ≡ groups 3 n
    three h top b d t y r s =
        rw (lower, r, s, groups_more 1 high (λ e. y (omega arith)), ← t, groups_end 0 top (omega arith))
