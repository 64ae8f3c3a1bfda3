-- What stands in a part of an array, by its place in the whole. Assumes nothing.
use Rattle.std.proofs.Common.{ℕ, ◌+◌, ◌≤◌, ◌<◌, ◌-◌, arith, ◌≡◌, ap, ◌∙◌, Bool, List, length, take, drop, get_or}
use Rattle.std.proofs.lemmas.List.{get_or-take, get_or-drop, length-take, length-drop}
use Rattle.model.specs.Below.{any}
use Rattle.arrays.proofs.Below.{any_same}

module _ {A : Type 0} (d : A) (xs : List A) (from n : ℕ) where
  -- the part `xs[from..from + n]`
  pub part_long : from + n ≤ length xs → length (take (from + n - from) (drop from xs)) ≡ n
  part_long h = length-take (from + n - from) (drop from xs) ∙ rw (length-drop from xs) (omega arith)

  pub part_at : (i : ℕ) → i < n → get_or (take (from + n - from) (drop from xs)) i d ≡ get_or xs (from + i) d
  part_at i h = get_or-take (from + n - from) (drop from xs) i d (omega arith) ∙ get_or-drop from xs i d

-- tests that agree below the same bound
pub any_as : (p q : ℕ → Bool) (m n : ℕ) → m ≡ n → ((i : ℕ) → i < n → p i ≡ q i) → any p m ≡ any q n
any_as p q m n e h = ap (any p) e ∙ any_same p q n h
