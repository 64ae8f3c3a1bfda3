-- A part of a list: its length, and its entries. Assumes nothing.
use Prim.Native.Nat.{ℕ, ◌+◌, ◌-◌, ◌≤◌, ◌<◌}
use native.Mathlib.Omega.{arith}
use mathlib.Core.Path.{◌≡◌, ◌∙◌}
use mathlib.Core.List.{List}
use lib.ListN.{get_or, take, drop, length}
use Rattle.std.proofs.lemmas.List.{get_or-drop, get_or-take, length-take, length-drop}

module _ {ℓ} {A : Type ℓ} (xs : List A) (from to : ℕ) where
  pub part_long : from ≤ to → to ≤ length xs → length (take (to - from) (drop from xs)) ≡ to - from
  part_long h k = omega (arith, length-take (to - from) (drop from xs), length-drop from xs)

  pub part_at : (i : ℕ) (d : A) → i < to - from → get_or (take (to - from) (drop from xs)) i d ≡ get_or xs (from + i) d
  part_at i d h = get_or-take (to - from) (drop from xs) i d h ∙ get_or-drop from xs i d
