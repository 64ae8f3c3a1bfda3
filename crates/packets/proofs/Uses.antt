-- A place that is in use, or none. Assumes nothing.
use Prim.Native.Nat.{ℕ, ◌≤◌, ◌<◌}
use mathlib.Core.Path.{◌≡◌}
use mathlib.Core.Logic.{inl, inr}
use lib.Dec.{ltb}
use native.Mathlib.Omega.{arith}
use borrow.Author.Tests.{lt-ltb, le-ltb, ltb-true, ltb-false}
use Rattle.model.proofs.Below.{look}
use Rattle.std.specs.Prelude.{Some, None}
use Rattle.std.specs.declared.option.Option.{Option}
use Rattle.packets.specs.Moves.{in_use}

pub used_here : (flying : ℕ) {i n : ℕ} → n ≡ i → i < flying → ◌≡◌ {A = Option ℕ} (Some i) (in_use flying n)
used_here flying {i} e h = rw (e, lt-ltb i flying h)

pub used_past : (flying : ℕ) {n : ℕ} → flying ≤ n → ◌≡◌ {A = Option ℕ} None (in_use flying n)
used_past flying {n} h = rw (le-ltb n flying h)

pub used_some : (flying n : ℕ) {i : ℕ} → ◌≡◌ {A = Option ℕ} (Some i) (in_use flying n) → (i ≡ n) × (i < flying)
used_some flying n {i} h = elim (look (ltb n flying)) [
  | inl e ↦
      let same : ◌≡◌ {A = Option ℕ} (Some i) (Some n) = rw e at h in
      let q : i ≡ n = cc in
      (q, omega (arith, q, ltb-true n flying e))
  | inr e ↦ let none : ◌≡◌ {A = Option ℕ} (Some i) None = rw e at h in absurd cc
]

pub used_none : (flying n : ℕ) → ◌≡◌ {A = Option ℕ} None (in_use flying n) → flying ≤ n
used_none flying n h = elim (look (ltb n flying)) [
  | inl e ↦ let some : ◌≡◌ {A = Option ℕ} None (Some n) = rw e at h in absurd cc
  | inr e ↦ ltb-false n flying e
]
