-- What the packets tell an event of each kind, and where they are after it. Assumes nothing.
use Prim.Native.Nat.{ℕ, ◌-◌, ◌≤◌, ◌<◌}
use native.Mathlib.Omega.{arith}
use mathlib.Core.Path.{◌≡◌, refl, ap}
use mathlib.Core.Logic.{inl, inr}
use mathlib.Core.Bool.{Bool}
use mathlib.Core.List.{List, [], ◌∷◌}
use lib.Dec.{eqb}
use lib.ListN.{length}
use borrow.Author.Tests.{ne_eqb}
use Rattle.model.specs.declared.Handled.{Handled}
use Rattle.model.specs.declared.Handled.TheVariants as handled
use Rattle.model.specs.declared.Went.{Went}
use Rattle.model.specs.declared.Went.TheVariants as went
use Rattle.model.specs.State.{Packet}
use Rattle.model.specs.Lanes.{on_lane}
use Rattle.model.specs.Fail.{off}
use Rattle.model.proofs.Below.{look}
use Rattle.model.proofs.Lanes.{less_length}
use Rattle.std.specs.Prelude.{Some}
use Rattle.arrays.specs.declared.Oldest.{Oldest}
use Rattle.arrays.specs.declared.Told.{Told}
use Rattle.arrays.specs.Told.{oldest_in, tells, without, cleared, passed, flies}

module _ (flight : List Packet) (a : ℕ) {told : Told} where
  pub told_deliver : {kind : ℕ} → kind ≡ 2 → told ≡ tells flight kind a → told ≡ oldest_in (on_lane a flight)
  unfolding tells
  told_deliver k e = rw k at e

  pub told_lose : {kind : ℕ} → kind ≡ 3 → told ≡ tells flight kind a → told ≡ oldest_in (on_lane a flight)
  unfolding tells
  told_lose k e = rw k at e

  pub told_fail : {kind : ℕ} → kind ≡ 4 → told ≡ tells flight kind a → told.gone ≡ length flight - length (off a flight)
  unfolding tells
  told_fail k e = ap (λ (t : Told). t.gone) (rw k at e)

-- ---- they do not tell of more packets than there are
none_there : (x : ℕ) (flight : List Packet) (on : List Packet) {o : Oldest} → on_lane x flight ≡ on → (oldest_in on).oldest ≡ Some o → 0 < length flight
none_there x flight [] q e = cc
none_there x flight (p ∷ ps) q e = omega (arith, less_length x flight q)

none_gone : (on : List Packet) → (oldest_in on).gone ≡ 0
none_gone [] = refl
none_gone (p ∷ ps) = refl

module _ (flight : List Packet) (kind a : ℕ) where
  pub tells_there : (o : Oldest) → (tells flight kind a).oldest ≡ Some o → 0 < length flight
  unfolding tells
  tells_there o e = elim (look (eqb kind 1)) [
    | inl z ↦ let y = rw z at e in cc
    | inr z ↦ elim (look (eqb kind 4)) [
      | inl k ↦ let y = rw (z, k) at e in cc
      | inr k ↦ none_there a flight (on_lane a flight) refl (rw (z, k) at e)
    ]
  ]

  pub tells_gone : (tells flight kind a).gone ≤ length flight
  unfolding tells
  tells_gone = elim (look (eqb kind 1)) [
    | inl z ↦ rw z (omega arith)
    | inr z ↦ elim (look (eqb kind 4)) [
      | inl k ↦ rw (z, k) (omega arith)
      | inr k ↦ rw (z, k) (omega (arith, none_gone (on_lane a flight)))
    ]
  ]

module _ (a : ℕ) (local : List Bool) (flight : List Packet) (answer : ℕ) where
  module _ (h : Handled) (w : Went) where
    pub flies_send : {kind : ℕ} → kind ≡ 1 → flies kind a local flight answer h w ≡ passed local flight h w
    unfolding flies
    flies_send k = rw k

    pub flies_deliver : {kind : ℕ} → kind ≡ 2 → flies kind a local flight answer h w ≡ passed local (without answer a flight) h w
    unfolding flies
    flies_deliver k = rw k

    pub flies_lose : {kind : ℕ} → kind ≡ 3 → flies kind a local flight answer h w ≡ passed local (without answer a flight) h w
    unfolding flies
    flies_lose k = rw k

    pub flies_fail : {kind : ℕ} → kind ≡ 4 → flies kind a local flight answer h w ≡ passed local (cleared answer a flight) h w
    unfolding flies
    flies_fail k = rw k

  -- a refusal moves none
  pub flies_not : (kind : ℕ) → (answer ≡ 0 → ⊥) → flies kind a local flight answer handled.Nothing went.Nowhere ≡ flight
  unfolding flies
  flies_not kind n = elim (look (eqb kind 1)) [
    | inl s ↦ rw s
    | inr s ↦ elim (look (eqb kind 4)) [
      | inl f ↦ rw (s, f, ne_eqb answer 0 n)
      | inr f ↦ rw (s, f, ne_eqb answer 0 n)
    ]
  ]
