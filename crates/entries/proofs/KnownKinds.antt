-- The kinds of events. Assumes nothing.
use Prim.Native.Nat.{ℕ, ◌≤◌, ◌<◌}
use native.Mathlib.Omega.{arith}
use native.Mathlib.Decide.{dec_lt}
use mathlib.Core.Path.{◌≡◌, refl, sym, ◌∙◌}
use mathlib.Core.Logic.{inl, inr}
use mathlib.Core.Bool.{true, false}
use mathlib.Core.Option.{Option, none, some}
use lib.Dec.{leb, eqb}
use borrow.Author.Tests.{eqb-false, eq-eqb, ne_eqb, lt-leb, le-leb}
use Rattle.model.specs.Limits.{number_most}
use Rattle.model.specs.Events.{Event}
use Rattle.model.specs.File.{of_kind}
use Rattle.model.proofs.Below.{look}
use Rattle.model.proofs.Format.{kind_small, kind_made}
use Rattle.entries.specs.Outcomes.{known}

-- 1 to 4 are known, and no other
none_known : (k : ℕ) → (k ≡ 1 → ⊥) → (k ≡ 2 → ⊥) → (k ≡ 3 → ⊥) → (k ≡ 4 → ⊥) → known (of_kind k) ≡ false
unfolding of_kind
none_known k one two three four = rw (ne_eqb k 1 one, ne_eqb k 2 two, ne_eqb k 3 three, ne_eqb k 4 four)

within : (k : ℕ) → 1 ≤ k → k ≤ 4 → known (of_kind k) ≡ true
unfolding of_kind
within k l h = elim (look (eqb k 1)) [
  | inl one ↦ rw one
  | inr one ↦ elim (look (eqb k 2)) [
    | inl two ↦ rw (one, two)
    | inr two ↦ elim (look (eqb k 3)) [
      | inl three ↦ rw (one, two, three)
      | inr three ↦ rw (one, two, three, eq-eqb k 4 (omega (arith, eqb-false k 1 one, eqb-false k 2 two, eqb-false k 3 three)))
    ]
  ]
]

pub under : (k : ℕ) → k < 1 → leb 1 k ≡ known (of_kind k)
under k h = lt-leb 1 k h ∙ sym (none_known k (λ e. omega arith) (λ e. omega arith) (λ e. omega arith) (λ e. omega arith))

pub above : (k : ℕ) → 1 ≤ k → leb k 4 ≡ known (of_kind k)
above k l = elim (dec_lt 4 k) [
  | yes h ↦ lt-leb k 4 h ∙ sym (none_known k (λ e. omega arith) (λ e. omega arith) (λ e. omega arith) (λ e. omega arith))
  | no h ↦ le-leb k 4 (omega arith) ∙ sym (within k l (omega arith))
]

-- one that is known makes events, and is small
pub known_makes : (o : Option (ℕ → Event)) → known o ≡ true → (make : ℕ → Event) × (o ≡ some make)
known_makes none e = let z : ◌≡◌ {A = ℕ} 0 1 = cc in absurd (omega arith)
known_makes (some make) e = (make, refl)

pub known_not : (o : Option (ℕ → Event)) → known o ≡ false → o ≡ none
known_not none e = refl
known_not (some make) e = let z : ◌≡◌ {A = ℕ} 0 1 = cc in absurd (omega arith)

pub known_small : (k : ℕ) → known (of_kind k) ≡ true → k ≤ number_most
known_small k e =
    let m = known_makes (of_kind k) e in
    omega (arith, (kind_made k m.0 0 m.1).0, kind_small (m.0 0))
