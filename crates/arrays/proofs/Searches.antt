-- Laws of entries in use and of searches, for loops that go through an array. Assumes nothing.
use Prim.Native.Nat.{ℕ, zero, suc, ◌+◌, ◌-◌, ◌≤◌, ◌<◌, min}
use native.Mathlib.Omega.{arith}
use native.Mathlib.Numerals.{add-one}
use mathlib.Core.Path.{◌≡◌, refl, ◌∙◌, subst}
use mathlib.Core.Logic.{inl, inr}
use mathlib.Core.Bool.{Bool, true, false, ◌||◌}
use Rattle.model.specs.Below.{any, first}
use Rattle.model.proofs.Below.{look, or_neither, any_false}

-- ---- some number below a bound: one more is looked at
pub any_none : (p : ℕ → Bool) → any p 0 ≡ false
unfolding any
any_none p = refl

pub any_more : (p : ℕ → Bool) (i : ℕ) {some here : Bool} → some ≡ any p i → here ≡ p i → (some || here) ≡ any p (i + 1)
unfolding any
any_more p i e h = rw (add-one, e, h)

-- and a block more, in which none is
pub any_block : (p : ℕ → Bool) (n i : ℕ) → any p i ≡ false → any (λ j. p (i + j)) n ≡ false → any p (i + n) ≡ false
unfolding any
any_block p zero i a b = let e : i + 0 ≡ i = omega arith in rw (e, a)
any_block p (suc n) i a b =
    let e : i + suc n ≡ suc (i + n) = omega arith in
    let h = or_neither (any (λ j. p (i + j)) n) (p (i + n)) b in
    rw (e, any_block p n i a h.0, h.1)

-- ---- a search, by what is left of it
left_suc : (k i : ℕ) → i < k → k - i ≡ suc (k - suc i)
left_suc k i h = omega arith

pub first_start : (p : ℕ → Bool) (k : ℕ) → first p 0 k ≡ first p 0 (k - 0)
first_start p k = let e : k - 0 ≡ k = omega arith in rw e

pub first_yes : (p : ℕ → Bool) (i k : ℕ) → i < k → p i ≡ true → first p i (k - i) ≡ i
unfolding first
first_yes p i k h e = rw (left_suc k i h, e)

pub first_no : (p : ℕ → Bool) (i k : ℕ) → i < k → p i ≡ false → first p i (k - i) ≡ first p (i + 1) (k - (i + 1))
unfolding first
first_no p i k h e = rw (left_suc k i h, e, add-one)

pub first_end : (p : ℕ → Bool) (i k : ℕ) → i ≤ k → k ≤ i → first p i (k - i) ≡ k
unfolding first
first_end p i k a b = let z : k - i ≡ 0 = omega arith in rw z (omega arith)

pub first_most : (p : ℕ → Bool) (k i : ℕ) → first p i k ≤ i + k
unfolding first
first_most p zero i = omega arith
first_most p (suc k) i = elim (look (p i)) [
  | inl e ↦ rw e (omega arith)
  | inr e ↦ rw e (omega (arith, first_most p k (suc i)))
]

-- a search passes a whole block in which nothing is
pub first_skip : (p : ℕ → Bool) (n i k : ℕ) → ((j : ℕ) → j < n → p (i + j) ≡ false) → i + n ≤ k → first p i (k - i) ≡ first p (i + n) (k - (i + n))
first_skip p zero i k h l = let e : i + 0 ≡ i = omega arith in rw e
first_skip p (suc n) i k h l =
    let e : i + 1 + n ≡ i + suc n = omega arith in
    first_no p i k (omega arith) (subst (λ m. p m ≡ false) (omega arith) (h 0 (omega arith)))
    ∙ first_skip p n (i + 1) k (λ j b. subst (λ m. p m ≡ false) (omega arith) (h (suc j) (omega arith))) (omega arith)
    ∙ rw e

-- and ends with the last one
pub first_block : (p : ℕ → Bool) (n i k : ℕ) → any (λ j. p (i + j)) n ≡ false → i < k
    → first p i (k - i) ≡ first p (min (i + n) k) (k - min (i + n) k)
first_block p n i k e l =
    let on : i + (min (i + n) k - i) ≡ min (i + n) k = omega arith in
    first_skip p (min (i + n) k - i) i k (λ j b. any_false (λ m. p (i + m)) n j e (omega arith)) (omega arith) ∙ rw on

-- ---- what a search finds
pub first_least : (p : ℕ → Bool) (k i : ℕ) → i ≤ first p i k
unfolding first
first_least p zero i = omega arith
first_least p (suc k) i = elim (look (p i)) [
  | inl e ↦ rw e (omega arith)
  | inr e ↦ rw e (omega (arith, first_least p k (suc i)))
]

pub first_hit : (p : ℕ → Bool) (k i : ℕ) → first p i k < i + k → p (first p i k) ≡ true
unfolding first
first_hit p zero i h = absurd (omega arith)
first_hit p (suc k) i h = elim (look (p i)) [
  | inl e ↦ rw e e
  | inr e ↦ rw e (first_hit p k (suc i) (omega (arith, rw e at h)))
]
