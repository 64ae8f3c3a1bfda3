-- Laws of the tests over the numbers below a bound, and of Bool's connectives. Assumes nothing.
use Prim.Native.Nat.{ℕ, zero, suc, ◌+◌, ◌<◌, ◌≤◌}
use native.Mathlib.Omega.{arith}
use mathlib.Core.Path.{◌≡◌, refl, sym, ◌∙◌, subst}
use mathlib.Core.Logic.{◌⊎◌, inl, inr}
use mathlib.Core.Bool.{Bool, true, false, cond, ◌&&◌, ◌||◌, true≢false}
use lib.Dec.{eqb}
use lib.ListN.{get_or}
use borrow.Author.Tests.{eqb-true, eqb-false}
use Rattle.model.specs.Below.{any, all, first, tab}

pub look : (b : Bool) → (b ≡ true) ⊎ (b ≡ false)
look true = inl refl
look false = inr refl

pub clash : {b : Bool} → b ≡ true → b ≡ false → ⊥
clash t f = true≢false (sym t ∙ f)

pub and_both : (a b : Bool) → (a && b) ≡ true → (a ≡ true) × (b ≡ true)
and_both true b e = (refl, e)
and_both false b e = absurd (clash e refl)

pub or_neither : (a b : Bool) → (a || b) ≡ false → (a ≡ false) × (b ≡ false)
or_neither true b e = absurd (clash refl e)
or_neither false b e = (refl, e)

pub or_either : (a b : Bool) → (a || b) ≡ true → (a ≡ true) ⊎ (b ≡ true)
or_either true b e = inl refl
or_either false b e = inr e

pub or_right : (a : Bool) {b : Bool} → b ≡ true → (a || b) ≡ true
or_right true e = refl
or_right false e = e

pub guard : (b c : Bool) → cond b false c ≡ true → (b ≡ false) × (c ≡ true)
guard true c e = absurd (clash e refl)
guard false c e = (refl, e)

-- a number below one more is the last or below
pub last_or_below : {i n : ℕ} → i < suc n → (i ≡ n) ⊎ (i < n)
last_or_below {i} {n} h = elim (look (eqb i n)) [
  | inl e ↦ inl (eqb-true i n e)
  | inr e ↦ inr (omega (arith, eqb-false i n e))
]

module _ (p : ℕ → Bool) where
  pub any_here : (n i : ℕ) → i < n → p i ≡ true → any p n ≡ true
  unfolding any
  any_here zero i h e = absurd (omega arith)
  any_here (suc n) i h e = elim (last_or_below h) [
    | inl q ↦ or_right (any p n) (subst (λ k. p k ≡ true) q e)
    | inr l ↦ rw (any_here n i l e)
  ]

  pub any_found : (n : ℕ) → any p n ≡ true → (i : ℕ) × (i < n) × (p i ≡ true)
  unfolding any
  any_found zero e = absurd (clash e refl)
  any_found (suc n) e = elim (or_either (any p n) (p n) e) [
    | inl a ↦ let f : (i : ℕ) × (i < n) × (p i ≡ true) = any_found n a in (f.0, omega (arith, f.1), f.2)
    | inr a ↦ (n, omega arith, a)
  ]

  pub any_false : (n i : ℕ) → any p n ≡ false → i < n → p i ≡ false
  any_false n i e h = elim (look (p i)) [ inl t ↦ absurd (clash (any_here n i h t) e) | inr f ↦ f ]

  pub any_none : (n : ℕ) → ((i : ℕ) → p i ≡ false) → any p n ≡ false
  unfolding any
  any_none zero h = refl
  any_none (suc n) h = rw (any_none n h) (h n)

  pub all_at : (n i : ℕ) → all p n ≡ true → i < n → p i ≡ true
  unfolding all
  all_at zero i e h = absurd (omega arith)
  all_at (suc n) i e h = elim (last_or_below h) [
    | inl q ↦ subst (λ k. p k ≡ true) (sym q) (and_both (all p n) (p n) e).1
    | inr l ↦ all_at n i (and_both (all p n) (p n) e).0 l
  ]

  pub all_here : (n : ℕ) → ((i : ℕ) → i < n → p i ≡ true) → all p n ≡ true
  unfolding all
  all_here zero h = refl
  all_here (suc n) h = rw (all_here n (λ i l. h i (omega arith))) (h n (omega arith))

  -- a search below a bound finds one, or none is there
  pub seek : (n : ℕ) → ((i : ℕ) × (i < n) × (p i ≡ true)) ⊎ ((i : ℕ) → i < n → p i ≡ false)
  seek n = elim (look (any p n)) [ inl e ↦ inl (any_found n e) | inr e ↦ inr (λ i h. any_false n i e h) ]

  -- a search that went to the end passed no number that has p
  pub first_none : (k i j : ℕ) → i + k ≤ first p i k → i ≤ j → j < i + k → p j ≡ false
  unfolding first
  first_none zero i j h a b = absurd (omega arith)
  first_none (suc k) i j h a b = elim (look (p i)) [
    | inl e ↦ absurd (omega (arith, rw e at h))
    | inr e ↦ elim (look (eqb i j)) [
      | inl q ↦ subst (λ n. p n ≡ false) (eqb-true i j q) e
      | inr q ↦ first_none k (suc i) j (omega (arith, rw e at h)) (omega (arith, eqb-false i j q)) (omega arith)
    ]
  ]

  -- a search that passes a number that has p stops at one
  pub first_found : (k i j : ℕ) → i ≤ j → j < i + k → p j ≡ true → (first p i k < i + k) × (p (first p i k) ≡ true)
  unfolding first
  first_found zero i j a b t = absurd (omega arith)
  first_found (suc k) i j a b t = elim (look (p i)) [
    | inl e ↦ rw e (omega arith, e)
    | inr e ↦ elim (look (eqb i j)) [
      | inl q ↦ absurd (clash (subst (λ n. p n ≡ true) (sym (eqb-true i j q)) t) e)
      | inr q ↦
          let f : (first p (suc i) k < suc i + k) × (p (first p (suc i) k) ≡ true) =
          first_found k (suc i) j (omega (arith, eqb-false i j q)) (omega arith) t in
          rw e (omega (arith, f.0), f.1)
    ]
  ]

module _ {ℓ} {A : Type ℓ} (d : A) where
  pub tab_at : (f : ℕ → A) (n i : ℕ) → i < n → get_or (tab f n) i d ≡ f i
  unfolding tab
  tab_at f zero i h = absurd (omega arith)
  tab_at f (suc n) zero h = refl
  tab_at f (suc n) (suc i) h = tab_at (λ j. f (suc j)) n i (omega arith)
