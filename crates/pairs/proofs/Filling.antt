-- Arrays that a loop fills from the front. Assumes nothing.
use Prim.Native.Nat.{ℕ, zero, suc, ◌+◌, ◌≤◌, ◌<◌}
use native.Mathlib.Omega.{arith}
use mathlib.Core.Path.{◌≡◌, sym, ap₂, ◌∙◌}
use mathlib.Core.Logic.{inl, inr}
use mathlib.Core.Bool.{true, false, cond}
use mathlib.Core.List.{List, ◌∷◌, ◌++◌}
use lib.Dec.{ltb}
use lib.ListN.{set, replicate, drop}
use borrow.Author.Tests.{lt-ltb, le-ltb, ltb-true, ltb-false}
use Rattle.model.specs.Below.{tab}
use Rattle.model.proofs.Below.{look}
use Rattle.arrays.proofs.Below.{tab_replicate, tab_same, set_tab}

-- a function's values up to i, and the default from there on
abbrev pub up_to {ℓ} : {A : Type ℓ} → (ℕ → A) → A → ℕ → ℕ → A
up_to f d i j = cond (ltb j i) (f j) d

module _ {ℓ} {A : Type ℓ} (f : ℕ → A) (d : A) (n : ℕ) where
  pub fill_none : replicate n d ≡ tab (up_to f d 0) n
  fill_none = tab_replicate d n ∙ tab_same (λ j. d) (up_to f d 0) n (λ j h. rw (le-ltb j 0 (omega arith)))

  pub fill_more : (i : ℕ) (xs : List A) (a : A) → i < n → a ≡ f i → xs ≡ tab (up_to f d i) n → set xs i a ≡ tab (up_to f d (i + 1)) n
  fill_more i xs a h e x =
      rw x
      (set_tab (up_to f d i) (up_to f d (i + 1)) n i a h (rw (lt-ltb i (i + 1) (omega arith)) e)
      (λ j q. elim (look (ltb j i)) [
        | inl b ↦ rw (b, lt-ltb j (i + 1) (omega (arith, ltb-true j i b)))
        | inr b ↦ rw (b, le-ltb j (i + 1) (omega (arith, ltb-false j i b)))
      ]))

-- so many truths, and falsehoods after them
pub truths : (k n : ℕ) → k ≤ n → replicate k true ++ drop k (replicate n false) ≡ tab (λ l. ltb l k) n
unfolding tab
truths zero n h = tab_replicate false n ∙ tab_same (λ l. false) (λ l. ltb l 0) n (λ l b. sym (le-ltb l 0 (omega arith)))
truths (suc k) zero h = absurd (omega arith)
truths (suc k) (suc n) h =
    ap₂ (λ b l. b ∷ l) (sym (lt-ltb 0 (suc k) (omega arith)))
    (truths k n (omega arith) ∙ tab_same (λ l. ltb l k) (λ l. ltb (suc l) (suc k)) n (λ l b. elim (look (ltb l k)) [
      | inl e ↦ rw (e, lt-ltb (suc l) (suc k) (omega (arith, ltb-true l k e)))
      | inr e ↦ rw (e, le-ltb (suc l) (suc k) (omega (arith, ltb-false l k e)))
    ]))
