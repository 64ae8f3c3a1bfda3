-- More numbers than there is room for: two are the same. Assumes nothing.
use Prim.Native.Nat.{ℕ, zero, suc, ◌-◌, ◌<◌, ◌≤◌}
use native.Mathlib.Omega.{arith}
use mathlib.Core.Path.{◌≡◌}
use mathlib.Core.Logic.{◌⊎◌, inl, inr}
use mathlib.Core.Bool.{true, false, cond}
use lib.Dec.{ltb, eqb}
use borrow.Author.Tests.{ltb-true, ltb-false, eqb-true, eqb-false}
use Rattle.model.proofs.Below.{look, seek}

pub record Twice (f : ℕ → ℕ) (n : ℕ) : Type 0 where
  pub one : ℕ
  pub other : ℕ
  pub before : one < other
  pub below : other < n
  pub same : f one ≡ f other

-- numbers other than v, moved into the room without v
squash : ℕ → ℕ → ℕ
squash v a = cond (ltb v a) (a - 1) a

squash_below : (v a n : ℕ) → v < suc n → a < suc n → eqb a v ≡ false → squash v a < n
unfolding squash
squash_below v a n h l e = elim (look (ltb v a)) [
  | inl t ↦ rw t (omega (arith, ltb-true v a t))
  | inr t ↦ rw t (omega (arith, ltb-false v a t, eqb-false a v e))
]

squash_same : (v a b : ℕ) → eqb a v ≡ false → eqb b v ≡ false → squash v a ≡ squash v b → a ≡ b
unfolding squash
squash_same v a b p q e = go (look (ltb v a)) (look (ltb v b))
  where
    go : (ltb v a ≡ true) ⊎ (ltb v a ≡ false) → (ltb v b ≡ true) ⊎ (ltb v b ≡ false) → a ≡ b
    go (inl s) (inl t) = omega (arith, rw (s, t) at e, ltb-true v a s, ltb-true v b t)
    go (inl s) (inr t) = omega (arith, rw (s, t) at e, ltb-true v a s, ltb-false v b t, eqb-false b v q)
    go (inr s) (inl t) = omega (arith, rw (s, t) at e, ltb-false v a s, ltb-true v b t, eqb-false a v p)
    go (inr s) (inr t) = omega (arith, rw (s, t) at e)

pub pigeon : (n : ℕ) (f : ℕ → ℕ) → ((i : ℕ) → i ≤ n → f i < n) → Twice f (suc n)
pigeon zero f h = absurd (omega (arith, h 0 (omega arith)))
pigeon (suc n) f h = elim (seek (λ i. eqb (f i) (f (suc n))) (suc n)) [
  | inl (i, l, e) ↦ record { one = i; other = suc n; before = l; below = omega arith; same = eqb-true (f i) (f (suc n)) e }
  | inr none ↦
      let v = f (suc n) in
      let t : Twice (λ i. squash v (f i)) (suc n) =
      pigeon n (λ i. squash v (f i))
      (λ i l. squash_below v (f i) n (h (suc n) (omega arith)) (h i (omega arith)) (none i (omega arith))) in
      record {
        one = t.one;
        other = t.other;
        before = t.before;
        below = omega (arith, t.below);
        same = squash_same v (f t.one) (f t.other) (none t.one (omega (arith, t.before, t.below))) (none t.other t.below) t.same;
      }
]
