-- A loop that asks whether some number below a bound passes a test: what it holds before, in and after its turns. Assumes nothing.
use Prim.Native.Nat.{ℕ, zero, suc, ◌+◌, ◌-◌, ◌≤◌, ◌<◌}
use native.Mathlib.Omega.{arith}
use native.Mathlib.Numerals.{add-one}
use mathlib.Core.Path.{◌≡◌, refl, sym, ap, ◌∙◌}
use mathlib.Core.Logic.{inl, inr}
use mathlib.Core.Bool.{Bool, true, false, not, cond, ◌&&◌, ◌||◌, or-false}
use lib.Bits.{bit_and, bit_or, and_le_r, or_zero_l, or_add_and}
use lib.Dec.{eqb}
use mir.Val.{bool_byte}
use borrow.Author.Tests.{ne_eqb}
use Rattle.model.specs.Below.{any}
use Rattle.model.proofs.Below.{look, or_right, any_here, any_found, any_false}
use Rattle.arrays.proofs.Below.{not_or, not_not}

-- numbers joined bit by bit are 0 only where both are
pub or_none : (a b : ℕ) → eqb (bit_or a b) 0 ≡ (eqb a 0 && eqb b 0)
or_none zero b = rw (or_zero_l b)
or_none (suc a) b = rw (ne_eqb (bit_or (suc a) b) 0 (λ e. omega (arith, e, or_add_and (suc a) b, and_le_r (suc a) b)), ne_eqb (suc a) 0 (λ e. omega (arith, e)))

module _ (p : ℕ → Bool) where
  pub any_none : false ≡ any p 0
  unfolding any
  any_none = refl

  pub any_more : (i : ℕ) {b : Bool} → b ≡ any p i → (b || p i) ≡ any p (i + 1)
  unfolding any
  any_more i e = rw (add-one i, e)

  pub any_end : (i n : ℕ) {b : Bool} → b ≡ any p i → i ≤ n → n ≤ i → b ≡ any p n
  any_end i n e l m =
      let q : i ≡ n = omega arith in
      e ∙ ap (any p) q

  -- none so far, or one
  pub none_none : true ≡ not (any p 0)
  unfolding any
  none_none = refl

  pub none_more : (i : ℕ) {b here : Bool} → b ≡ not (any p i) → here ≡ not (p i) → (b && here) ≡ not (any p (i + 1))
  unfolding any
  none_more i e h = rw (add-one i, e, h) (sym (not_or (any p i) (p i)))

  pub none_end : (i n : ℕ) {b : Bool} → b ≡ not (any p i) → i ≤ n → n ≤ i → not b ≡ any p n
  none_end i n e l m =
      let q : i ≡ n = omega arith in
      rw (e, q) (not_not (any p n))

  -- none among some numbers more
  flat : (n l : ℕ) → ((i : ℕ) → l ≤ i → i < l + n → p i ≡ false) → any p l ≡ any p (l + n)
  unfolding any
  flat zero l h = let e : l + 0 ≡ l = omega arith in rw e
  flat (suc n) l h =
      let e : l + suc n ≡ suc (l + n) = omega arith in
      rw (e, ← flat n l (λ i a b. h i a (omega arith)), h (l + n) (omega arith) (omega arith), or-false (any p l))

  -- a block that begins at l or before, and ends at `to`
  pub any_block : (n from l to : ℕ) → from ≤ l → l ≤ to → to ≡ from + n → (any p l || any (λ j. p (from + j)) n) ≡ any p to
  any_block n from l to a b e = elim (look (any (λ j. p (from + j)) n)) [
    | inl t ↦
        let w = any_found (λ j. p (from + j)) n t in
        rw t (or_right (any p l) refl ∙ sym (any_here p to (from + w.0) (omega (arith, w.1)) w.2))
    | inr t ↦
        let q : l + (to - l) ≡ to = omega arith in
        rw (t, or-false (any p l))
        (rw q at (flat (to - l) l (λ i m k.
        let r : from + (i - from) ≡ i = omega arith in
        rw r at (any_false (λ j. p (from + j)) n (i - from) t (omega arith)))))
  ]

  -- flags joined as bytes: 1 while none is down
  pub flags_none : ◌≡◌ {A = ℕ} 1 (cond (any p 0) 0 1)
  unfolding any
  flags_none = refl

  pub flags_more : (i : ℕ) (b : Bool) {u : ℕ} → u ≡ cond (any p i) 0 1 → p i ≡ not b → bit_and u (bool_byte b) ≡ cond (any p (i + 1)) 0 1
  unfolding any
  flags_more i b e h = rw (add-one i, e, h) (go (any p i) b)
    where
      go : (a b : Bool) → bit_and (cond a 0 1) (bool_byte b) ≡ cond (a || not b) 0 1
      go true true = refl
      go true false = refl
      go false true = refl
      go false false = refl
