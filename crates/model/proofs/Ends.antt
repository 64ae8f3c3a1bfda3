-- The two ends of a link. Assumes nothing.
use Prim.Native.Nat.{ℕ, ◌*◌, ◌<◌}
use native.Mathlib.Omega.{arith}
use mathlib.Core.Path.{◌≡◌, refl, sym, ◌∙◌, ap}
use mathlib.Core.Logic.{◌⊎◌, inl, inr}
use mathlib.Core.Bool.{true, false}
use lib.Dec.{eqb}
use borrow.Author.Tests.{eqb-true, eqb-false, eq-eqb, ne_eqb}
use Rattle.model.specs.State.{end, link_of, side, opp, State, live, whole}
use Rattle.model.proofs.Below.{look, and_both}

pub opp_opp : (x : ℕ) → opp (opp x) ≡ x
unfolding opp
opp_opp x = omega arith

pub link_opp : (x : ℕ) → link_of (opp x) ≡ link_of x
unfolding opp
link_opp x = omega arith

pub opp_below : (x n : ℕ) → x < 2 * n → opp x < 2 * n
unfolding opp
opp_below x n h = omega arith

opp_ne : (x : ℕ) → opp x ≡ x → ⊥
unfolding opp
opp_ne x e = omega arith

-- an end is one of its link's two
pub which_end : (x : ℕ) → (x ≡ end (link_of x) 0) ⊎ (x ≡ end (link_of x) 1)
which_end x = elim (look (eqb (side x) 0)) [
  | inl e ↦ inl (omega (arith, eqb-true (side x) 0 e))
  | inr e ↦ inr (omega (arith, eqb-false (side x) 0 e))
]

-- tests of one end against another
pub opp_test : (x : ℕ) → eqb (opp x) x ≡ false
opp_test x = ne_eqb (opp x) x (opp_ne x)

pub test_opp : (x : ℕ) → eqb x (opp x) ≡ false
test_opp x = ne_eqb x (opp x) (λ q. opp_ne x (sym q))

pub test_same : (x : ℕ) → eqb x x ≡ true
test_same x = eq-eqb x x refl

pub test_sym : (x z : ℕ) → eqb x z ≡ false → eqb z x ≡ false
test_sym x z e = ne_eqb z x (λ q. eqb-false x z e (sym q))

-- ends of another link than z's
pub test_far : (x z : ℕ) → eqb x (opp z) ≡ false → eqb (opp x) z ≡ false
test_far x z e = ne_eqb (opp x) z (λ q. eqb-false x (opp z) e (sym (opp_opp x) ∙ ap opp q))

-- a link goes down at both ends at once
pub live_opp : (s : State) (x : ℕ) → live s (opp x) ≡ live s x
live_opp s x = ap s.up (link_opp x)

pub live_whole : (s : State) (x : ℕ) → live s x ≡ true → whole s x ≡ true
unfolding whole
live_whole s x e = rw (live_opp s x, e)

pub whole_live : (s : State) (x : ℕ) → whole s x ≡ true → live s x ≡ true
unfolding whole
whole_live s x e = (and_both (live s x) (live s (opp x)) e).0

pub whole_opp : (s : State) (x : ℕ) → whole s x ≡ true → whole s (opp x) ≡ true
unfolding whole
whole_opp s x e =
    let b = and_both (live s x) (live s (opp x)) e in
    rw (opp_opp x, b.0, b.1)
