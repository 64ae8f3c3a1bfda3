-- A number's digits by its last one, whatever the fuel; and how many there are. Assumes nothing.
use Prim.Native.Nat.{ℕ, zero, suc, ◌+◌, ◌*◌, ◌/◌, ◌%◌, ◌≤◌, ◌<◌}
use Prim.Native.Char.{code}
use native.Mathlib.Omega.{arith}
use native.Mathlib.Decide.{dec_lt}
use mathlib.Core.Path.{◌≡◌, ap, ◌∙◌}
use mathlib.Core.List.{List, [], ◌∷◌, ◌++◌}
use lib.ListN.{length, length-append}
use borrow.Author.Tests.{lt-ltb, le-ltb}
use Rattle.model.specs.Text.{digits_in, digits}

in_small : (fuel n : ℕ) → n < 10 → digits_in (suc fuel) n ≡ (code "0" + n) ∷ []
unfolding digits_in
in_small fuel n h = rw (lt-ltb n 10 h, digits_in)

in_more : (fuel n : ℕ) → 10 ≤ n → digits_in (suc fuel) n ≡ digits_in fuel (n / 10) ++ (code "0" + n % 10) ∷ []
unfolding digits_in
in_more fuel n h = rw (le-ltb n 10 h, digits_in)

-- with more fuel than the number, any fuel gives the same
enough : (fuel big n : ℕ) → n < fuel → fuel ≤ big → digits_in big n ≡ digits_in fuel n
enough zero big n h l = absurd (omega arith)
enough (suc fuel) zero n h l = absurd (omega arith)
enough (suc fuel) (suc big) n h l = elim (dec_lt n 10) [
  | yes s ↦ rw (in_small fuel n s, in_small big n s)
  | no s ↦
      rw (in_more fuel n (omega arith), in_more big n (omega arith), enough fuel big (n / 10) (omega arith) (omega arith))
]

pub digits_small : (n : ℕ) → n < 10 → digits n ≡ (code "0" + n) ∷ []
digits_small n h = in_small n n h

pub digits_more : (n : ℕ) → 10 ≤ n → digits n ≡ digits (n / 10) ++ (code "0" + n % 10) ∷ []
digits_more n h =
    in_more n n h ∙ ap (λ (l : List ℕ). l ++ (code "0" + n % 10) ∷ []) (enough (suc (n / 10)) n (n / 10) (omega arith) (omega arith))

-- the first number that k digits do not hold
abbrev pub tens : ℕ → ℕ
tens zero = 1
tens (suc k) = tens k * 10

pub digits_length : (k n : ℕ) → n < tens (suc k) → length (digits n) ≤ suc k
digits_length zero n h = rw (digits_small n (omega arith)) (omega arith)
digits_length (suc k) n h = elim (dec_lt n 10) [
  | yes s ↦ rw (digits_small n s) (omega arith)
  | no s ↦
      let last = (code "0" + n % 10) ∷ [] in
      rw (digits_more n (omega arith))
      (omega (arith, length-append (digits (n / 10)) last, digits_length k (n / 10) (omega arith)))
]
