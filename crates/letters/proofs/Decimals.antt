-- A number's digits: few of them, and by its thousands. Assumes nothing.
use Prim.Native.Nat.{ℕ, ◌+◌, ◌/◌, ◌%◌, ◌≤◌, ◌<◌}
use Prim.Native.Char.{code}
use native.Mathlib.Omega.{arith}
use mathlib.Core.Path.{◌≡◌, ap, ◌∙◌}
use mathlib.Core.List.{List, [], ◌∷◌, ◌++◌, append_assoc}
use Rattle.model.specs.Text.{digits}
use Rattle.model.proofs.Digits.{digits_small, digits_more}
use Rattle.letters.specs.Digits.{last_digit, thousand, joined}

pub one_digit : (n : ℕ) → n < 10 → digits n ≡ last_digit n ∷ []
one_digit n h =
    let e : n ≡ n % 10 = omega arith in
    digits_small n h ∙ ap (λ (m : ℕ). (code "0" + m) ∷ []) e

pub two_digits : (n : ℕ) → 10 ≤ n → n < 100 → digits n ≡ last_digit (n / 10) ∷ last_digit n ∷ []
two_digits n a b = digits_more n a ∙ ap (λ (l : List ℕ). l ++ last_digit n ∷ []) (one_digit (n / 10) (omega arith))

abbrev pub last_three : ℕ → List ℕ
last_three n = last_digit (n / 100) ∷ last_digit (n / 10) ∷ last_digit n ∷ []

pub three_digits : (n : ℕ) → 100 ≤ n → n < thousand → digits n ≡ last_three n
three_digits n a b =
    let e : n / 10 / 10 ≡ n / 100 = omega arith in
    digits_more n (omega arith)
    ∙ ap (λ (l : List ℕ). l ++ last_digit n ∷ []) (two_digits (n / 10) (omega arith) (omega arith))
    ∙ ap (λ (m : ℕ). last_digit m ∷ last_digit (n / 10) ∷ last_digit n ∷ []) e

three_behind : (l : List ℕ) (a b c : ℕ) → ((l ++ a ∷ []) ++ b ∷ []) ++ c ∷ [] ≡ l ++ a ∷ b ∷ c ∷ []
three_behind l a b c = simp append_assoc

all_digits : (n : ℕ) → thousand ≤ n → digits n ≡ digits (n / 1000) ++ last_three n
all_digits n h =
    let tens = n / 10 in
    let hundreds = tens / 10 in
    let e : hundreds / 10 ≡ n / 1000 = omega arith in
    let f : hundreds ≡ n / 100 = omega arith in
    digits_more n (omega arith)
    ∙ ap (λ (l : List ℕ). l ++ last_digit n ∷ [])
    (digits_more tens (omega arith) ∙ ap (λ (l : List ℕ). l ++ last_digit tens ∷ []) (digits_more hundreds (omega arith)))
    ∙ three_behind (digits (hundreds / 10)) (last_digit hundreds) (last_digit tens) (last_digit n)
    ∙ ap (λ (m : ℕ). digits m ++ last_digit hundreds ∷ last_digit tens ∷ last_digit n ∷ []) e
    ∙ ap (λ (m : ℕ). digits (n / 1000) ++ last_digit m ∷ last_digit tens ∷ last_digit n ∷ []) f

-- the last three are those of the rest
pub joined_digits : (thousands rest : ℕ) → 0 < thousands → rest < thousand → digits (joined thousands rest) ≡ digits thousands ++ last_three rest
joined_digits thousands rest p q =
    let n = joined thousands rest in
    let t : n / 1000 ≡ thousands = omega arith in
    let a : last_digit (n / 100) ≡ last_digit (rest / 100) = omega arith in
    let b : last_digit (n / 10) ≡ last_digit (rest / 10) = omega arith in
    let c : last_digit n ≡ last_digit rest = omega arith in
    all_digits n (omega arith)
    ∙ ap (λ (m : ℕ). digits m ++ last_three n) t
    ∙ ap (λ (d : ℕ). digits thousands ++ d ∷ last_digit (n / 10) ∷ last_digit n ∷ []) a
    ∙ ap (λ (d : ℕ). digits thousands ++ last_digit (rest / 100) ∷ d ∷ last_digit n ∷ []) b
    ∙ ap (λ (d : ℕ). digits thousands ++ last_digit (rest / 100) ∷ last_digit (rest / 10) ∷ d ∷ []) c
