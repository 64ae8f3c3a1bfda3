-- The words of a burst's codes, each with the byte after it, as the code tells them apart. Assumes nothing.
use Prim.Native.Nat.{ℕ, ◌+◌, ◌/◌, ◌%◌, ◌≤◌, ◌<◌}
use native.Mathlib.Omega.{arith}
use mathlib.Core.Path.{◌≡◌, refl, ap, ◌∙◌}
use mathlib.Core.List.{[], ◌∷◌, ◌++◌}
use borrow.Author.Tests.{lt-ltb, le-ltb, ne_eqb}
use Rattle.model.specs.Limits.{ends_most, events_most}
use Rattle.model.specs.Text.{ascii, digits}
use Rattle.letters.specs.Digits.{last_digit, joined}
use Rattle.lines.specs.Codes.{packet_word, way_word}
use Rattle.letters.proofs.DigitRows.{small_one}

pub space_is : ascii " " ≡ 32 ∷ []
unfolding ascii
space_is = refl

pub answer_one : (n : ℕ) {d : ℕ} → n < 10 → d ≡ last_digit n → digits n ++ ascii " " ≡ d ∷ 32 ∷ []
answer_one n h q = ap (λ x. digits n ++ x) space_is ∙ small_one n 32 h q

module _ (code : ℕ) where
  pub packet_some : (code ≡ events_most → ⊥) → packet_word code ++ ascii " " ≡ digits code ++ ascii " "
  unfolding packet_word
  packet_some n = rw (ne_eqb code events_most n)

  pub packet_joined : code < events_most → packet_word code ++ ascii " " ≡ digits (joined (code / 1000) (code % 1000)) ++ ascii " "
  packet_joined h =
      let e : code ≡ joined (code / 1000) (code % 1000) = omega arith in
      packet_some (λ z. omega (arith, z, h)) ∙ ap (λ m. digits m ++ ascii " ") e

  pub packet_none : code ≡ events_most → packet_word code ++ ascii " " ≡ 45 ∷ 32 ∷ []
  unfolding packet_word ascii
  packet_none e = ap (λ (n : ℕ). packet_word n ++ ascii " ") e

  pub way_lane : code < ends_most → way_word code ++ ascii "\n" ≡ digits code ++ 10 ∷ []
  unfolding way_word ascii
  way_lane h = rw (lt-ltb code ends_most h)

  pub way_in : code ≡ ends_most → way_word code ++ ascii "\n" ≡ 105 ∷ 110 ∷ 10 ∷ []
  unfolding way_word ascii
  way_in e = ap (λ (n : ℕ). way_word n ++ ascii "\n") e

  pub way_lost : code ≡ ends_most + 1 → way_word code ++ ascii "\n" ≡ 108 ∷ 111 ∷ 115 ∷ 116 ∷ 10 ∷ []
  unfolding way_word ascii
  way_lost e = ap (λ (n : ℕ). way_word n ++ ascii "\n") e

  pub way_end : code ≡ ends_most + 2 → way_word code ++ ascii "\n" ≡ 101 ∷ 110 ∷ 100 ∷ 10 ∷ []
  unfolding way_word ascii
  way_end e = ap (λ (n : ℕ). way_word n ++ ascii "\n") e

  pub way_none : ends_most ≤ code → (code ≡ ends_most → ⊥) → (code ≡ ends_most + 1 → ⊥) → (code ≡ ends_most + 2 → ⊥)
      → way_word code ++ ascii "\n" ≡ 45 ∷ 10 ∷ []
  unfolding way_word ascii
  way_none h i l e = rw (le-ltb code ends_most h, ne_eqb code ends_most i, ne_eqb code (ends_most + 1) l, ne_eqb code (ends_most + 2) e)
