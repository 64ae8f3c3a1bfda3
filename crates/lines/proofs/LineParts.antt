-- Lines part by part. Assumes nothing.
use Prim.Native.Nat.{ℕ, suc, ◌+◌, ◌-◌, ◌≤◌, ◌<◌}
use native.Mathlib.Nat.{zero-add}
use native.Mathlib.Omega.{arith}
use mathlib.Core.Path.{◌≡◌, refl, sym, ap, ◌∙◌, subst}
use mathlib.Core.List.{List, [], ◌∷◌, ◌++◌, append_assoc}
use lib.ListN.{get_or}
use Rattle.model.specs.Below.{tab}
use Rattle.model.specs.Text.{ascii, digits, spaced, line}
use Rattle.arrays.proofs.Below.{tab_same}
use Rattle.letters.specs.declared.page.Page.{Page}
use Rattle.letters.specs.Puts.{Room, Put}
use Rattle.lines.specs.Lines.{row}
use Rattle.letters.proofs.Pending.{Pending, begin, say, room, step, room_all, room_byte, last_byte}

spaced_first : (w : List ℕ) (ws : List (List ℕ)) → spaced (w ∷ ws) ≡ (ascii " " ++ w) ++ spaced ws
unfolding spaced
spaced_first w ws = refl

spaced_end : spaced [] ≡ 10 ∷ []
unfolding spaced ascii
spaced_end = refl

line_first : (w : List ℕ) (ws : List (List ℕ)) → line w ws ≡ w ++ spaced ws
unfolding line
line_first w ws = refl

-- an event's line, each part with the byte after it
pub four_parts : (a b c d : List ℕ) → line a (b ∷ c ∷ d ∷ []) ≡ (a ++ ascii " ") ++ ((b ++ ascii " ") ++ ((c ++ ascii " ") ++ (d ++ ascii "\n")))
unfolding line spaced
four_parts a b c d = simp append_assoc

module _ {l out : Page} {whole : List ℕ} where
  module _ (w : List ℕ) (ws : List (List ℕ)) where
    pub room_first : Pending l whole out (line w ws) → Room out w
    room_first p = room w (spaced ws) (say (line_first w ws) p)

    pub step_first : {r : Page} → Pending l whole out (line w ws) → Put out w r → Pending l whole r (spaced ws)
    step_first p q = step w (spaced ws) (say (line_first w ws) p) q

    pub room_field : Pending l whole out (spaced (w ∷ ws)) → Room out (ascii " " ++ w)
    room_field p = room (ascii " " ++ w) (spaced ws) (say (spaced_first w ws) p)

    pub step_field : {r : Page} → Pending l whole out (spaced (w ∷ ws)) → Put out (ascii " " ++ w) r
        → Pending l whole r (spaced ws)
    step_field p q = step (ascii " " ++ w) (spaced ws) (say (spaced_first w ws) p) q

  pub room_end : Pending l whole out (spaced []) → Room out (10 ∷ [])
  room_end p = room_byte refl (say spaced_end p)

  pub last_end : {r : Page} → Pending l whole out (spaced []) → Put out (10 ∷ []) r → Put l whole r
  last_end p q = last_byte refl (say spaced_end p) q

-- ---- a function's values from one on
abbrev pub from {ℓ} : {A : Type ℓ} → (ℕ → A) → ℕ → ℕ → List A
from f i k = tab (λ v. f (i + v)) k

module _ {ℓ} {A : Type ℓ} (f : ℕ → A) where
  pub from_start : (k : ℕ) → tab f k ≡ from f 0 k
  from_start k = tab_same f (λ v. f (0 + v)) k (λ v h. ap f (sym (zero-add v)))

  pub from_more : (i n : ℕ) → i < n → from f i (n - i) ≡ f i ∷ from f (i + 1) (n - (i + 1))
  unfolding tab
  from_more i n h =
      let e : n - i ≡ suc (n - (i + 1)) = omega arith in
      let z : i + 0 ≡ i = omega arith in
      ap (from f i) e
      ∙ ap (λ a. a ∷ tab (λ v. f (i + suc v)) (n - (i + 1))) (ap f z)
      ∙ ap (λ t. f i ∷ t)
      (tab_same (λ v. f (i + suc v)) (λ v. f (i + 1 + v)) (n - (i + 1)) (λ v q. ap f (omega arith)))

  pub from_none : (i n : ℕ) → n ≤ i → from f i (n - i) ≡ []
  unfolding tab
  from_none i n h =
      let e : n - i ≡ 0 = omega arith in
      ap (from f i) e

-- ---- a word and numbers
abbrev number_at : List ℕ → ℕ → List ℕ
number_at list v = digits (get_or list v 0)

-- the numbers from one on
unfoldable pub fields : List ℕ → ℕ → ℕ → List ℕ
fields list i k = spaced (from (number_at list) i (k - i))

row_is : (w list : List ℕ) (k : ℕ) → row w list k ≡ line w (from (number_at list) 0 k)
unfolding row
row_is w list k = ap (line w) (from_start (number_at list) k)

module _ {l out : Page} {whole : List ℕ} (w list : List ℕ) (k : ℕ) where
  pub room_row : Pending l whole out (row w list k) → Room out w
  room_row p = room_first w (from (number_at list) 0 k) (say (row_is w list k) p)

  pub step_row : {r : Page} → Pending l whole out (row w list k) → Put out w r
      → Pending l whole r (fields list 0 k)
  unfolding fields
  step_row p q =
      let e : k ≡ k - 0 = omega arith in
      say (ap (λ m. spaced (from (number_at list) 0 m)) e) (step_first w (from (number_at list) 0 k) (say (row_is w list k) p) q)

module _ {l out : Page} {whole : List ℕ} (list : List ℕ) (i k : ℕ) (p : Pending l whole out (fields list i k)) where
  more : i < k → Pending l whole out (spaced (number_at list i ∷ from (number_at list) (i + 1) (k - (i + 1))))
  unfolding fields
  more h = say (ap spaced (from_more (number_at list) i k h)) p

  pub room_number : {n : ℕ} → i < k → n ≡ get_or list i 0 → Room out (ascii " " ++ digits n)
  room_number h e =
      room_all
      (say (ap (λ m. ascii " " ++ digits m) (sym e)) (begin (room_field (number_at list i) (from (number_at list) (i + 1) (k - (i + 1))) (more h))))

  pub step_number : {n : ℕ} {r : Page} → i < k → n ≡ get_or list i 0 → Put out (ascii " " ++ digits n) r
      → Pending l whole r (fields list (i + 1) k)
  unfolding fields
  step_number {r = r} h e q =
      step_field (number_at list i) (from (number_at list) (i + 1) (k - (i + 1))) (more h) (subst (λ m. Put out (ascii " " ++ digits m) r) e q)

  over : k ≤ i → Pending l whole out (spaced [])
  unfolding fields
  over h = say (ap spaced (from_none (number_at list) i k h)) p

  pub room_over : k ≤ i → Room out (10 ∷ [])
  room_over h = room_end (over h)

  pub last_over : {r : Page} → k ≤ i → Put out (10 ∷ []) r → Put l whole r
  last_over h q = last_end (over h) q
