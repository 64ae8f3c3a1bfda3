-- The table's rows, made and read. Assumes nothing.
use Prim.Native.Nat.{ℕ, zero, suc, ◌+◌, ◌-◌, ◌*◌, ◌/◌, ◌≤◌, ◌<◌}
use native.Mathlib.Nat.{add-zero}
use native.Mathlib.Numerals.{add-one}
use native.Mathlib.Omega.{arith}
use native.Mathlib.Decide.{dec_lt}
use mathlib.Core.Path.{◌≡◌, refl, sym, ap, ◌∙◌}
use mathlib.Core.List.{List, [], ◌∷◌, ◌++◌, append-nil}
use lib.ListN.{length, get_or, length-append, get_or-append, drop_of_length-le}
use lib.Seq.{sets, length-sets, get_or-append-add}
use borrow.Rule.Slice.PartMut.{put_mid}
use borrow.Author.Tests.{lt-ltb, le-ltb}
use Rattle.model.specs.Text.{digits}
use Rattle.groups.proofs.Stores.{sets_append, sets_front}
use Rattle.letters.specs.Digits.{last_digit, thousand, wide, table_size, front, back, row_of, rows_below, digit_rows, half_at}
use Rattle.letters.proofs.Over.{part_stored}
use Rattle.letters.proofs.Decimals.{one_digit, two_digits, three_digits}

pub four_are : {a b c d a' b' c' d' : ℕ} → a ≡ a' → b ≡ b' → c ≡ c' → d ≡ d' → ◌≡◌ {A = List ℕ} (a ∷ b ∷ c ∷ d ∷ []) (a' ∷ b' ∷ c' ∷ d' ∷ [])
four_are p q r s = rw (p, q, r, s)

-- ---- a row by how many digits the number has
module _ (n : ℕ) where
  pub front_one : n < 10 → front n ≡ last_digit n ∷ last_digit n ∷ last_digit n ∷ 1 ∷ []
  unfolding front
  front_one h = rw (lt-ltb n 10 h)

  pub front_two : 10 ≤ n → n < 100 → front n ≡ last_digit (n / 10) ∷ last_digit n ∷ last_digit n ∷ 2 ∷ []
  unfolding front
  front_two a b = rw (le-ltb n 10 a, lt-ltb n 100 b)

  pub front_three : 100 ≤ n → front n ≡ last_digit (n / 100) ∷ last_digit (n / 10) ∷ last_digit n ∷ 3 ∷ []
  unfolding front
  front_three a =
      let b : 10 ≤ n = omega arith in
      rw (le-ltb n 10 b, le-ltb n 100 a)

-- the digits stand first, and then their count
pub record Front (n : ℕ) : Type 0 where
  pub fill : List ℕ
  pub whole : front n ≡ digits n ++ fill
  pub short : length fill ≤ 3
  pub four : length (front n) ≡ 4
  pub count : get_or (front n) 3 0 ≡ length (digits n)

front_of : (n : ℕ) {l d : List ℕ} → front n ≡ l → digits n ≡ d → (fill : List ℕ) → l ≡ d ++ fill → length fill ≤ 3 → length l ≡ 4
    → get_or l 3 0 ≡ length d → Front n
front_of n p q fill w s f c =
    record {
      fill = fill;
      whole = p ∙ w ∙ ap (λ (x : List ℕ). x ++ fill) (sym q);
      short = s;
      four = ap length p ∙ f;
      count = ap (λ (x : List ℕ). get_or x 3 0) p ∙ c ∙ ap length (sym q);
    }

pub front_is : (n : ℕ) → n < thousand → Front n
front_is n h = elim (dec_lt n 10) [
  | yes a ↦ front_of n (front_one n a) (one_digit n a) (last_digit n ∷ last_digit n ∷ 1 ∷ []) refl (omega arith) refl refl
  | no a ↦ elim (dec_lt n 100) [
    | yes b ↦
        front_of n (front_two n (omega arith) b) (two_digits n (omega arith) b) (last_digit n ∷ 2 ∷ []) refl (omega arith) refl refl
    | no b ↦ front_of n (front_three n (omega arith)) (three_digits n (omega arith) h) (3 ∷ []) refl (omega arith) refl refl
  ]
]

-- ---- the rows one after the other
length_rows : (k : ℕ) → k ≤ thousand → length (rows_below k) ≡ wide * k
unfolding rows_below
length_rows zero h = refl
length_rows (suc k) h =
    omega (arith, length-append (rows_below k) (row_of k), length_rows k (omega arith), length-append (front k) (back k), (front_is k (omega arith)).four)

pub rows_more : (l table out : List ℕ) (k : ℕ) → k < thousand → table ≡ sets l 0 (rows_below k) → out ≡ sets table (wide * k) (row_of k)
    → out ≡ sets l 0 (rows_below (k + 1))
unfolding rows_below
rows_more l table out k h p e =
    let at : wide * k ≡ 0 + length (rows_below k) = omega (arith, length_rows k (omega arith)) in
    e
    ∙ ap (λ (x : List ℕ). sets x (wide * k) (row_of k)) p
    ∙ ap (λ (i : ℕ). sets (sets l 0 (rows_below k)) i (row_of k)) at
    ∙ sets_append (rows_below k) (row_of k) l 0
    ∙ ap (λ (i : ℕ). sets l 0 (rows_below i)) (sym (add-one k))

pub rows_all : (l table : List ℕ) (k : ℕ) → length l ≡ table_size → k ≡ thousand → table ≡ sets l 0 (rows_below k) → table ≡ digit_rows
rows_all l table k e f p =
    let long = length_rows thousand (omega arith) in
    p
    ∙ ap (λ (i : ℕ). sets l 0 (rows_below i)) f
    ∙ sets_front digit_rows l (omega arith)
    ∙ ap (λ (x : List ℕ). digit_rows ++ x) (drop_of_length-le l {i = length digit_rows} (omega arith))
    ∙ append-nil digit_rows

row_at : (k n j : ℕ) → k ≤ thousand → n < k → j < wide → get_or (rows_below k) (wide * n + j) 0 ≡ get_or (row_of n) j 0
unfolding rows_below
row_at zero n j s h l = absurd (omega arith)
row_at (suc k) n j s h l =
    let long = length_rows k (omega arith) in
    elim (dec_lt n k) [
      | yes b ↦ get_or-append (rows_below k) (row_of k) 0 (wide * n + j) (omega arith) ∙ row_at k n j (omega arith) b l
      | no b ↦
          let i : wide * n + j ≡ length (rows_below k) + j = omega arith in
          let e : k ≡ n = omega arith in
          ap (λ (m : ℕ). get_or (rows_below k ++ row_of k) m 0) i
          ∙ get_or-append-add (rows_below k) (row_of k) j 0
          ∙ ap (λ (m : ℕ). get_or (row_of m) j 0) e
    ]

-- ---- the bytes of a row
four_of : (l : List ℕ) → length l ≡ 4 → get_or l 0 0 ∷ get_or l 1 0 ∷ get_or l 2 0 ∷ get_or l 3 0 ∷ [] ≡ l
four_of [] e = absurd (omega arith)
four_of (a ∷ []) e = absurd (omega arith)
four_of (a ∷ b ∷ []) e = absurd (omega arith)
four_of (a ∷ b ∷ c ∷ []) e = absurd (omega arith)
four_of (a ∷ b ∷ c ∷ d ∷ []) e = refl
four_of (a ∷ b ∷ c ∷ d ∷ x ∷ l) e = absurd (omega arith)

module _ {t : List ℕ} (e : t ≡ digit_rows) (n : ℕ) (h : n < thousand) where
  at_front : (j : ℕ) → j < 4 → get_or t (wide * n + j) 0 ≡ get_or (front n) j 0
  at_front j l =
      ap (λ (x : List ℕ). get_or x (wide * n + j) 0) e
      ∙ row_at thousand n j (omega arith) h (omega arith)
      ∙ get_or-append (front n) (back n) 0 j (omega (arith, (front_is n h).four))

  at_start : get_or t (wide * n) 0 ≡ get_or (front n) 0 0
  at_start = ap (λ (i : ℕ). get_or t i 0) (sym (add-zero (wide * n))) ∙ at_front 0 (omega arith)

  at_back : (j : ℕ) → j < 4 → get_or t (wide * n + (4 + j)) 0 ≡ get_or (back n) j 0
  at_back j l =
      let i : 4 + j ≡ length (front n) + j = omega (arith, (front_is n h).four) in
      ap (λ (x : List ℕ). get_or x (wide * n + (4 + j)) 0) e
      ∙ row_at thousand n (4 + j) (omega arith) h (omega arith)
      ∙ ap (λ (m : ℕ). get_or (row_of n) m 0) i
      ∙ get_or-append-add (front n) (back n) j 0

  pub front_bytes : half_at t (wide * n) ≡ front n
  front_bytes =
      four_are at_start (at_front 1 (omega arith)) (at_front 2 (omega arith)) (at_front 3 (omega arith)) ∙ four_of (front n) (front_is n h).four

  pub front_count : get_or t (wide * n + 3) 0 ≡ length (digits n)
  front_count = at_front 3 (omega arith) ∙ (front_is n h).count

  back_byte : (i j : ℕ) → j < 4 → i ≡ wide * n + (4 + j) → get_or t i 0 ≡ get_or (back n) j 0
  back_byte i j l p = ap (λ (m : ℕ). get_or t m 0) p ∙ at_back j l

  pub back_bytes : half_at t (wide * n + 4) ≡ back n
  back_bytes =
      four_are (back_byte (wide * n + 4) 0 (omega arith) (omega arith)) (back_byte (wide * n + 4 + 1) 1 (omega arith) (omega arith))
      (back_byte (wide * n + 4 + 2) 2 (omega arith) (omega arith)) (back_byte (wide * n + 4 + 3) 3 (omega arith) (omega arith))

  module _ (after : ℕ) where
    pub small_two : 10 ≤ n → n < 100 → digits n ++ after ∷ [] ≡ get_or t (wide * n) 0 ∷ get_or t (wide * n + 1) 0 ∷ after ∷ []
    small_two a b =
        let f = front_two n a b in
        let p : get_or t (wide * n) 0 ≡ last_digit (n / 10) = at_start ∙ ap (λ (x : List ℕ). get_or x 0 0) f in
        let q : get_or t (wide * n + 1) 0 ≡ last_digit n = at_front 1 (omega arith) ∙ ap (λ (x : List ℕ). get_or x 1 0) f in
        ap (λ (x : List ℕ). x ++ after ∷ []) (two_digits n a b) ∙ rw (p, q)

    pub small_three : 100 ≤ n
        → digits n ++ after ∷ [] ≡ get_or t (wide * n) 0 ∷ get_or t (wide * n + 1) 0 ∷ get_or t (wide * n + 2) 0 ∷ after ∷ []
    small_three a =
        let f = front_three n a in
        let p : get_or t (wide * n) 0 ≡ last_digit (n / 100) = at_start ∙ ap (λ (x : List ℕ). get_or x 0 0) f in
        let q : get_or t (wide * n + 1) 0 ≡ last_digit (n / 10) = at_front 1 (omega arith) ∙ ap (λ (x : List ℕ). get_or x 1 0) f in
        let r : get_or t (wide * n + 2) 0 ≡ last_digit n = at_front 2 (omega arith) ∙ ap (λ (x : List ℕ). get_or x 2 0) f in
        ap (λ (x : List ℕ). x ++ after ∷ []) (three_digits n a h) ∙ rw (p, q, r)

pub small_one : (n after : ℕ) {d : ℕ} → n < 10 → d ≡ last_digit n → digits n ++ after ∷ [] ≡ d ∷ after ∷ []
small_one n after h e = ap (λ (x : List ℕ). x ++ after ∷ []) (one_digit n h) ∙ rw e

-- ---- a row by its halves
pub row_made : (l f b : List ℕ) (n : ℕ) → n < thousand → length l ≡ table_size → f ≡ front n → b ≡ back n
    → put_mid (wide * n + 4) (wide * n + 8 - (wide * n + 4)) (put_mid (wide * n) (wide * n + 4 - wide * n) l f) b ≡ sets l (wide * n) (row_of n)
row_made l f b n h size p q =
    let four = (front_is n h).four in
    let at : wide * n + 4 ≡ wide * n + length (front n) = omega arith in
    let long = length-sets l (wide * n) (front n) in
    ap (λ m. put_mid (wide * n + 4) (wide * n + 8 - (wide * n + 4)) m b) (part_stored l f (front n) (wide * n) _ (omega arith) (omega arith) p)
    ∙ part_stored (sets l (wide * n) (front n)) b (back n) (wide * n + 4) _ (omega arith) (omega arith) q
    ∙ ap (λ i. sets (sets l (wide * n) (front n)) i (back n)) at
    ∙ sets_append (front n) (back n) l (wide * n)
