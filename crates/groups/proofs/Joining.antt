-- The number at a position, byte by byte. Assumes nothing.
use Prim.Native.Nat.{ℕ, suc, ◌+◌, ◌*◌, ◌%◌, ◌≤◌, ◌<◌, min}
use native.Mathlib.Omega.{arith}
use native.Mathlib.Numerals.{add-one}
use mathlib.Core.Path.{◌≡◌, refl, sym, ap, ◌∙◌}
use mathlib.Core.Bool.{true, false}
use mathlib.Core.List.{List}
use mathlib.Core.Option.{Option, none, some}
use lib.Dec.{leb}
use lib.ListN.{length, get_or, drop, drop_of_length-le}
use lib.Seq.{drop-cons}
use borrow.Author.Tests.{leb-true, leb-false, le-ltb, lt-ltb, eq-eqb, ne_eqb}
use Rattle.model.specs.Limits.{group}
use Rattle.model.specs.Answers as answers
use Rattle.model.specs.Number.{Value, join, number_in, refused, had, placed, read_number}

module _ (k : ℕ) (file : List ℕ) (at : ℕ) where
  -- nothing there
  pub cut_short : length file ≤ at → number_in (suc k) (drop at file) ≡ none
  unfolding number_in
  cut_short h = rw (drop_of_length-le file h)

  -- a last byte
  pub last_byte : at < length file → leb group (get_or file at 0) ≡ false
      → number_in (suc k) (drop at file) ≡ some (record { value = get_or file at 0; width = 1 })
  unfolding number_in
  last_byte h e = rw (drop-cons file at 0 h, lt-ltb (get_or file at 0) group (leb-false group (get_or file at 0) e))

  -- a byte that another follows
  pub goes_on : at < length file → leb group (get_or file at 0) ≡ true
      → number_in (suc k) (drop at file) ≡ join (get_or file at 0 % group) (number_in k (drop (at + 1) file))
  unfolding number_in
  goes_on h e = rw (add-one, drop-cons file at 0 h, le-ltb (get_or file at 0) group (leb-true group (get_or file at 0) e))

-- a fourth byte would be needed
pub fourth : (l : List ℕ) → number_in 0 l ≡ none
unfolding number_in
fourth l = refl

pub join_none : (low : ℕ) → join low none ≡ none
unfolding join
join_none low = refl

-- not shortest, and shortest
pub join_zero : (low : ℕ) (v : Value) → v.value ≡ 0 → join low (some v) ≡ none
unfolding join
join_zero low v e = rw (eq-eqb v.value 0 e)

pub join_some : (low : ℕ) (v : Value) → (v.value ≡ 0 → ⊥)
    → join low (some v) ≡ some (record { value = v.value * group + low; width = suc v.width })
unfolding join
join_some low v n = rw (ne_eqb v.value 0 n)

-- what is read at a position: past the end, in one group, in more
pub read_past : (file : List ℕ) (at : ℕ) → length file ≤ at → refused answers.spoilt (length file) ≡ read_number file at
unfolding read_number
read_past file at h =
    let e : min at (length file) ≡ length file = omega arith in
    rw (e, cut_short 2 file at h)

-- the byte there
module _ (file : List ℕ) (at : ℕ) (h : at < length file) {b : ℕ} (is : b ≡ get_or file at 0) where
  here : min at (length file) ≡ at
  here = omega arith

  pub read_one : leb group b ≡ false → (v : ℕ) → v ≡ b % group → had v (at + 1) ≡ read_number file at
  unfolding read_number
  read_one e v q =
      rw (here, last_byte 2 file at h (ap (leb group) (sym is) ∙ e))
      (ap (λ (n : ℕ). had n (at + 1)) (omega (arith, leb-false group b e)))

  pub read_more : leb group b ≡ true → (low : ℕ) → low ≡ b % group
      → placed at (join low (number_in 2 (drop (at + 1) file))) ≡ read_number file at
  unfolding read_number
  read_more e low q = rw (here, goes_on 2 file at h (ap (leb group) (sym is) ∙ e), q, is)

-- a group at a position, with k groups allowed above it, below which one group stands
module _ (k : ℕ) (file : List ℕ) (at : ℕ) (low : ℕ) where
  pub group_cut : length file ≤ at → join low (number_in (suc k) (drop at file)) ≡ none
  group_cut h = rw (cut_short k file at h, join_none)

  module _ (h : at < length file) {b : ℕ} (is : b ≡ get_or file at 0) where
    pub group_zero : leb group b ≡ false → b ≡ 0 → join low (number_in (suc k) (drop at file)) ≡ none
    group_zero e z =
        rw (
          last_byte k file at h (ap (leb group) (sym is) ∙ e),
          join_zero low (record { value = get_or file at 0; width = 1 }) (sym is ∙ z),
        )

    pub group_pos : leb group b ≡ false → (b ≡ 0 → ⊥) → (v : ℕ) → v ≡ b % group → 0 < v
    group_pos e z v q = omega (arith, leb-false group b e)

    pub group_last : leb group b ≡ false → (b ≡ 0 → ⊥) → (v : ℕ) → v ≡ b % group
        → join low (number_in (suc k) (drop at file)) ≡ some (record { value = v * group + low; width = 2 })
    group_last e z v q =
        let same : get_or file at 0 ≡ v = omega (arith, is, leb-false group b e) in
        rw (
          last_byte k file at h (ap (leb group) (sym is) ∙ e),
          join_some low (record { value = get_or file at 0; width = 1 }) (λ n. z (is ∙ n)),
          same,
        )

    pub group_more : leb group b ≡ true → (v next : ℕ) → v ≡ b % group → next ≡ at + 1
        → join low (join v (number_in k (drop next file))) ≡ join low (number_in (suc k) (drop at file))
    group_more e v next q n = rw (goes_on k file at h (ap (leb group) (sym is) ∙ e), q, n, is)

-- a third group that goes on
pub group_fourth : (file : List ℕ) (at low : ℕ) → at < length file → {b : ℕ} → b ≡ get_or file at 0 → leb group b ≡ true
    → join low (number_in 1 (drop at file)) ≡ none
group_fourth file at low h is e = rw (goes_on 0 file at h (ap (leb group) (sym is) ∙ e), fourth, join_none, join_none)

-- one group more below
pub under_none : (low : ℕ) {o : Option Value} → o ≡ none → join low o ≡ none
under_none low e = rw (e, join_none)

pub under_some : (low : ℕ) (v : Value) {o : Option Value} → o ≡ some v → 0 < v.value
    → join low o ≡ some (record { value = v.value * group + low; width = suc v.width })
under_some low v e z = rw (e, join_some low v (λ zero. omega arith))

-- the number at a position, by what its groups join to
pub spoilt_by : (at : ℕ) {o : Option Value} → o ≡ none → refused answers.spoilt at ≡ placed at o
spoilt_by at e = rw e

pub had_by : (at n : ℕ) (v : Value) {o : Option Value} → o ≡ some v → n ≡ v.value → had n (at + v.width) ≡ placed at o
had_by at n v e q = rw (e, q)
