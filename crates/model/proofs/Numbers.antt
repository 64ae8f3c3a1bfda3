-- A number written is read back, and a number read is the one writing of it. Assumes nothing.
use Prim.Native.Nat.{ℕ, zero, suc, ◌+◌, ◌-◌, ◌*◌, ◌/◌, ◌%◌, ◌≤◌, ◌<◌, min}
use native.Mathlib.Omega.{arith}
use native.Mathlib.Decide.{dec_lt}
use mathlib.Core.Path.{◌≡◌, refl, sym, ap, ◌∙◌}
use mathlib.Core.Logic.{inl, inr}
use mathlib.Core.List.{List, [], ◌∷◌, ◌++◌}
use mathlib.Core.Option.{Option, none, some}
use lib.Dec.{ltb, eqb}
use lib.ListN.{length, drop, length-drop, length-append}
use lib.Seq.{drop-drop, drop-append_seam, get_or-drop}
use borrow.Author.Tests.{lt-ltb, le-ltb, ltb-true, ltb-false, ne_eqb, eqb-false}
use Rattle.model.specs.Limits.{group, groups_most, number_most}
use Rattle.model.specs.Answers as answers
use Rattle.model.specs.Number.{groups, number_bytes, Value, join, number_in, had, refused, placed, read_number}
use Rattle.model.specs.Writable.{Bytes}
use Rattle.model.proofs.Below.{look}

-- the first number that k groups do not hold
abbrev pub bound : ℕ → ℕ
bound zero = 1
bound (suc k) = bound k * group

bound_pos : (k : ℕ) → 0 < bound k
bound_pos zero = omega arith
bound_pos (suc k) = omega (arith, bound_pos k)

-- ---- the bytes of a number
groups_one : (k n : ℕ) → n < group → groups (suc k) n ≡ n ∷ []
unfolding groups
groups_one k n h = rw (lt-ltb n group h)

groups_more : (k n : ℕ) → group ≤ n → groups (suc k) n ≡ (n % group + group) ∷ groups k (n / group)
unfolding groups
groups_more k n h = rw (le-ltb n group h)

some_byte : (k n : ℕ) → 0 < length (groups (suc k) n)
some_byte k n = elim (dec_lt n group) [
  | yes h ↦ rw (groups_one k n h) (omega arith)
  | no h ↦ rw (groups_more k n (omega arith)) (omega arith)
]

pub number_long : (n : ℕ) → 0 < length (number_bytes n)
number_long n = some_byte 2 n

few_bytes : (k n : ℕ) → length (groups k n) ≤ k
unfolding groups
few_bytes zero n = omega arith
few_bytes (suc k) n = elim (dec_lt n group) [
  | yes h ↦ rw (lt-ltb n group h) (omega arith)
  | no h ↦ rw (le-ltb n group (omega arith)) (omega (arith, few_bytes k (n / group)))
]

pub number_short : (n : ℕ) → length (number_bytes n) ≤ groups_most
number_short n = few_bytes groups_most n

-- ---- written, then read
join_some : (low high width : ℕ) → 0 < high
    → join low (some (record { value = high; width = width })) ≡ some (record { value = high * group + low; width = suc width })
unfolding join
join_some low high width h = rw (ne_eqb high 0 (λ e. omega arith))

in_one : (k b : ℕ) (t : List ℕ) → b < group → number_in (suc k) (b ∷ t) ≡ some (record { value = b; width = 1 })
unfolding number_in
in_one k b t h = rw (lt-ltb b group h)

in_more : (k b : ℕ) (t : List ℕ) → group ≤ b → number_in (suc k) (b ∷ t) ≡ join (b % group) (number_in k t)
unfolding number_in
in_more k b t h = rw (le-ltb b group h)

in_written : (k n : ℕ) (t : List ℕ) → n < bound (suc k)
    → number_in (suc k) (groups (suc k) n ++ t) ≡ some (record { value = n; width = length (groups (suc k) n) })
in_written zero n t h = rw (groups_one 0 n (omega arith)) (in_one 0 n t (omega arith))
in_written (suc k) n t h = elim (dec_lt n group) [
  | yes l ↦ rw (groups_one (suc k) n l) (in_one (suc k) n t l)
  | no l ↦
      let up = in_more (suc k) (n % group + group) (groups (suc k) (n / group) ++ t) (omega arith) in
      let high = in_written k (n / group) t (omega arith) in
      let whole = join_some ((n % group + group) % group) (n / group) (length (groups (suc k) (n / group))) (omega arith) in
      let same : n / group * group + (n % group + group) % group ≡ n = omega arith in
      rw (groups_more (suc k) n (omega arith)) (up ∙ rw (high, whole, same))
]

-- ---- read, then written
-- bytes that start with the writing of a number in at most k groups
pub record Starts (k : ℕ) (bytes : List ℕ) (v : Value) : Type 0 where
  pub small : v.value < bound k
  pub wide : v.width ≡ length (groups k v.value)
  pub rest : List ℕ
  pub is : bytes ≡ groups k v.value ++ rest

abbrev pub never {ℓ} : {A : Type ℓ} → ◌≡◌ {A = ℕ} 0 1 → A
never e = absurd (omega (arith, e))

last_starts : (k b : ℕ) (t : List ℕ) (v : Value) → b < group → some (record { value = b; width = 1 }) ≡ some v → Starts (suc k) (b ∷ t) v
last_starts k b t v h e =
    let value : b ≡ v.value = cc in
    let width : 1 ≡ v.width = cc in
    let g : groups (suc k) v.value ≡ b ∷ [] = rw (← value) (groups_one k b h) in
    record { small = omega (arith, bound_pos k); wide = rw g (sym width); rest = t; is = rw g }

more_starts : (k b : ℕ) (t : List ℕ) (v high : Value) → group ≤ b → b < 256 → 0 < high.value → Starts k t high
    → some (record { value = high.value * group + b % group; width = suc high.width }) ≡ some v → Starts (suc k) (b ∷ t) v
more_starts k b t v high l h p s e =
    let value : high.value * group + b % group ≡ v.value = cc in
    let width : suc high.width ≡ v.width = cc in
    let low : v.value % group + group ≡ b = omega arith in
    let up : v.value / group ≡ high.value = omega arith in
    let g : groups (suc k) v.value ≡ b ∷ groups k high.value = groups_more k v.value (omega arith) ∙ rw (low, up) in
    record {
      small = omega (arith, s.small);
      wide = rw g (sym width ∙ ap suc s.wide);
      rest = s.rest;
      is = rw g (ap (λ (l : List ℕ). b ∷ l) s.is);
    }

join_starts : (k b : ℕ) (t : List ℕ) (v : Value) (x : Option Value) → group ≤ b → b < 256 → ((high : Value) → x ≡ some high → Starts k t high)
    → join (b % group) x ≡ some v → Starts (suc k) (b ∷ t) v
unfolding join
join_starts k b t v none l h ih e = never cc
join_starts k b t v (some high) l h ih e = elim (look (eqb high.value 0)) [
  | inl z ↦ never (let f = rw z at e in cc)
  | inr z ↦
      let not_zero = eqb-false high.value 0 z in
      more_starts k b t v high l h (omega arith) (ih high refl) (rw z at e)
]

in_starts : (k : ℕ) (bytes : List ℕ) (v : Value) → Bytes bytes → number_in k bytes ≡ some v → Starts k bytes v
unfolding number_in
in_starts zero bytes v all e = never cc
in_starts (suc k) [] v all e = never cc
in_starts (suc k) (b ∷ t) v all e = elim (look (ltb b group)) [
  | inl l ↦ last_starts k b t v (ltb-true b group l) (rw l at e)
  | inr l ↦
      join_starts k b t v (number_in k t) (ltb-false b group l) (all 0) (λ high f. in_starts k t high (λ i. all (suc i)) f) (rw l at e)
]

-- ---- how many bytes a number takes
pub record Inside (bytes : List ℕ) (v : Value) : Type 0 where
  pub some_width : 0 < v.width
  pub fits : v.width ≤ length bytes

join_inside : (b low : ℕ) (t : List ℕ) (v : Value) (x : Option Value) → ((high : Value) → x ≡ some high → Inside t high)
    → join low x ≡ some v → Inside (b ∷ t) v
unfolding join
join_inside b low t v none ih e = never cc
join_inside b low t v (some high) ih e = elim (look (eqb high.value 0)) [
  | inl z ↦ never (let f = rw z at e in cc)
  | inr z ↦
      let f = rw z at e in
      let width : suc high.width ≡ v.width = cc in
      record { some_width = omega arith; fits = omega (arith, (ih high refl).fits) }
]

in_inside : (k : ℕ) (bytes : List ℕ) (v : Value) → number_in k bytes ≡ some v → Inside bytes v
unfolding number_in
in_inside zero bytes v e = never cc
in_inside (suc k) [] v e = never cc
in_inside (suc k) (b ∷ t) v e = elim (look (ltb b group)) [
  | inl l ↦
      let f = rw l at e in
      let width : 1 ≡ v.width = cc in
      record { some_width = omega arith; fits = omega arith }
  | inr l ↦ join_inside b (b % group) t v (number_in k t) (in_inside k t) (rw l at e)
]

-- ---- at a position of a file
-- bytes that stand at a position, and what follows them
module _ (file : List ℕ) (at : ℕ) (w t : List ℕ) (e : drop at file ≡ w ++ t) where
  pub after : drop (at + length w) file ≡ t
  after = sym (drop-drop (length w) at file) ∙ ap (λ (l : List ℕ). drop (length w) l) e ∙ drop-append_seam w t

  pub before_end : 0 < length w → at + length w ≤ length file
  before_end h =
      let n : length file - at ≡ length w + length t = sym (length-drop at file) ∙ ap length e ∙ length-append w t in
      omega arith

pub number_written : (file : List ℕ) (at n : ℕ) (t : List ℕ) → n ≤ number_most → drop at file ≡ number_bytes n ++ t
    → read_number file at ≡ had n (at + length (number_bytes n))
unfolding read_number
number_written file at n t h e =
    let here : min at (length file) ≡ at = omega (arith, before_end file at (number_bytes n) t e (number_long n), number_long n) in
    rw (e, here, in_written 2 n t (omega arith))

-- what a number that was had tells
placed_had : (at n next : ℕ) (o : Option Value) → placed at o ≡ had n next → (v : Value) × (o ≡ some v) × (v.value ≡ n) × (at + v.width ≡ next)
placed_had at n next none e = never cc
placed_had at n next (some v) e = (v, refl, cc, cc)

module _ (file : List ℕ) (at n next : ℕ) (e : read_number file at ≡ had n next) where
  pub record Taken : Type 0 where
    pub value : Value
    pub found : number_in groups_most (drop at file) ≡ some value
    pub number : value.value ≡ n
    pub end : at + value.width ≡ next
    pub past : at < next
    pub inside : next ≤ length file

  taken : Taken
  unfolding read_number
  taken =
      let p = placed_had (min at (length file)) n next (number_in groups_most (drop at file)) e in
      let i = in_inside groups_most (drop at file) p.0 p.1 in
      let room : length (drop at file) ≡ length file - at = length-drop at file in
      record {
        value = p.0;
        found = p.1;
        number = p.2;
        end = omega (arith, p.3, i.some_width, i.fits);
        past = omega (arith, p.3, i.some_width, i.fits);
        inside = omega (arith, p.3, i.some_width, i.fits);
      }

  pub number_moves : (at < next) × (next ≤ length file)
  number_moves = (taken.past, taken.inside)

  module _ (all : Bytes file) where
    starts : Starts groups_most (drop at file) taken.value
    starts = in_starts groups_most (drop at file) taken.value (λ i. rw get_or-drop (all (at + i))) taken.found

    pub number_small : n ≤ number_most
    number_small = omega (arith, starts.small, taken.number)

    pub number_is : drop at file ≡ number_bytes n ++ drop next file
    number_is =
        let bytes : drop at file ≡ number_bytes n ++ starts.rest = starts.is ∙ ap (λ (m : ℕ). number_bytes m ++ starts.rest) taken.number in
        let wide : taken.value.width ≡ length (number_bytes n) = starts.wide ∙ ap (λ (m : ℕ). length (number_bytes m)) taken.number in
        let end : next ≡ at + length (number_bytes n) = omega (arith, taken.end) in
        bytes ∙ ap (λ (l : List ℕ). number_bytes n ++ l) (sym (after file at (number_bytes n) starts.rest bytes) ∙ ap (λ (i : ℕ). drop i file) (sym end))

-- a number that could not be had: its place, which is where it was looked for
placed_refused : (at answer place : ℕ) (o : Option Value) → placed at o ≡ refused answer place → (answer ≡ answers.spoilt) × (place ≡ at)
placed_refused at answer place none e = (cc, cc)
placed_refused at answer place (some v) e = never cc

pub number_place : (file : List ℕ) (at answer place : ℕ) → read_number file at ≡ refused answer place
    → (answer ≡ answers.spoilt) × (place ≡ min at (length file))
unfolding read_number
number_place file at answer place e = placed_refused (min at (length file)) answer place (number_in groups_most (drop at file)) e
