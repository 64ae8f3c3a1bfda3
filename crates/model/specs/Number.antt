-- A number of the drill file: "groups of seven bits, low group first. The top bit is set on every byte but the last. One to three bytes;
-- shortest form only, so the last byte of two or three is not 0."
use Rattle.std.specs.Prelude.{ℕ, zero, suc, ◌+◌, ◌*◌, ◌/◌, ◌%◌, min, cond, List, [], ◌∷◌, ltb, eqb, length, drop}
use Rattle.std.proofs.Math.Option.{Option, none, some}
use Rattle.model.specs.Limits.{group, groups_most}
use Rattle.model.specs.Answers as answers

-- ---- writing: the bytes of a number in at most k groups
unfoldable pub groups : ℕ → ℕ → List ℕ
groups zero n = []
groups (suc k) n = cond (ltb n group) (n ∷ []) ((n % group + group) ∷ groups k (n / group))

abbrev pub number_bytes : ℕ → List ℕ
number_bytes n = groups groups_most n

-- ---- reading
-- the number that some bytes start with, and how many bytes it has
pub record Value : Type 0 where
  pub value : ℕ
  pub width : ℕ

-- a low group joined to the higher ones, which are not 0 in the shortest form
unfoldable pub join : ℕ → Option Value → Option Value
join low none = none
join low (some high) =
    cond (eqb high.value 0) none (some (record { value = high.value * group + low; width = suc high.width }))

-- "Spoilt means cut short, not shortest, a fourth byte needed"
unfoldable pub number_in : ℕ → List ℕ → Option Value
number_in zero bytes = none
number_in (suc k) [] = none
number_in (suc k) (b ∷ bytes) = cond (ltb b group) (some (record { value = b; width = 1 })) (join (b % group) (number_in k bytes))

-- what reading gives: something and the position after it, or an answer number and a place
pub data Read (A : Type 0) : Type 0 where
  had : A → ℕ → Read A
  refused : ℕ → ℕ → Read A

abbrev pub placed : ℕ → Option Value → Read ℕ
placed at none = refused answers.spoilt at
placed at (some v) = had v.value (at + v.width)

-- "the place is the offset of that value's first byte. An argument or header number that is missing altogether has the file's length as
-- place." "A position past the file's end counts as the end."
unfoldable pub read_number : List ℕ → ℕ → Read ℕ
read_number file at = placed (min at (length file)) (number_in groups_most (drop at file))
