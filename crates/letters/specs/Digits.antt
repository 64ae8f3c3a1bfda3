-- Decimal digits of numbers below a thousand, as a table has them.
use Rattle.std.specs.Prelude.{ℕ, zero, suc, ◌+◌, ◌*◌, ◌/◌, ◌%◌, cond, List, [], ◌∷◌, ◌++◌, ltb, get_or}
use Prim.Native.Char.{code}

abbrev pub last_digit : ℕ → ℕ
last_digit n = code "0" + n % 10

abbrev pub thousand : ℕ
thousand = 1000

-- a number by its thousands and the rest
abbrev pub joined : ℕ → ℕ → ℕ
joined thousands rest = thousand * thousands + rest

-- a row of the table: two halves of four bytes
abbrev pub wide : ℕ
wide = 8

abbrev pub table_size : ℕ
table_size = wide * thousand

-- the number's digits, filled up to three, and how many they are
unfoldable pub front : ℕ → List ℕ
front n =
    cond (ltb n 10) (last_digit n ∷ last_digit n ∷ last_digit n ∷ 1 ∷ [])
    (cond (ltb n 100) (last_digit (n / 10) ∷ last_digit n ∷ last_digit n ∷ 2 ∷ []) (last_digit (n / 100) ∷ last_digit (n / 10) ∷ last_digit n ∷ 3 ∷ []))

-- three digits and a space
abbrev pub back : ℕ → List ℕ
back n = last_digit (n / 100) ∷ last_digit (n / 10) ∷ last_digit n ∷ code " " ∷ []

abbrev pub row_of : ℕ → List ℕ
row_of n = front n ++ back n

-- the rows of the numbers below k
unfoldable pub rows_below : ℕ → List ℕ
rows_below zero = []
rows_below (suc k) = rows_below k ++ row_of k

abbrev pub digit_rows : List ℕ
digit_rows = rows_below thousand

-- half a row from a position on
abbrev pub half_at : List ℕ → ℕ → List ℕ
half_at table from = get_or table from 0 ∷ get_or table (from + 1) 0 ∷ get_or table (from + 2) 0 ∷ get_or table (from + 3) 0 ∷ []
