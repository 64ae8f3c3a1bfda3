-- "Generator" of docs/CALLS.md.
use Rattle.std.specs.Prelude.{ℕ, ◌+◌, ◌*◌, ◌%◌, cond, eqb}

-- "At the start of each part x = (5 * SEED + number of the part) mod 2147483646 + 1"; a seed is below 2 ^ 32, a part's number below 6
unfoldable pub start_of : ℕ → ℕ → ℕ
start_of seed part = (5 * (seed % 4294967296) + part % 6) % 2147483646 + 1

-- "x becomes x * 48271 mod 2147483647"
unfoldable pub next_of : ℕ → ℕ
next_of x = x * 48271 % 2147483647

-- "the result is x mod n .. where it would be 0, n is 1", which leaves 0
unfoldable pub below : ℕ → ℕ → ℕ
below x n = cond (eqb n 0) 0 (x % n)
