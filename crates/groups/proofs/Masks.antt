-- What the masks, the shift and the or of seven-bit groups are in plain arithmetic. Assumes nothing.
use mathlib.Core.Path.{◌≡◌, ap, ◌∙◌}
use mathlib.Core.Bool.{not}
use Prim.Native.Nat.{ℕ, ◌+◌, ◌*◌, ◌/◌, ◌%◌, ◌^◌, ◌<◌}
use native.Mathlib.Omega.{arith}
use native.Mathlib.Decide.{dec_lt}
use lib.Dec.{lit≤, leb, eqb}
use lib.Pow.{shl_exact}
use lib.Bits.{bit_and, bit_or, and_mask, and_high, or_shifted, or_shifted_r}
use borrow.Author.Tests.{eq-eqb, ne_eqb, le-leb, lt-leb}

-- `n & 0x7f`
pub low_seven : (n : ℕ) → bit_and n 127 ≡ n % 128
low_seven n = and_mask n 7

pub low_seven_lt : (n : ℕ) → bit_and n 127 < 128
low_seven_lt n = omega (arith, low_seven n)

-- `b & 0x80 != 0` of a byte
pub top_test : (b : ℕ) → b < 256 → not (eqb (bit_and b 128) 0) ≡ leb 128 b
top_test b h = elim (dec_lt b 128) [
  | yes l ↦ rw (eq-eqb (bit_and b 128) 0 (top {q = 0} (omega arith)), lt-leb 128 b l)
  | no l ↦ rw (ne_eqb (bit_and b 128) 0 (λ e. omega (arith, top {q = 1} (omega arith))), le-leb 128 b (omega arith))
]
  where
    top : {q : ℕ} → b / 128 ≡ q → bit_and b 128 ≡ q % 2 * 128
    top e = and_high b 1 7 ∙ ap (λ (x : ℕ). x % 2 * 128) e

-- `high << 7 | low`, at 32 bits
pub join_seven : (high low : ℕ) → high < 16384 → low < 128 → bit_or ((high * 2 ^ 7) % 2 ^ 32) low ≡ high * 128 + low
join_seven high low h l = ap (λ (x : ℕ). bit_or x low) (shl_exact 14 7 32 h (lit≤ tt)) ∙ or_shifted high 7 low l

-- `(v & 0x7f) | 0x80`
pub mark_seven : (v : ℕ) → bit_or (bit_and v 127) 128 ≡ v % 128 + 128
mark_seven v =
    let e : bit_or (bit_and v 127) 128 ≡ 128 + bit_and v 127 = or_shifted_r 1 7 (bit_and v 127) (low_seven_lt v) in
    omega (arith, low_seven v)
