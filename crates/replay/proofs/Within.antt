-- What `text` gives counts bytes at the front of the part: what a caller needs who lends that front on. Assumes nothing.
use Prim.Native.Nat.{ℕ, ◌≤◌}
use mathlib.Core.Path.{◌≡◌, sym, ap}
use mathlib.Core.List.{List}
use native.Mathlib.Omega.{arith}
use lib.ListN.{length, take, drop, length-append}
use lib.Seq.{length-take-le}
use Rattle.model.specs.Text.{drill_output}
use Rattle.replay.specs.Texts.{TextPost}

pub text_within : {file out out' : List ℕ} {r : ℕ} → TextPost file out out' r → r ≤ length out'
text_within {file} {out} p =
    omega (arith, p.count, ap length p.bytes, length-append (drill_output file) (drop (length (drill_output file)) out))

pub text_front : {file out out' : List ℕ} {r : ℕ} → TextPost file out out' r → r ≡ length (take r out')
text_front {out'} {r} p = sym (length-take-le r out' (text_within p))
