-- The rows passed are stored. Assumes nothing.
use mathlib.Core.Path.{◌≡◌}
use lib.ListN.{length}
use lib.Seq.{sets}
use Rattle.letters.specs.Digits.{table_size, rows_below}
use Rattle.letters.proofs.table.rows.Given as goal

abbrev pub invariant-loop-n : goal.invariant-loop-n
invariant-loop-n l = (length l.initial.rows ≡ table_size) × (l.rows ≡ sets l.initial.rows 0 (rows_below l.n))
