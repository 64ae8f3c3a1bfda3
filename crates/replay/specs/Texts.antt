-- The program's text of a file's bytes.
use Rattle.std.specs.Prelude.{ℕ, ◌≡◌, List, ◌++◌, length, drop}
use Rattle.model.specs.Text.{drill_output}

-- the bytes written are the text, and the others stay
pub record TextPost (file out out' : List ℕ) (r : ℕ) : Type 0 where
  pub count : r ≡ length (drill_output file)
  pub bytes : out' ≡ drill_output file ++ drop (length (drill_output file)) out
