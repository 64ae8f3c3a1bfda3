-- Lines of numbers.
use Rattle.std.specs.Prelude.{ℕ, List, ◌++◌, get_or}
use Rattle.model.specs.Below.{tab}
use Rattle.model.specs.State.{State}
use Rattle.model.specs.Text.{digits, line, total_line, turns_line}

-- a word and the first k numbers of a list
unfoldable pub row : List ℕ → List ℕ → ℕ → List ℕ
row word list k = line word (tab (λ v. digits (get_or list v 0)) k)

-- the two last lines
unfoldable pub ending_of : State → List ℕ
ending_of s = total_line s ++ turns_line s
