-- The lines of a chunk's events: by the numbers that the burst gives, and by the calls themselves.
use Rattle.std.specs.Prelude.{ℕ, zero, suc, List, [], ◌++◌, get_or}
use Rattle.model.specs.State.{State}
use Rattle.model.specs.Text.{event_line}
use Rattle.notes.specs.Bursts.{call_at}
use Rattle.lines.specs.Codes.{code_line}

-- the lines of k events from event i on
unfoldable pub code_lines : List ℕ → List ℕ → List ℕ → ℕ → ℕ → ℕ → List ℕ
code_lines answers packets ways ordinal i zero = []
code_lines answers packets ways ordinal i (suc k) =
    code_line ordinal (get_or answers i 0) (get_or packets i 0) (get_or ways i 0) ++ code_lines answers packets ways (suc ordinal) (suc i) k

-- the same of the calls themselves
unfoldable pub call_lines : State → List ℕ → List ℕ → ℕ → ℕ → ℕ → List ℕ
call_lines s kinds arguments ordinal i zero = []
call_lines s kinds arguments ordinal i (suc k) =
    event_line ordinal (call_at s kinds arguments i) ++ call_lines s kinds arguments (suc ordinal) (suc i) k
