-- The line of an event by the numbers that a burst gives for it: its answer, its packet's code and its way's code.
use Rattle.std.specs.Prelude.{ℕ, ◌+◌, cond, List, [], ◌∷◌, ltb, eqb}
use Rattle.model.specs.Limits.{ends_most, events_most}
use Rattle.model.specs.Text.{ascii, digits, line}

-- the least number that no packet has stands for none
unfoldable pub packet_word : ℕ → List ℕ
packet_word code = cond (eqb code events_most) (ascii "-") (digits code)

-- a lane is its own number; the other ways come after the lanes
unfoldable pub way_word : ℕ → List ℕ
way_word code =
    cond (ltb code ends_most) (digits code)
    (cond (eqb code ends_most) (ascii "in")
    (cond (eqb code (ends_most + 1)) (ascii "lost") (cond (eqb code (ends_most + 2)) (ascii "end") (ascii "-"))))

abbrev pub code_line : ℕ → ℕ → ℕ → ℕ → List ℕ
code_line ordinal answer packet way = line (digits ordinal) (digits answer ∷ packet_word packet ∷ way_word way ∷ [])
