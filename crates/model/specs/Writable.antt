-- What the theorems of drill files name: files of bytes, drills that can be written, and a drill written piece by piece.
use Rattle.std.specs.Prelude.{ℕ, ◌≤◌, ◌<◌, ◌≡◌, List, [], ◌∷◌, ◌++◌, get_or, take, drop}
use Rattle.model.specs.Limits.{number_most}
use Rattle.model.specs.Answers as answers
use Rattle.model.specs.Events.{Event}
use Rattle.model.specs.File.{opening, kind, argument, Drill}
use Rattle.model.specs.Writing.{Written, write_header, write_event}

-- every entry is a byte (past the end `get_or` gives 0)
abbrev pub Bytes : List ℕ → Type 0
Bytes file = (i : ℕ) → get_or file i 0 < 256

-- "Largest value 2,097,151."
abbrev pub ArgumentsFit : List Event → Type 0
ArgumentsFit [] = Unit {0}
ArgumentsFit (e ∷ es) = (argument e ≤ number_most) × ArgumentsFit es

-- a drill that can be written: its opening is accepted, and each argument is a number of the drill file
pub record Writable (d : Drill) : Type 0 where
  pub header : (opening d.header).answer ≡ answers.done
  pub arguments : ArgumentsFit d.events

-- ---- piece by piece: what a part holds after each piece is written into what is left of it
abbrev pub and_rest : Written → (List ℕ → List ℕ) → List ℕ
and_rest w more = take w.count w.part ++ more (drop w.count w.part)

unfoldable pub write_events : List Event → List ℕ → List ℕ
write_events [] part = part
write_events (e ∷ es) part = and_rest (write_event (kind e) (argument e) part) (write_events es)

unfoldable pub write_pieces : Drill → List ℕ → List ℕ
write_pieces d part = and_rest (write_header d.header part) (write_events d.events)
