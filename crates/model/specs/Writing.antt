-- The one writing of a drill, and writing into a lent part.
use Rattle.std.specs.Prelude.{ℕ, cond, List, [], ◌∷◌, ◌++◌, ltb, leb, eqb, length, drop}
use Rattle.std.proofs.Math.Option.{Option, none, some}
use Rattle.model.specs.Limits.{number_most}
use Rattle.model.specs.Answers as answers
use Rattle.model.specs.Events.{Event}
use Rattle.model.specs.Opening.{links_in}
use Rattle.model.specs.Number.{number_bytes}
use Rattle.model.specs.File.{Header, opening, kind, argument, of_kind, Drill}

unfoldable pub numbers_bytes : List ℕ → List ℕ
numbers_bytes [] = []
numbers_bytes (n ∷ ns) = number_bytes n ++ numbers_bytes ns

abbrev pub header_bytes : Header → List ℕ
header_bytes h = numbers_bytes (h.nodes ∷ h.destination ∷ links_in h.list ∷ h.list)

abbrev pub event_bytes : Event → List ℕ
event_bytes e = numbers_bytes (kind e ∷ argument e ∷ [])

unfoldable pub events_bytes : List Event → List ℕ
events_bytes [] = []
events_bytes (e ∷ es) = event_bytes e ++ events_bytes es

unfoldable pub write : Drill → List ℕ
write d = header_bytes d.header ++ events_bytes d.events

-- ---- writing into a lent part
-- the answer, the place, how many bytes were written, and what the part then holds
pub record Written : Type 0 where
  pub answer : ℕ
  pub place : ℕ
  pub count : ℕ
  pub part : List ℕ

abbrev pub refuse_writing : List ℕ → ℕ → ℕ → Written
refuse_writing part answer place = record { answer = answer; place = place; count = 0; part = part }

-- "The writer changes only the bytes it reports as written; those after them stay."
unfoldable pub store : List ℕ → List ℕ → Written
store bytes part =
    cond (ltb (length part) (length bytes)) (refuse_writing part answers.too_short 0)
    (record { answer = answers.done; place = 0; count = length bytes; part = bytes ++ drop (length bytes) part })

-- "Opening and writing a header: 2, 3, 4, then 12."
unfoldable pub write_header : Header → List ℕ → Written
write_header h part =
    cond (eqb (opening h).answer answers.done) (store (header_bytes h) part)
    (refuse_writing part (opening h).answer (opening h).place)

-- "Writing an event: 6, 12."
abbrev pub store_of : Option (ℕ → Event) → ℕ → List ℕ → Written
store_of none a part = refuse_writing part answers.no_such 0
store_of (some make) a part = cond (leb a number_most) (store (event_bytes (make a)) part) (refuse_writing part answers.no_such 0)

unfoldable pub write_event : ℕ → ℕ → List ℕ → Written
write_event kind a part = store_of (of_kind kind) a part
