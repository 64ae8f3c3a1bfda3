-- What the outcomes of this crate stand for, in the document's words.
use Rattle.std.specs.Prelude.{ℕ, Bool, true, false, List, Option, None, Some, Result, Ok, Err}
use Rattle.std.proofs.Math.Option as math
use Rattle.model.specs.Answers as answers
use Rattle.model.specs.Events as events
use Rattle.model.specs.Number.{Read, had, refused}
use Rattle.model.specs.File.{kind, argument, read_event}
use Rattle.model.specs.Writing as writing
use Rattle.groups.specs.declared.answers.Spoilt.{Spoilt}
use Rattle.entries.specs.declared.answers.Cursor.{Cursor}
use Rattle.entries.specs.declared.answers.Event.{Event}
use Rattle.entries.specs.declared.answers.Got.{Got}
use Rattle.entries.specs.declared.answers.Refusal.{Refusal}
use Rattle.entries.specs.declared.answers.Refusal.TheVariants as refusal

-- ---- reading an event
-- the answer, its place, the event by its kind and argument, and the position after
pub record Seen : Type 0 where
  pub answer : ℕ
  pub place : ℕ
  pub event : math.Option (ℕ × ℕ)
  pub next : ℕ

abbrev pub seen_by : Result (Option Event) Spoilt → ℕ → Seen
seen_by (Ok (Some e)) next = record { answer = answers.done; place = 0; event = math.some (e.kind, e.argument); next = next }
seen_by (Ok None) next = record { answer = answers.done; place = 0; event = math.none; next = next }
seen_by (Err s) next = record { answer = answers.spoilt; place = s.place; event = math.none; next = next }

abbrev pub seen : Got → Seen
seen g = seen_by g.event g.next.at

-- what is spoilt, as the code gives it
abbrev pub spoilt_at : ℕ → Cursor → Got
spoilt_at place from = record { event = Err (record { place = place }); next = from }

-- the same of what `model` reads: the position after a spoilt event is the place of its kind
abbrev pub seen_at : ℕ → Read (math.Option events.Event) → Seen
seen_at at (had math.none n) = record { answer = answers.done; place = 0; event = math.none; next = n }
seen_at at (had (math.some e) n) = record { answer = answers.done; place = 0; event = math.some (kind e, argument e); next = n }
seen_at at (refused answer place) = record { answer = answer; place = place; event = math.none; next = at }

unfoldable pub event_at : List ℕ → ℕ → Seen
event_at file at = seen_at at (read_event file at)

-- a kind that is known
abbrev pub known : math.Option (ℕ → events.Event) → Bool
known math.none = false
known (math.some make) = true

-- ---- refusals
-- "Answer numbers"
abbrev pub answer_of : Refusal → ℕ
answer_of refusal.BadSizes = answers.bad_sizes
answer_of (refusal.BadLink place) = answers.bad_link
answer_of refusal.ClosedWalk = answers.closed_walk
answer_of refusal.NoSuch = answers.no_such
answer_of (refusal.Spoilt place) = answers.spoilt
answer_of refusal.TooShort = answers.too_short

-- "Place is 0 where none is named."
abbrev pub place_of : Refusal → ℕ
place_of refusal.BadSizes = 0
place_of (refusal.BadLink place) = place
place_of refusal.ClosedWalk = 0
place_of refusal.NoSuch = 0
place_of (refusal.Spoilt place) = place
place_of refusal.TooShort = 0

-- of anything that is done or refused
abbrev pub answer_in : {A : Type 0} → Result A Refusal → ℕ
answer_in (Ok x) = answers.done
answer_in (Err r) = answer_of r

abbrev pub place_in : {A : Type 0} → Result A Refusal → ℕ
place_in (Ok x) = 0
place_in (Err r) = place_of r

-- ---- writing: a refusal writes nothing
abbrev pub count_in : Result ℕ Refusal → ℕ
count_in (Ok count) = count
count_in (Err r) = 0

-- the answer, the place, the count, and what the part then holds
abbrev pub holding : Result ℕ Refusal → List ℕ → writing.Written
holding w part = record { answer = answer_in w; place = place_in w; count = count_in w; part = part }
