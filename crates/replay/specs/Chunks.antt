-- Events read some at a time into two lists, by kind and argument.
use Rattle.std.specs.Prelude.{ℕ, suc, ◌+◌, ◌≤◌, ◌≡◌, List, [], ◌∷◌, ◌++◌, length, get_or}
use Rattle.std.proofs.Math.Option.{none, some}
use Rattle.model.specs.Events.{Event}
use Rattle.model.specs.File.{kind, argument, Reading, read_events}
use Rattle.letters.specs.Digits.{thousand}
use Rattle.replay.specs.declared.chunk.Stop.{Stop}
use Rattle.replay.specs.declared.chunk.Stop.TheVariants.{More, End, Spoilt}
use Rattle.replay.specs.declared.chunk.Gathered.{Gathered}

-- at most so many events are read before they are run
abbrev pub chunk : ℕ
chunk = thousand

-- events stand in two lists from index i on
abbrev pub Stand : List Event → List ℕ → List ℕ → ℕ → Type 0
Stand [] kinds arguments i = Unit {0}
Stand (e ∷ es) kinds arguments i = (get_or kinds i 0 ≡ kind e) × (get_or arguments i 0 ≡ argument e) × Stand es kinds arguments (suc i)

-- a reading behind some events
abbrev pub behind : List Event → Reading → Reading
behind es r = record { events = es ++ r.events; spoilt = r.spoilt }

-- so many events were read from a position on, up to the next one
pub record Gathers (file : List ℕ) (from most : ℕ) (kinds arguments : List ℕ) (count next : ℕ) : Type 0 where
  pub events : List Event
  pub many : length events ≡ count
  pub few : count ≤ most
  pub short : most ≤ chunk
  pub kinds_size : length kinds ≡ chunk
  pub arguments_size : length arguments ≡ chunk
  pub moved : from + count ≤ next
  pub inside : next ≤ length file
  pub stand : Stand events kinds arguments 0
  pub reads : read_events file from ≡ behind events (read_events file next)

-- why no more were
abbrev pub Stopped : List ℕ → ℕ → ℕ → ℕ → Stop → Type 0
Stopped file most count at More = count ≡ most
Stopped file most count at End = read_events file at ≡ record { events = []; spoilt = none }
Stopped file most count at (Spoilt place) = read_events file at ≡ record { events = []; spoilt = some place }

abbrev pub stopped_at : ℕ → ℕ → Stop → Gathered
stopped_at count next stop = record { count = count; next = next; stop = stop }

pub record GatherPost (file : List ℕ) (from most : ℕ) (kinds arguments : List ℕ) (r : Gathered) : Type 0 where
  pub gathers : Gathers file from most kinds arguments r.count r.next
  pub stopped : Stopped file most r.count r.next r.stop
