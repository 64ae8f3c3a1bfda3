-- What an event has to do with the packets in flight.
use Rattle.std.specs.Prelude.{ℕ, ◌-◌, Bool, false, cond, Some, None, List, [], ◌∷◌, ◌++◌, eqb, length, get_or}
use Rattle.model.specs.declared.Handled.{Handled}
use Rattle.model.specs.declared.Handled.TheVariants as handled
use Rattle.model.specs.declared.Went.{Went}
use Rattle.model.specs.declared.Went.TheVariants as went
use Rattle.model.specs.Answers as answers
use Rattle.model.specs.State.{Packet}
use Rattle.model.specs.Lanes.{on_lane, less}
use Rattle.model.specs.Fail.{off}
use Rattle.arrays.specs.declared.Told.{Told}

-- what they tell it, by its kind and argument: a send nothing, a failure how many are on its link, else the oldest of its lane
abbrev pub oldest_in : List Packet → Told
oldest_in [] = record { oldest = None; gone = 0 }
oldest_in (p ∷ ps) = record { oldest = Some (record { number = p.number; bit = p.bit }); gone = 0 }

abbrev pub on_link : List Packet → ℕ → Told
on_link flight l = record { oldest = None; gone = length flight - length (off l flight) }

unfoldable pub tells : List Packet → ℕ → ℕ → Told
tells flight kind a = cond (eqb kind 1) (oldest_in []) (cond (eqb kind 4) (on_link flight a) (oldest_in (on_lane a flight)))

-- an accepted delivery or loss takes the oldest packet of its lane, an accepted failure those on its link
abbrev pub without : ℕ → ℕ → List Packet → List Packet
without answer x flight = cond (eqb answer answers.done) (less x flight) flight

abbrev pub cleared : ℕ → ℕ → List Packet → List Packet
cleared answer l flight = cond (eqb answer answers.done) (off l flight) flight

abbrev pub left : ℕ → ℕ → ℕ → List Packet → List Packet
left kind a answer flight = cond (eqb kind 1) flight (cond (eqb kind 4) (cleared answer a flight) (without answer a flight))

-- a packet that left by an end is the newest, with the end's local bit
abbrev pub passed_by : List Bool → List Packet → ℕ → Went → List Packet
passed_by local flight n (went.Lane x) = flight ++ (record { number = n; lane = x; bit = get_or local x false } ∷ [])
passed_by local flight n went.Delivered = flight
passed_by local flight n went.Lost = flight
passed_by local flight n went.Stranded = flight
passed_by local flight n went.Nowhere = flight

abbrev pub passed : List Bool → List Packet → Handled → Went → List Packet
passed local flight (handled.Packet n) w = passed_by local flight n w
passed local flight handled.Nothing w = flight

-- so in flight after an event, by what it gave
unfoldable pub flies : ℕ → ℕ → List Bool → List Packet → ℕ → Handled → Went → List Packet
flies kind a local flight answer h w = passed local (left kind a answer flight) h w
