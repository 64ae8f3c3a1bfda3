-- The arrays of the packets in flight.
use Rattle.std.specs.Prelude.{ℕ, ◌+◌, ◌≡◌, Bool, List, length}
use Rattle.model.specs.Limits.{flight_most}
use Rattle.model.specs.State.{Packet}
use Rattle.model.specs.Below.{tab}
use Rattle.arrays.specs.declared.record.Flight.{Flight}
use Rattle.arrays.specs.View.{packet_at}

-- entries that one move takes; slots of the arrays
abbrev pub moves : ℕ
moves = 32

abbrev pub slots : ℕ
slots = flight_most + moves

-- an entry for each slot
pub record Slots (f : Flight) : Type 0 where
  pub number_long : length f.number ≡ slots
  pub lane_long : length f.lane ≡ slots
  pub bit_long : length f.bit ≡ slots

-- the packets in the first k slots
abbrev pub packets : List ℕ → List ℕ → List Bool → ℕ → List Packet
packets number lane bit k = tab (packet_at number lane bit) k

abbrev pub flying_in : Flight → ℕ → List Packet
flying_in f k = packets f.number f.lane f.bit k
