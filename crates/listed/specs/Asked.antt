-- What an event is told of the packets in a record's list.
use Rattle.std.specs.Prelude.{ℕ, ◌<◌, ◌≡◌, Some, None}
use Rattle.model.specs.Limits.{ends_most}
use Rattle.arrays.specs.declared.record.Flight.{Flight}
use Rattle.arrays.specs.declared.Oldest.{Oldest}
use Rattle.arrays.specs.declared.asked.Asked.{Asked}
use Rattle.arrays.specs.Flight.{flying_in}
use Rattle.arrays.specs.Told.{tells}
use Rattle.packets.specs.Moves.{oldest_at}

-- it is told the truth, and the place is that of the oldest packet in a list of so many slots; 0 where there is none
pub record Listed (flight : Flight) (flying kind a : ℕ) (r : Asked) : Type 0 where
  pub told : r.told ≡ tells (flying_in flight flying) kind a
  pub at : (o : Oldest) → r.told.oldest ≡ Some o → (a < ends_most) × (r.at ≡ oldest_at flight.lane flying a) × (r.at < flying)
  pub nowhere : r.told.oldest ≡ None → r.at ≡ 0
