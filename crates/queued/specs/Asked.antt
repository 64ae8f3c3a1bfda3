-- What an event is told of the packets in queues.
use Rattle.std.specs.Prelude.{ℕ, ◌<◌, ◌≡◌, Some, None, get_or}
use Rattle.model.specs.Limits.{ends_most}
use Rattle.arrays.specs.declared.Oldest.{Oldest}
use Rattle.arrays.specs.declared.asked.Asked.{Asked}
use Rattle.arrays.specs.Told.{tells}
use Rattle.queues.specs.declared.queue.Queues.{Queues}
use Rattle.queues.specs.Queue.{room, flown}

-- it is told the truth, and the place is that of the first packet in the lane's queue; 0 where there is none
pub record Queueing (q : Queues) (kind a : ℕ) (r : Asked) : Type 0 where
  pub told : r.told ≡ tells (flown q) kind a
  pub at : (o : Oldest) → r.told.oldest ≡ Some o → (a < ends_most) × (r.at ≡ get_or q.first a 0) × (r.at < room)
  pub nowhere : r.told.oldest ≡ None → r.at ≡ 0
