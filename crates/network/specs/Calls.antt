-- The contracts of a call and of a burst.
use Rattle.std.specs.Prelude.{ℕ, ◌<◌, List, ◌≡◌}
use Rattle.model.specs.Answers as answers
use Rattle.model.specs.Outcome.{Outcome}
use Rattle.notes.specs.Bursts.{calls, call_at, Lists, shortest}
use Rattle.network.specs.declared.record.Network.{Network}
use Rattle.network.specs.declared.record.Moved.{Moved}
use Rattle.network.specs.declared.record.Burst.{Burst}
use Rattle.network.specs.View.{view}

abbrev pub seen : Moved → Outcome
seen r = record { state = view r.network; answer = r.answer; handled = r.handled; went = r.went }

-- the contract of a call on a record, beside what the call is to give
pub record CallPost (n : Network) (o : Outcome) (r : Moved) : Type 0 where
  -- the answer, the packet, where it went, and the state that a reader sees
  pub outcome : seen r ≡ o
  -- a refused call hands back the record itself, to its last entry
  pub unchanged : (r.answer ≡ answers.done → ⊥) → r.network ≡ n

-- ---- a burst: calls one after the other, what each gives as numbers in three lists
pub record BurstPost (n : Network) (kinds arguments answered packets ways answered' packets' ways' : List ℕ) (r : Burst) : Type 0 where
  pub made : r.count ≡ shortest kinds arguments answered packets ways
  -- what a reader sees, and what each call gave, is as if the calls were made one by one
  pub outcome : view r.network ≡ calls (view n) kinds arguments r.count
  pub given : Lists (view n) kinds arguments r.count answered packets ways answered' packets' ways'
  -- a burst whose every call is refused hands back the record itself, to its last entry
  pub unchanged : ((i : ℕ) → i < r.count → (call_at (view n) kinds arguments i).answer ≡ answers.done → ⊥) → r.network ≡ n
