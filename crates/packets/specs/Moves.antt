-- What moving packets leaves in their arrays, which are as long as they were; the place of the oldest of a lane.
use Rattle.std.specs.Prelude.{ℕ, suc, ◌≤◌, ◌<◌, ◌≡◌, Bool, false, cond, ◌||◌, Some, None, List, ltb, leb, eqb, length, get_or}
use Rattle.std.specs.declared.option.Option.{Option}
use Rattle.model.specs.Below.{first}
use Rattle.arrays.specs.declared.record.Flight.{Flight}

-- the entries from one place up to another are those that stood one place on; the others stay
pub record Moved {A : Type 0} (d : A) (from to : ℕ) (old new : List A) : Type 0 where
  pub entry : (k : ℕ) → get_or new k d ≡ cond (ltb k from || leb to k) (get_or old k d) (get_or old (suc k) d)
  pub long : length new ≡ length old

-- the entry at i is out, up to `last`
pub record Removed {A : Type 0} (d : A) (i last : ℕ) (old new : List A) : Type 0 where
  pub entry : (k : ℕ) → k < last → get_or new k d ≡ cond (ltb k i) (get_or old k d) (get_or old (suc k) d)
  pub long : length new ≡ length old

-- the slots from k on stay as they were
pub record Stay (k : ℕ) (number lane : List ℕ) (bit : List Bool) (number' lane' : List ℕ) (bit' : List Bool) : Type 0 where
  pub numbers : (j : ℕ) → k ≤ j → get_or number' j 0 ≡ get_or number j 0
  pub lanes : (j : ℕ) → k ≤ j → get_or lane' j 0 ≡ get_or lane j 0
  pub bits : (j : ℕ) → k ≤ j → get_or bit' j false ≡ get_or bit j false

abbrev pub Stays : ℕ → Flight → Flight → Type 0
Stays k old new = Stay k old.number old.lane old.bit new.number new.lane new.bit

-- the place of the oldest packet of a lane, or the number in flight
abbrev pub oldest_at : List ℕ → ℕ → ℕ → ℕ
oldest_at lane flying x = first (λ i. eqb (get_or lane i 0) x) 0 flying

-- a place that is in use, or none
abbrev pub in_use : ℕ → ℕ → Option ℕ
in_use flying i = cond (ltb i flying) (Some i) None

abbrev pub oldest_of : List ℕ → ℕ → ℕ → Option ℕ
oldest_of lane flying x = in_use flying (oldest_at lane flying x)
