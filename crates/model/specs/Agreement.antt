-- How the two ends of a whole link stand to each other: their local and remote bits, and the packets between them.
use Rattle.std.specs.Prelude.{ℕ, ◌≡◌, Bool, not, List, ◌++◌, map, replicate}
use Rattle.model.specs.State.{State}
use Rattle.model.specs.Lanes.{on_lane}

-- the bits on lane x, oldest sent first
unfoldable pub bits_on : State → ℕ → List Bool
bits_on s x = map (λ p. p.bit) (on_lane x s.flight)

-- every bit is b, however many there are
abbrev pub AllAre : Bool → List Bool → Type 0
AllAre b bits = (i : ℕ) × (bits ≡ replicate i b)

-- old bits and then new ones; either run may be empty
abbrev pub OldThenNew : Bool → Bool → List Bool → Type 0
OldThenNew old new bits = (i : ℕ) × (j : ℕ) × (bits ≡ replicate i old ++ replicate j new)

-- ends x and y agree: each local bit is the other's remote bit, and a packet carries its receiver's remote bit
pub record Agree (s : State) (x y : ℕ) : Type 0 where
  pub mine : s.ends.local x ≡ s.ends.remote y
  pub yours : s.ends.local y ≡ s.ends.remote x
  pub from_me : AllAre (s.ends.remote y) (bits_on s x)
  pub from_you : AllAre (s.ends.remote x) (bits_on s y)

-- end x has turned and y has yet to hear of it: x's local bit is not y's remote bit, and is what x's newest packets carry
pub record Untold (s : State) (x y : ℕ) : Type 0 where
  pub mine : s.ends.local x ≡ not (s.ends.remote y)
  pub yours : s.ends.local y ≡ s.ends.remote x
  pub from_me : OldThenNew (s.ends.remote y) (s.ends.local x) (bits_on s x)
  pub from_you : AllAre (s.ends.remote x) (bits_on s y)
