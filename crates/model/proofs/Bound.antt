-- Demand 3: a node has turned at most as often as it has links to the destination, on any path. Assumes nothing.
use Prim.Native.Nat.{ℕ, ◌≤◌}
use native.Mathlib.Omega.{arith}
use Rattle.model.specs.State.{opp, State}
use Rattle.model.specs.Paths.{Joined, here, over}
use Rattle.model.specs.Promises.{TurnsBounded}
use Rattle.model.proofs.Link.{Mode, partial, level}
use Rattle.model.proofs.Invariant.{at, Invariant}
use Rattle.model.proofs.History.{Good, good}

module _ (mode : Mode) (s : State) (height : ℕ → ℕ) (inv : Invariant mode s height) where
  low : {v k : ℕ} → Joined s v k → height v ≤ k
  low here = omega (arith, inv.home)
  low (over x i w j) = omega (arith, low j, level mode (at s height x) (at s height (opp x)) (inv.linked x i w))

pub bound : TurnsBounded
bound s h v k j =
    let g : Good partial s = good h in
    omega (arith, g.1.enough v, low partial s g.0 g.1 j)
