-- "a node joined to the destination by a path of k links that have not failed"
use Rattle.std.specs.Prelude.{ℕ, suc, ◌<◌, ◌≡◌, true}
use Rattle.model.specs.State.{opp, State, lanes, whole}

-- Any path, and either way along a link: from the node of an end x to the node of its link's other end.
pub data Joined (s : State) : ℕ → ℕ → Type 0 where
  here : Joined s s.net.destination 0
  over : (x : ℕ) {k : ℕ} → x < lanes s → whole s x ≡ true → Joined s (s.net.node (opp x)) k → Joined s (s.net.node x) (suc k)
