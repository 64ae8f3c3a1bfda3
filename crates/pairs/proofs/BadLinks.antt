-- The first bad link of a list. Assumes nothing.
use Rattle.std.proofs.Common.{ℕ, ◌+◌, ◌-◌, ◌*◌, ◌≡◌, Bool, not, List, add-zero}
use Rattle.model.specs.Below.{first}
use Rattle.model.specs.State.{end}
use Rattle.model.specs.Formed.{joins}
use Rattle.model.specs.Opening.{node_in, links_in, first_bad_link}
use Rattle.arrays.proofs.Searches.{first_start}

module _ (nodes : ℕ) (list : List ℕ) where
  abbrev pub bad_link_at : ℕ → Bool
  bad_link_at l = not (joins nodes (node_in list (end l 0)) (node_in list (end l 1)))

  pub bad_start : first_bad_link nodes list ≡ first bad_link_at 0 (links_in list - 0)
  unfolding first_bad_link
  bad_start = first_start bad_link_at (links_in list)

  pub bad_is : (l : ℕ) (r : Bool) → r ≡ joins nodes (node_in list (2 * l)) (node_in list (2 * l + 1)) → bad_link_at l ≡ not r
  bad_is l r q = rw (add-zero (2 * l), q)
