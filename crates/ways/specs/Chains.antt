-- The links of each node in a chain.
use Rattle.std.specs.Prelude.{ℕ, ◌+◌, ◌*◌, ◌/◌, ◌≤◌, ◌<◌, ◌≡◌, true, false, eqb, length, get_or}
use Rattle.model.specs.Limits.{nodes_most, ends_most}
use Rattle.arrays.specs.declared.record.Plan.{Plan}
use Rattle.arrays.specs.View.{link_at, end_at, link_from}
use Rattle.ways.specs.declared.chain.Threads.{Threads}

-- the links from l on in chains, one for each node: its first link, and at each of its ends the next one; 0 past the ends
pub record Threaded (p : Plan) (t : Threads) (l : ℕ) : Type 0 where
  pub heads_long : length t.heads ≡ nodes_most
  pub next_long : length t.next ≡ ends_most
  pub begins : (v : ℕ) → v < nodes_most → get_or t.heads v 0 ≡ link_from p v l
  pub goes : (x : ℕ) → 2 * l ≤ x → x < 2 * p.links → get_or t.next x 0 ≡ link_from p (get_or p.node x 0) (x / 2 + 1)
  pub rest : (x : ℕ) → 2 * p.links ≤ x → x < ends_most → get_or t.next x 0 ≡ 0

-- the links of node v in a chain: the first, and after each the next; none has both its ends there
pub record Chain (p : Plan) (t : Threads) (v : ℕ) : Type 0 where
  pub begins : get_or t.heads v 0 ≡ link_from p v 0
  pub goes : (l : ℕ) → l < p.links → link_at p.node v l ≡ true → get_or t.next (end_at p.node v l) 0 ≡ link_from p v (l + 1)
  pub apart : (l : ℕ) → l < p.links → eqb (get_or p.node (2 * l) 0) v ≡ true → eqb (get_or p.node (2 * l + 1) 0) v ≡ false
