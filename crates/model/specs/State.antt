-- "What the record holds", as its readers see it.
use Rattle.std.specs.Prelude.{ℕ, ◌+◌, ◌-◌, ◌*◌, ◌/◌, ◌%◌, Bool, ◌&&◌, List}

-- "Link l has end 0 (the node named first) and end 1. .. Lane 2l+e carries packets sent from end e."
-- So end e of link l is the number 2l+e, the same as its lane.
abbrev pub end : ℕ → ℕ → ℕ
end l e = 2 * l + e

abbrev pub link_of : ℕ → ℕ
link_of x = x / 2

abbrev pub side : ℕ → ℕ
side x = x % 2

-- the other end of the same link
unfoldable pub opp : ℕ → ℕ
opp x = (x + 1) - 2 * side x

-- What an opening fixes: how many nodes and links, the destination, and by end its node.
pub record Net : Type 0 where
  pub nodes : ℕ
  pub destination : ℕ
  pub links : ℕ
  pub node : ℕ → ℕ

-- "For each end: direction, local bit, remote bit, mark (membership in the paper's to_reverse)." Out is true, and a bit of 1.
pub record Ends : Type 0 where
  pub out : ℕ → Bool
  pub local : ℕ → Bool
  pub remote : ℕ → Bool
  pub mark : ℕ → Bool

-- "The packets in flight, .. each with number, lane and bit."
pub record Packet : Type 0 where
  pub number : ℕ
  pub lane : ℕ
  pub bit : Bool

-- "Counts: events, admitted, delivered, lost, stranded."
pub record Counts : Type 0 where
  pub events : ℕ
  pub admitted : ℕ
  pub delivered : ℕ
  pub lost : ℕ
  pub stranded : ℕ

-- "For each link: two nodes, and whether it is live. For each end: direction, local bit, remote bit, mark. For each node: its turns.
-- The packets in flight, oldest sent first".
-- "Entries past those used may hold anything and are no part of the record; two records are equal when the rest agrees": the functions
-- give 0 and false there, so two records are equal when their states are.
pub record State : Type 0 where
  pub net : Net
  pub up : ℕ → Bool
  pub ends : Ends
  pub turns : ℕ → ℕ
  pub flight : List Packet
  pub counts : Counts

abbrev pub lanes : State → ℕ
lanes s = 2 * s.net.links

-- end x still has its link
abbrev pub live : State → ℕ → Bool
live s x = s.up (link_of x)

-- neither end of the link of x has lost it
unfoldable pub whole : State → ℕ → Bool
whole s x = live s x && live s (opp x)
