-- What a well-formed record tells of itself, and that calls leave few packets. Assumes nothing.
use Prim.Native.Nat.{ℕ, ◌≤◌, ◌<◌}
use mathlib.Core.Path.{◌≡◌, ap, ◌∙◌}
use mathlib.Core.Bool.{true}
use mathlib.Core.List.{List}
use lib.ListN.{length}
use Rattle.model.specs.Limits.{nodes_most, flight_most}
use Rattle.model.specs.State.{State}
use Rattle.model.specs.Formed.{well_formed}
use Rattle.arrays.specs.Flight.{flying_in}
use Rattle.ways.specs.declared.chain.Threads.{Threads}
use Rattle.ways.specs.Chains.{Threaded, Chain}
use Rattle.ways.proofs.Chains.{chain_of}
use Rattle.departs.proofs.Sounds.{few_fly, joins_two}
use Rattle.network.specs.declared.record.Network.{Network}
use Rattle.network.specs.View.{view}
use Rattle.notes.specs.Bursts.{calls}
use Rattle.notes.proofs.Bursts.{calls_keep}

-- no link joins a node to itself, so the chains that are threaded are right
pub chained : (n : Network) (t : Threads) → well_formed (view n) ≡ true → Threaded n.plan t 0 → (v : ℕ) → v < nodes_most → Chain n.plan t v
chained n t e h = chain_of n.plan t h (joins_two n.plan n.arrows (flying_in n.flight n.tally.flying) n.tally e)

-- after any calls no more packets are in flight than may be
pub few_after : (s : State) (kinds arguments : List ℕ) (k : ℕ) (left : State) → well_formed s ≡ true → left ≡ calls s kinds arguments k
    → length left.flight ≤ flight_most
few_after s kinds arguments k left w e = few_fly left (ap well_formed e ∙ calls_keep s kinds arguments k ∙ w)
