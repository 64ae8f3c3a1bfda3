-- Answers 2, 3 and 4 in their order, and then the record. Assumes nothing.
use Prim.Native.Nat.{ℕ, ◌<◌}
use native.Mathlib.Omega.{arith}
use mathlib.Core.Path.{sym, ◌∙◌}
use Rattle.model.specs.Opening.{node_in}
use Rattle.network.proofs.Openings.{Sizes, sizes, all_named, open_sizes, open_link, open_ring, open_done}
use mathlib.Core.Path.{ap}
use mathlib.Core.Bool.{not}
use Rattle.network.proofs.open.Goals as goal
use Rattle.network.proofs.open.Goals.{Else-bad-list, Else-not-sizes_hold}

-- what the tests give to the calls after them
sized_by : (c : goal.Else-not-sizes_hold) → let a = c.args in Sizes a.nodes a.destination a.list.now
sized_by c =
    let a = c.args in
    sizes a.nodes a.destination a.list.now (sym c.sizes_hold.ensures ∙ c.if-not-sizes_hold.false)

named_by : (c : goal.Else-bad-list) → let a = c.args in (x : ℕ) → node_in a.list.now x < a.nodes
named_by c =
    let a = c.args in
    all_named a.nodes a.destination a.list.now (sizes a.nodes a.destination a.list.now (sym c.sizes_hold.ensures ∙ c.if-not-sizes_hold.false)) _ c.first_bad-bad.ensures c.if-bad-list.false

pub returns-then-not-sizes_hold : goal.returns-then-not-sizes_hold
returns-then-not-sizes_hold c =
    let a = c.args in
    open_sizes a.nodes a.destination a.list.now _ c.sizes_hold.ensures _ c.refused.ensures (ap not c.if-not-sizes_hold.true)

pub overflow_cast-nodes : goal.overflow_cast-nodes
overflow_cast-nodes c = let z = sized_by (goal.at.overflow_cast-nodes c).Else-not-sizes_hold in omega arith

pub returns-then-bad-list : goal.returns-then-bad-list
returns-then-bad-list c =
    let a = c.args in
    open_link a.nodes a.destination a.list.now _ c.sizes_hold.ensures (ap not c.if-not-sizes_hold.false) _ c.first_bad-bad.ensures _
    c.refused-then-bad-list.ensures c.if-bad-list.true

pub closed_walk-requires : goal.closed_walk-requires
closed_walk-requires c =
    ((sized_by (goal.at.closed_walk-requires c).Else-not-sizes_hold).nodes_fit, named_by (goal.at.closed_walk-requires c).Else-bad-list)

pub returns-then-closed_walk : goal.returns-then-closed_walk
returns-then-closed_walk c =
    let a = c.args in
    open_ring a.nodes a.destination a.list.now _ c.sizes_hold.ensures (ap not c.if-not-sizes_hold.false) _ c.first_bad-bad.ensures
    c.if-bad-list.false _ c.closed_walk.ensures _ c.refused-then-closed_walk.ensures c.if-closed_walk.true

pub filled-network-requires : goal.filled-network-requires
filled-network-requires c =
    let z = sized_by (goal.at.filled-network-requires c).Else-not-sizes_hold in
    let n = named_by (goal.at.filled-network-requires c).Else-bad-list in
    (z.even, z.links_fit, λ x. omega (arith, n x))

pub returns : goal.returns
returns c =
    let a = c.args in
    open_done a.nodes a.destination a.list.now _ c.sizes_hold.ensures (ap not c.if-not-sizes_hold.false) _ c.first_bad-bad.ensures
    c.if-bad-list.false _ c.closed_walk.ensures c.filled-network.result c.filled-network.ensures c.if-closed_walk.false
