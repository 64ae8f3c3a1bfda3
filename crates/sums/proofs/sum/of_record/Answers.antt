-- The four points, one after the other. Assumes nothing.
use Prim.Native.Nat.{min}
use mathlib.Core.List.{◌++◌}
use Rattle.model.specs.Limits.{nodes_most, links_most, flight_most}
use Rattle.sums.specs.Sums.{each, counts_in, link_at, turns_at, packet_at, of_record}
use Rattle.sums.proofs.Sums.{sum_then}
use Rattle.sums.proofs.sum.of_record.Goals as goal

pub returns : goal.returns
unfolding of_record
returns c =
    let n = c.args.n in
    let links = each (link_at n.plan n.arrows) (min n.plan.links links_most) in
    let turns = each (turns_at n.arrows) (min n.plan.nodes nodes_most) in
    let packets = each (packet_at n.flight) (min n.tally.flying flight_most) in
    let e = sum_then 1 (counts_in n) links _ _ c.of_counts-a.ensures c.of_links-b.ensures in
    let e' = sum_then 1 (counts_in n ++ links) turns _ _ e c.of_turns-c.ensures in
    sum_then 1 (counts_in n ++ links ++ turns) packets _ _ e' c.of_packets.ensures
