-- Some link so far joins a node to itself, or none. Assumes nothing.
use Rattle.std.proofs.Common.{◌≡◌, ◌+◌, ◌*◌, eqb, get_or}
use Rattle.model.specs.Below.{any}
use Rattle.over.proofs.self_linked.Given as goal

abbrev pub invariant-loop-l : goal.invariant-loop-l
invariant-loop-l l = l.bad ≡ any (λ k. eqb (get_or l.node (2 * k) 0) (get_or l.node (2 * k + 1) 0)) l.l
