-- A burst of the code, by the contract as the source states it (`Reads.Post`), makes a run longer by its events. Assumes nothing.
use mathlib.Core.List.{List, ◌++◌}
use contract.Lifetimes.{Lfts}
use denote.Triple.Clauses.{AtExit}
use borrow.Fn.Kinds.{Dens, ended_of}
use Rattle.model.specs.Events.{Event}
use Rattle.network.specs.declared.record.Burst.{Burst}
use Rattle.network.specs.Runs.{events_in, Run}
use Rattle.network.specs.Runs as runs
use Rattle.bursts.proofs.burst.Kinds as burst_kinds
use Rattle.bursts.proofs.burst.Reads as burst

pub burst_runs : (κs : Lfts 5) (a : Dens κs burst_kinds.ps) (r : Burst) (x : AtExit (ended_of 5 burst_kinds.ps burst_kinds.r) κs)
    → burst.Post κs a r x → (es : List Event) → Run a.0 es
    → Run r.network (es ++ events_in a.1.0.now a.1.1.0.now r.count)
burst_runs κs a r x p es h =
    runs.burst a.0 es h a.1.0.now a.1.1.0.now a.1.1.1.0.now a.1.1.1.1.0.now a.1.1.1.1.1.0.now
    x.1.1.1.0.now x.1.1.1.1.0.now x.1.1.1.1.1.0.now r p
