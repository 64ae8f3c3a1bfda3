-- The next slot of the lane becomes its first, and the slot empty. Assumes nothing.
use native.Mathlib.Omega.{arith}
use Rattle.queues.proofs.Takes.{queued_taken, flown_taken}
use Rattle.queues.proofs.queue.Queues.take.Goals as goal

pub returns-clause-queued : goal.returns-clause-queued
returns-clause-queued c =
    let a = c.args in
    let s = a.self.now in
    let p = c.requires in
    λ q e. (
      queued_taken s.lane s.first s.last s.after s.used q a.i a.x p.1 e p.0 (omega arith),
      flown_taken s.lane s.first s.last s.after s.used q a.i a.x p.1 e p.0 (omega arith) s.number s.bit,
    )
