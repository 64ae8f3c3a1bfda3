use Prim.Native.Nat.{suc, ◌-◌}
use native.Mathlib.Omega.{arith}
use mathlib.Core.Path.{◌≡◌, sym, ap, ◌∙◌}
use lib.ListN.{get_or}
use Rattle.slots.proofs.Threads.{Threading, threading_on, threading_first, idle_first, idle_on}
use Rattle.slots.proofs.thread_lanes.Goals as goal
use Rattle.slots.proofs.thread_lanes.Goals.{then-from-eq-ROOM, else-from-eq-ROOM}

pub loop-i-preserved : goal.loop-i-preserved
loop-i-preserved c =
    let s = c.args.queues.now in
    let h = c.loop-i in
    let q = h.queues in
    let g = h.invariant.2 in
    let p = c.requires in
    let i = h.i - 1 in
    let on : suc i ≡ h.i = omega arith in
    let t : Threading s.lane s.used (suc i) q.first q.last q.after = rw on h.invariant.0 in
    let b = p.1 i (omega arith) in
    let v : c.from-x.result ≡ get_or s.lane i 0 = c.from-x.ensures ∙ ap (λ lane. get_or lane i 0) g.lane in
    elim c.if-from-eq-ROOM.branch [
      | then-from-eq-ROOM w ↦
          rw (w.queues-is, v) (
            threading_first s.lane s.used p.0 i q.first q.last q.after t (omega arith) b (rw v at (sym c.from.ensures ∙ w.if-from-eq-ROOM.true)),
            idle_first s.lane s.used p.0 i q.first q.last q.after t (omega arith) b h.invariant.1,
            record { number = g.number; lane = g.lane; bit = g.bit; used = g.used },
          )
      | else-from-eq-ROOM w ↦
          rw (w.queues-is, v) (
            threading_on s.lane s.used p.0 i q.first q.last q.after t (omega arith) b (λ e. w.if-from-eq-ROOM.false (c.from.ensures ∙ rw v e)),
            idle_on s.lane s.used p.0 i q.first q.last q.after t (omega arith) b h.invariant.1,
            record { number = g.number; lane = g.lane; bit = g.bit; used = g.used },
          )
    ]
