use Prim.Native.Nat.{◌+◌}
use native.Mathlib.Omega.{arith}
use Rattle.packets.proofs.Flights.{moved_none, moved_on, removed_all}
use Rattle.packets.proofs.list.remove.Goals as goal

pub loop-j-init : goal.loop-j-init
loop-j-init g c = λ d. moved_none d c.args.i c.args.a.now

pub loop-j-preserved : goal.loop-j-preserved
loop-j-preserved g c =
    let a = c.args in
    let h = c.loop-j in
    λ d. moved_on d a.i h.j 32 a.a.now h.a _ (omega arith) (h.invariant d) (c.move_down.ensures d)

pub returns : goal.returns
returns g c =
    let a = c.args in
    let h = c.loop-j in
    λ d. removed_all d a.i h.j a.last a.a.now h.a (omega arith) (h.invariant d)

pub returns-2 : goal.returns-2
returns-2 g c =
    let a = c.args in
    let h = c.loop-j in
    λ d.
    removed_all d a.i (h.j + 32) a.last a.a.now _ (omega arith)
    (moved_on d a.i h.j 32 a.a.now h.a _ (omega arith) (h.invariant d) (c.move_down.ensures d))
