use Prim.Native.Nat.{◌+◌}
use native.Mathlib.Omega.{arith}
use mathlib.Core.Path.{◌≡◌, sym, ◌∙◌}
use Rattle.std.proofs.lemmas.List.{get_or_read}
use Rattle.packets.proofs.Flights.{moved_none, moved_more}
use Rattle.packets.proofs.list.move_down.Goals as goal

pub loop-k-init : goal.loop-k-init
loop-k-init g c =
    let z : c.args.from + 0 ≡ c.args.from = omega arith in
    λ d. rw z (moved_none d c.args.from c.args.a.now)

pub loop-k-preserved : goal.loop-k-preserved
loop-k-preserved g c =
    let a = c.args in
    let h = c.loop-k in
    let is = c.index-a-from.is in
    λ d.
    moved_more d a.from (a.from + h.k) (a.from + (h.k + 1)) a.a.now h.a _
    (sym is ∙ get_or_read h.a (a.from + h.k + 1) c.index-a-from.result (omega arith) is d)
    (omega arith) (omega arith) (omega arith) (h.invariant d)

pub returns : goal.returns
returns g c =
    let h = c.loop-k in
    let e : h.k ≡ 32 = omega arith in
    rw e at h.invariant
