use Prim.Native.Nat.{◌/◌}
use native.Mathlib.Omega.{arith}
use mathlib.Core.Path.{◌≡◌}
use lib.ListN.{length, get_or}
use Rattle.arrays.specs.View.{packet_at}
use Rattle.packets.proofs.Counts.{counted_none, counted_on, counted_off}
use Rattle.packets.proofs.list.on_link.Goals as goal
use Rattle.packets.proofs.list.on_link.Goals.{then-from-l, else-from-l}

pub loop-x-init : goal.loop-x-init
loop-x-init c = (omega arith, λ number bit. counted_none c.args.l (packet_at number c.args.lanes.now bit))

pub loop-x-preserved : goal.loop-x-preserved
loop-x-preserved c =
    let a = c.args in
    let h = c.loop-x in
    elim c.if-from-l.branch [
      | then-from-l w ↦
          let on : get_or a.lanes.now h.x-index 0 / 2 ≡ a.l = omega (arith, c.from.ensures, w.if-from-l.true) in
          rw w.gone-is (
            omega arith,
            λ number bit. counted_on a.l (packet_at number a.lanes.now bit) h.gone h.x-index (h.invariant.1 number bit) on,
          )
      | else-from-l w ↦
          let other : get_or a.lanes.now h.x-index 0 / 2 ≡ a.l → ⊥ = λ e. w.if-from-l.false (omega (arith, c.from.ensures, e)) in
          rw w.gone-is (
            omega arith,
            λ number bit. counted_off a.l (packet_at number a.lanes.now bit) h.gone h.x-index (h.invariant.1 number bit) other,
          )
    ]

pub returns : goal.returns
returns c =
    let h = c.loop-x in
    let e : h.x-index ≡ length c.args.lanes.now = omega arith in
    rw e at h.invariant.1
