-- By the kind of the event: nothing goes, those on the link go, or the oldest of the lane. Assumes nothing.
use native.Mathlib.Omega.{arith}
use mathlib.Core.Path.{◌∙◌}
use Rattle.arrays.specs.Flight.{flying_in}
use Rattle.arrays.proofs.Leaving.{left_send, left_off, left_less, left_none}
use Rattle.listed.proofs.Listing.{rest_there}
use Rattle.listed.proofs.drop_out.Goals as goal

pub returns-then-kind-eq-SEND : goal.returns-then-kind-eq-SEND
returns-then-kind-eq-SEND c =
    let a = c.args in
    (left_send a.kind a.argument (flying_in a.flight.now a.flying) c.if-kind-eq-SEND.true, omega arith)

pub returns-then-kind-eq-FAIL : goal.returns-then-kind-eq-FAIL
returns-then-kind-eq-FAIL c =
    let a = c.args in
    let e = c.keep_off.ensures in
    (e.packets ∙ left_off a.kind a.argument (flying_in a.flight.now a.flying) c.if-kind-eq-SEND.false c.if-kind-eq-FAIL.true, e.within)

pub overflow_sub-rest : goal.overflow_sub-rest
overflow_sub-rest c = omega (arith, (c.requires.1.at _ c.in-Some.is).2)

pub take_out-requires : goal.take_out-requires
take_out-requires c = let t = c.requires.1.at _ c.in-Some.is in (omega (arith, t.2), omega (arith, t.2))

pub returns-in-Some : goal.returns-in-Some
returns-in-Some c =
    let a = c.args in
    let t = c.requires.1.at _ c.in-Some.is in
    let e = c.take_out.ensures in (
      rest_there a.argument a.flying t.1 t.2 (omega (arith, t.2)) (e.number, e.lane, e.bit)
          ∙ left_less a.kind a.argument (flying_in a.flight.now a.flying) c.if-kind-eq-SEND.false c.if-kind-eq-FAIL.false,
      omega arith,
    )

pub returns-in-None : goal.returns-in-None
returns-in-None c =
    let a = c.args in (
      left_none a.kind a.argument (flying_in a.flight.now a.flying) c.if-kind-eq-SEND.false c.if-kind-eq-FAIL.false a.asked.told c.requires.1.told c.in-None.is,
      omega arith,
    )
