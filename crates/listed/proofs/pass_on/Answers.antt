-- One packet is put in where it left by a lane; else all stays. Assumes nothing.
use Prim.Native.Nat.{◌<◌}
use native.Mathlib.Omega.{arith}
use mathlib.Core.Path.{◌∙◌}
use Rattle.model.specs.Limits.{ends_most}
use Rattle.arrays.specs.Flight.{flying_in}
use Rattle.arrays.proofs.Leaving.{passed_lane, passed_nothing, passed_none}
use borrow.Author.Rules.{rules}
use Rattle.listed.proofs.pass_on.Goals as goal

pub bounds-arrows-x : goal.bounds-arrows-x
bounds-arrows-x c =
    let e : c.in-Lane.x < ends_most = (c.requires _ _ c.in-Packet.is c.in-Lane.is).0 in
    e

pub put-requires : goal.put-requires
put-requires c =
    let e = c.requires _ _ c.in-Packet.is c.in-Lane.is in
    (e.1, e.0)

pub overflow_add-result : goal.overflow_add-result
overflow_add-result c =
    let e = c.requires _ _ c.in-Packet.is c.in-Lane.is in
    search rules

pub returns-in-Lane-clause-packets : goal.returns-in-Lane-clause-packets
returns-in-Lane-clause-packets c =
    let a = c.args in
    c.put.ensures.packets ∙ passed_lane a.arrows.now.local (flying_in a.flight.now a.flying) _ _ a.handled a.went c.in-Packet.is c.in-Lane.is

pub returns-in_default-clause-packets : goal.returns-in_default-clause-packets
returns-in_default-clause-packets c =
    let a = c.args in
    passed_none a.arrows.now.local (flying_in a.flight.now a.flying) a.handled a.went c.in_default.not-Lane

pub returns-in-Nothing-clause-packets : goal.returns-in-Nothing-clause-packets
returns-in-Nothing-clause-packets c =
    let a = c.args in
    passed_nothing a.arrows.now.local (flying_in a.flight.now a.flying) a.handled a.went c.in-Nothing.is

pub returns-in_default-clause-long : goal.returns-in_default-clause-long
returns-in_default-clause-long c = record { number_long = omega arith; lane_long = omega arith; bit_long = omega arith }

pub returns-in-Nothing-clause-long : goal.returns-in-Nothing-clause-long
returns-in-Nothing-clause-long c = record { number_long = omega arith; lane_long = omega arith; bit_long = omega arith }
