-- The second group ends the number, and is not 0, or goes on. Assumes nothing.
use Prim.Native.Nat.{◌+◌}
use native.Mathlib.Omega.{arith}
use mathlib.Core.Path.{sym, ap, ◌∙◌}
use Rattle.groups.proofs.Joining.{group_cut, group_zero, group_last, group_more, spoilt_by, had_by}
use Rattle.model.specs.Number.{placed}
use Rattle.groups.proofs.reading.second_group.Goals as goal

pub returns-in_default : goal.returns-in_default
returns-in_default c =
    let a = c.args in
    spoilt_by a.at (group_cut 1 a.file.now _ a.first c.in_default.ensures.lookup.3)

pub returns-then-goes_on : goal.returns-then-goes_on
returns-then-goes_on c =
    let a = c.args in
    let there = c.in-Some.ensures.lookup in
    let on = sym c.goes_on.ensures ∙ c.if-goes_on.true in
    c.third_group.ensures
    ∙ ap (placed a.at) (group_more 1 a.file.now _ a.first there.3.0 (there.4 (omega arith) 0) on _ (a.at + 2) c.low.ensures (omega arith))

pub returns-then-b-eq0 : goal.returns-then-b-eq0
returns-then-b-eq0 c =
    let a = c.args in
    let there = c.in-Some.ensures.lookup in
    let small = sym c.goes_on.ensures ∙ c.if-goes_on.false in
    spoilt_by a.at (group_zero 1 a.file.now _ a.first there.3.0 (there.4 (omega arith) 0) small c.if-b-eq0.true)

pub returns : goal.returns
returns c =
    let a = c.args in
    let there = c.in-Some.ensures.lookup in
    let small = sym c.goes_on.ensures ∙ c.if-goes_on.false in
    had_by a.at _ _
    (group_last 1 a.file.now _ a.first there.3.0 (there.4 (omega arith) 0) small c.if-b-eq0.false _ c.low-2.ensures)
    c.join.ensures
