-- The third group ends the number, and is not 0. Assumes nothing.
use native.Mathlib.Omega.{arith}
use mathlib.Core.Path.{sym, ◌∙◌}
use Rattle.groups.proofs.Joining.{group_cut, group_zero, group_pos, group_last, group_fourth, under_none, under_some, spoilt_by, had_by}
use Rattle.groups.proofs.reading.third_group.Goals as goal

pub returns-in_default : goal.returns-in_default
returns-in_default c =
    let a = c.args in
    spoilt_by a.at (under_none a.first (group_cut 0 a.file.now _ a.second c.in_default.ensures.lookup.3))

pub returns-then-goes_on : goal.returns-then-goes_on
returns-then-goes_on c =
    let a = c.args in
    let there = c.in-Some.ensures.lookup in
    let on = sym c.goes_on.ensures ∙ c.if-goes_on.true in
    spoilt_by a.at (under_none a.first (group_fourth a.file.now _ a.second there.3.0 (there.4 (omega arith) 0) on))

pub returns-then-c-eq0 : goal.returns-then-c-eq0
returns-then-c-eq0 c =
    let a = c.args in
    let there = c.in-Some.ensures.lookup in
    let small = sym c.goes_on.ensures ∙ c.if-goes_on.false in
    spoilt_by a.at (under_none a.first (group_zero 0 a.file.now _ a.second there.3.0 (there.4 (omega arith) 0) small c.if-c-eq0.true))

pub returns : goal.returns
returns c =
    let a = c.args in
    let there = c.in-Some.ensures.lookup in
    let is = there.4 (omega arith) 0 in
    let small = sym c.goes_on.ensures ∙ c.if-goes_on.false in
    let low = c.low.ensures in
    let second = group_last 0 a.file.now _ a.second there.3.0 is small (λ z. omega arith) _ low in
    let above = group_pos 0 a.file.now _ a.second there.3.0 is small (λ z. omega arith) _ low in
    had_by a.at _ _ (under_some a.first _ second (omega arith)) (omega arith)
