-- Nothing there, a number of one byte, or one whose first group goes on. Assumes nothing.
use native.Mathlib.Omega.{arith}
use mathlib.Core.Path.{sym, ◌∙◌}
use Rattle.groups.proofs.Joining.{read_past, read_one, read_more}
use Rattle.groups.proofs.read_number.Goals as goal

pub returns-in_default : goal.returns-in_default
returns-in_default c = read_past c.args.file.now _ c.in_default.ensures.lookup.3

pub returns-then-goes_on : goal.returns-then-goes_on
returns-then-goes_on c =
    let a = c.args in
    let there = c.in-Some.ensures.lookup in
    let on = sym c.goes_on.ensures ∙ c.if-goes_on.true in
    c.second_group.ensures ∙ read_more a.file.now a.at there.3.0 (there.4 (omega arith) 0) on _ c.low.ensures

pub returns : goal.returns
returns c =
    let a = c.args in
    let there = c.in-Some.ensures.lookup in
    let small = sym c.goes_on.ensures ∙ c.if-goes_on.false in
    read_one a.file.now a.at there.3.0 (there.4 (omega arith) 0) small _ c.low-2.ensures
