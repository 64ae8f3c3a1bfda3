use native.Mathlib.Omega.{arith}
use mathlib.Core.Path.{sym, ap, ◌∙◌}
use mathlib.Core.Bool.{false, not}
use lib.Dec.{eqb}
use lib.ListN.{get_or}
use lib.Seq.{length-take-le}
use borrow.Author.Tests.{eq-eqb, ne_eqb}
use Rattle.std.proofs.lemmas.List.{get_or-take}
use Rattle.model.proofs.Below.{any_here}
use Rattle.arrays.proofs.Searches.{any_none, any_more}
use Rattle.arrays.proofs.Loops.{any_end}
use Rattle.notes.proofs.all_refused.Goals as goal

pub loop-answer-init : goal.loop-answer-init
loop-answer-init c = sym (any_none _)

pub returns-then-answer-eq0 : goal.returns-then-answer-eq0
returns-then-answer-eq0 c =
    let h = c.loop-answer in
    let a = c.args in
    let long = length-take-le a.count a.answers.now c.requires in
    let here = get_or-take a.count a.answers.now h.answer-index 0 (omega arith) in
    sym (ap not (any_here (λ j. eqb (get_or a.answers.now j 0) 0) a.count h.answer-index (omega arith) (eq-eqb (get_or a.answers.now h.answer-index 0) 0 (omega arith))))

pub loop-answer-preserved : goal.loop-answer-preserved
loop-answer-preserved c =
    let h = c.loop-answer in
    let a = c.args in
    let long = length-take-le a.count a.answers.now c.requires in
    let here = get_or-take a.count a.answers.now h.answer-index 0 (omega arith) in
    any_more (λ j. eqb (get_or a.answers.now j 0) 0) h.answer-index {some = false} {here = false} h.invariant (sym (ne_eqb (get_or a.answers.now h.answer-index 0) 0 (λ z. omega arith)))

pub returns : goal.returns
returns c =
    let h = c.loop-answer in
    let long = length-take-le c.args.count c.args.answers.now c.requires in
    ap not (any_end _ h.answer-index c.args.count h.invariant (omega arith) (omega arith))
