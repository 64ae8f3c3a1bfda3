-- A file too long, a refused header, or the drill. Assumes nothing.
use mathlib.Core.Path.{ap}
use borrow.Author.Rules.{rules}
use Rattle.entries.specs.Outcomes.{answer_in}
use Rattle.letters.proofs.Pending.{room_all, last}
use Rattle.replay.proofs.Whole.{text_put, long, no_header, header, runs}
use Rattle.replay.proofs.text.Goals as goal

pub refused-requires : goal.refused-requires
refused-requires c = room_all (long c.args.file.now c.told-out c.new-page.ensures c.if-file-gt-FILE.true)

pub returns-then-file-gt-FILE : goal.returns-then-file-gt-FILE
returns-then-file-gt-FILE c =
    let file = c.args.file.now in
    let put = last (long file c.told-out c.new-page.ensures c.if-file-gt-FILE.true) c.refused.ensures in
    text_put file c.told-out c.new-page.ensures put (search rules) c.len.ensures

pub refused-requires-in-Err : goal.refused-requires-in-Err
refused-requires-in-Err c =
    room_all
    (no_header c.args.file.now c.told-out c.new-page.ensures c.if-file-gt-FILE.false c.header_of-header.result c.header_of-header.ensures
    c.in-Err.refusal c.in-Err.is c.answer.ensures c.place.ensures)

pub returns-in-Err : goal.returns-in-Err
returns-in-Err c =
    let file = c.args.file.now in
    let left =
    no_header file c.told-out c.new-page.ensures c.if-file-gt-FILE.false c.header_of-header.result c.header_of-header.ensures
    c.in-Err.refusal c.in-Err.is c.answer.ensures c.place.ensures
    in
    text_put file c.told-out c.new-page.ensures (last left c.refused-in-Err.ensures) (search rules) c.len-in-Err.ensures

pub run-requires : goal.run-requires
run-requires c =
    let r = c.header_of-header.result in
    let post = c.header_of-header.ensures in
    runs c.args.file.now c.told-out c.new-page.ensures c.if-file-gt-FILE.false r post (ap answer_in c.in_default.is)

pub returns : goal.returns
returns c =
    let file = c.args.file.now in
    let post = c.header_of-header.ensures in
    let left = header file c.told-out c.new-page.ensures c.if-file-gt-FILE.false c.header_of-header.result post (ap answer_in c.in_default.is) in
    text_put file c.told-out c.new-page.ensures (last left c.run.ensures) (search rules) c.len-2.ensures
