-- By what can be had: the kind, that it is known, the argument. Assumes nothing.
use mathlib.Core.Path.{sym, ◌∙◌}
use Rattle.entries.proofs.EventRead.{no_more, no_kind, unknown_kind, no_argument, whole}
use Rattle.entries.proofs.read_event.Goals as goal

pub returns-then-file-at : goal.returns-then-file-at
returns-then-file-at c = no_more c.args.file.now c.args.from c.if-file-at.true

pub returns-in_default : goal.returns-in_default
returns-in_default c = no_kind c.args.file.now c.args.from c.if-file-at.false c.read_number.ensures _ c.in_default.is c.spoilt.ensures

pub returns-then-not-is_kind : goal.returns-then-not-is_kind
returns-then-not-is_kind c =
    let known = sym c.is_kind.ensures ∙ c.if-not-is_kind.true in
    unknown_kind c.args.file.now c.args.from c.if-file-at.false c.read_number.ensures _
    c.in-Ok.is known c.spoilt-then-not-is_kind.ensures

pub returns-in_default-read_number : goal.returns-in_default-read_number
returns-in_default-read_number c =
    let known = sym c.is_kind.ensures ∙ c.if-not-is_kind.false in
    no_argument c.args.file.now c.args.from c.if-file-at.false c.read_number.ensures _
    c.in-Ok.is known c.read_number-2.ensures _ c.in_default-read_number.is c.spoilt-in_default-read_number.ensures

pub returns : goal.returns
returns c =
    let known = sym c.is_kind.ensures ∙ c.if-not-is_kind.false in
    whole c.args.file.now c.args.from c.if-file-at.false c.read_number.ensures _ c.in-Ok.is
    known c.read_number-2.ensures _ c.in-Ok-read_number.is
