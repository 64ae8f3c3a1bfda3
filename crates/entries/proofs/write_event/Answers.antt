-- 6, then 12, then the two numbers one behind the other. Assumes nothing.
use native.Mathlib.Omega.{arith}
use mathlib.Core.Path.{sym, ◌∙◌}
use Rattle.entries.proofs.KnownKinds.{known_small}
use Rattle.model.proofs.Numbers.{number_short}
use Rattle.entries.proofs.EventWritten.{unknown, too_large, too_short, done}
use Rattle.entries.proofs.write_event.Goals as goal

pub returns-then-not-is_kind : goal.returns-then-not-is_kind
returns-then-not-is_kind c =
    unknown c.args.kind c.args.argument c.args.out.now
    (sym c.is_kind.ensures ∙ c.if-not-is_kind.true)

pub returns-then-argument-gt-NUMBER : goal.returns-then-argument-gt-NUMBER
returns-then-argument-gt-NUMBER c =
    too_large c.args.kind c.args.argument c.args.out.now
    (sym c.is_kind.ensures ∙ c.if-not-is_kind.false) c.if-argument-gt-NUMBER.true

pub width-first-requires : goal.width-first-requires
width-first-requires c = known_small c.args.kind (sym c.is_kind.ensures ∙ c.if-not-is_kind.false)

pub overflow_add-count : goal.overflow_add-count
overflow_add-count c =
    let short = number_short c.args.kind in
    let short2 = number_short c.args.argument in
    record { fits = omega (arith, c.width-first.ensures, c.width.ensures) }

pub returns-then-out-count : goal.returns-then-out-count
returns-then-out-count c =
    too_short c.args.kind c.args.argument c.args.out.now
    (sym c.is_kind.ensures ∙ c.if-not-is_kind.false) (omega arith) c.width-first.ensures
    c.width.ensures c.if-out-count.true

pub put_number-requires : goal.put_number-requires
put_number-requires c =
    let small = known_small c.args.kind (sym c.is_kind.ensures ∙ c.if-not-is_kind.false) in
    (small, omega (arith, c.width-first.ensures, c.width.ensures, c.if-out-count.false))

pub returns : goal.returns
returns c =
    done c.args.kind c.args.argument c.args.out.now
    (sym c.is_kind.ensures ∙ c.if-not-is_kind.false) (omega arith) c.width-first.ensures
    c.width.ensures c.if-out-count.false c.put_number.ensures.1 c.put_number-2.ensures.1
