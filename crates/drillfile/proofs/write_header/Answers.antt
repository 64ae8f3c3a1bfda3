-- The opening's refusals, then 12, then the sizes and the list one behind the other. Assumes nothing.
use native.Mathlib.Omega.{arith}
use mathlib.Core.Path.{sym, ap, ◌∙◌}
use Rattle.std.proofs.lemmas.Result.{err_from_is_err_and}
use Rattle.entries.specs.Outcomes.{answer_of, place_of}
use Rattle.drillfile.proofs.HeaderWritten.{not_opened, small_sizes, sizes_fit, list_fits, count_fits, too_short, all_written}
use Rattle.drillfile.proofs.HeaderRead.{opening_answers}
use Rattle.drillfile.proofs.write_header.Goals as goal

pub outcome-requires : goal.outcome-requires
outcome-requires c = opening_answers c.args.nodes c.args.destination c.args.list.now _ c.open-opened.ensures

pub returns-in_err-outcome : goal.returns-in_err-outcome
returns-in_err-outcome c =
    let a = c.args in
    let refused = err_from_is_err_and c.from_residual.result c.from_residual.ensures.1 in
    let same = refused.2 in
    let told = c.in_err-outcome.ensures in
    rw refused.1
    (not_opened a.nodes a.destination a.list.now _ c.open-opened.ensures a.out.now refused.0
    (ap answer_of same ∙ told.0) (ap place_of same ∙ told.1))

pub overflow_cast-sizes : goal.overflow_cast-sizes
overflow_cast-sizes c =
    let small = small_sizes c.args.nodes c.args.destination c.args.list.now _ c.open-opened.ensures
    (sym c.in_ok-outcome.ensures.0) in
    record { fits = omega (arith, small.0) }

pub overflow_cast-sizes-2 : goal.overflow_cast-sizes-2
overflow_cast-sizes-2 c =
    let small = small_sizes c.args.nodes c.args.destination c.args.list.now _ c.open-opened.ensures
    (sym c.in_ok-outcome.ensures.0) in
    record { fits = omega (arith, small.0, small.1) }

pub overflow_cast-sizes-3 : goal.overflow_cast-sizes-3
overflow_cast-sizes-3 c =
    let small = small_sizes c.args.nodes c.args.destination c.args.list.now _ c.open-opened.ensures
    (sym c.in_ok-outcome.ensures.0) in
    record { fits = omega (arith, small.2) }

pub total_width-first-requires : goal.total_width-first-requires
total_width-first-requires c =
    sizes_fit c.args.nodes c.args.destination c.args.list.now _ c.open-opened.ensures (sym c.in_ok-outcome.ensures.0)

pub total_width-requires : goal.total_width-requires
total_width-requires c =
    list_fits c.args.nodes c.args.destination c.args.list.now _ c.open-opened.ensures (sym c.in_ok-outcome.ensures.0)

pub overflow_add-count : goal.overflow_add-count
overflow_add-count c =
    let fits = count_fits c.args.nodes c.args.destination c.args.list.now _ c.open-opened.ensures
    (sym c.in_ok-outcome.ensures.0) _ _ c.total_width-first.ensures c.total_width.ensures in
    record { fits = fits }

pub returns-then-out-count : goal.returns-then-out-count
returns-then-out-count c =
    too_short c.args.nodes c.args.destination c.args.list.now _ c.open-opened.ensures (sym c.in_ok-outcome.ensures.0)
    c.args.out.now c.total_width-first.ensures c.total_width.ensures c.if-out-count.true

pub put_numbers-requires : goal.put_numbers-requires
put_numbers-requires c =
    let fit = sizes_fit c.args.nodes c.args.destination c.args.list.now _ c.open-opened.ensures
    (sym c.in_ok-outcome.ensures.0) in
    (omega (arith, c.total_width-first.ensures, c.total_width.ensures, c.if-out-count.false), fit)

pub put_numbers-requires-2 : goal.put_numbers-requires-2
put_numbers-requires-2 c =
    let fit = list_fits c.args.nodes c.args.destination c.args.list.now _ c.open-opened.ensures
    (sym c.in_ok-outcome.ensures.0) in
    (omega (arith, c.total_width.ensures, c.if-out-count.false, c.put_numbers.auto.out), fit)

pub returns : goal.returns
returns c =
    all_written c.args.nodes c.args.destination c.args.list.now _ c.open-opened.ensures (sym c.in_ok-outcome.ensures.0)
    c.args.out.now c.total_width-first.ensures c.total_width.ensures c.if-out-count.false
    c.put_numbers.ensures.1 c.put_numbers-2.ensures.1
