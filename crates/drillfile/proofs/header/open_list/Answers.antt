-- The opening is refused, or gives the record. Assumes nothing.
use mathlib.Core.Path.{sym, ap, ◌∙◌}
use Rattle.entries.specs.Outcomes.{answer_in, place_in}
use Rattle.drillfile.proofs.HeaderRead.{opening_answers, not_opened, opens_it}
use Rattle.drillfile.proofs.header.open_list.Goals as goal

pub outcome-requires : goal.outcome-requires
outcome-requires c = opening_answers c.args.sizes.nodes c.args.sizes.destination c.args.list.now _ c.open-opened.ensures

pub returns-in-Err : goal.returns-in-Err
returns-in-Err c =
    not_opened c.args.sizes.nodes c.args.sizes.destination c.args.list.now c.args.next c.args.from _ c.open-opened.ensures _
    (sym (ap answer_in c.in-Err.is) ∙ c.outcome.ensures.0) (sym (ap place_in c.in-Err.is) ∙ c.outcome.ensures.1)

pub returns : goal.returns
returns c =
    opens_it c.args.sizes.nodes c.args.sizes.destination c.args.list.now c.args.next c.args.from _
    c.open-opened.ensures _ (sym c.outcome.ensures.0 ∙ ap answer_in c.in_default.is)
