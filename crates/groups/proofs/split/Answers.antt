-- A number over the largest has no bytes; of another they are the shortest. Assumes nothing.
use mathlib.Core.Path.{ap}
use mathlib.Core.Option.{some}
use borrow.Author.Tests.{le-leb, lt-leb}
use Rattle.model.specs.Limits.{number_most}
use Rattle.groups.specs.Numbers.{write_number}
use Rattle.groups.proofs.split.Goals as goal

pub returns-then-value-gt-NUMBER : goal.returns-then-value-gt-NUMBER
unfolding write_number
returns-then-value-gt-NUMBER c = rw (lt-leb c.args.value number_most c.if-value-gt-NUMBER.true)

pub returns : goal.returns
unfolding write_number
returns c = rw (le-leb c.args.value number_most c.if-value-gt-NUMBER.false) (ap some c.shortest.ensures)
