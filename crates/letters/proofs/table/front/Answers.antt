-- By how many digits the number has. Assumes nothing.
use mathlib.Core.Path.{refl, sym, ◌∙◌}
use Rattle.letters.proofs.DigitRows.{four_are, front_one, front_two, front_three}
use Rattle.letters.proofs.table.front.Goals as goal

pub returns-then-n-lt10 : goal.returns-then-n-lt10
returns-then-n-lt10 c =
    let ones = c.digit-ones.ensures in
    four_are ones ones ones refl ∙ sym (front_one c.args.n c.if-n-lt10.true)

pub returns-then-n-lt100 : goal.returns-then-n-lt100
returns-then-n-lt100 c =
    let ones = c.digit-ones.ensures in
    four_are c.digit-tens.ensures ones ones refl ∙ sym (front_two c.args.n c.if-n-lt10.false c.if-n-lt100.true)

pub returns : goal.returns
returns c = four_are c.digit.ensures c.digit-tens.ensures c.digit-ones.ensures refl ∙ sym (front_three c.args.n c.if-n-lt100.false)
