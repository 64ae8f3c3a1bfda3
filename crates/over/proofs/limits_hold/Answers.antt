-- The tests on numbers, in the order of the definition; the sum is taken only with few in flight. Assumes nothing.
use Rattle.over.proofs.Tallied.{tallied_over, tallied_within}
use Rattle.over.proofs.limits_hold.Goals as goal

pub returns-then-flying-gt-FLIGHT : goal.returns-then-flying-gt-FLIGHT
returns-then-flying-gt-FLIGHT c =
    let a = c.args in
    tallied_over a.nodes a.destination a.links a.t c.if-flying-gt-FLIGHT.true

pub returns : goal.returns
returns c =
    let a = c.args in
    rw (c.sized-a.ensures, c.from.ensures, c.from-2.ensures, c.from-3.ensures, c.from-4.ensures)
    (tallied_within a.nodes a.destination a.links a.t c.if-flying-gt-FLIGHT.false)
