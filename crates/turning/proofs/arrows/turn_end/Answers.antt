use Rattle.turning.proofs.Turns.{turned_is}
use Rattle.turning.proofs.arrows.turn_end.Goals as goal

pub returns-clause-is : goal.returns-clause-is
returns-clause-is c = rw (turned_is, c.turns-turned.ensures)
