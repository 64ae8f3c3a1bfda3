-- What a reader sees of a record: the entries in use, and nothing past them.
use Rattle.model.specs.State.{State}
use Rattle.network.specs.declared.record.Network.{Network}
use Rattle.arrays.specs.declared.record.Tally.{Tally}
use Rattle.arrays.specs.View.{shown}
use Rattle.arrays.specs.Flight.{flying_in}

abbrev pub tally_of : Network → Tally
tally_of n = n.tally

abbrev pub view : Network → State
view n = shown n.plan n.arrows (flying_in n.flight n.tally.flying) n.tally
