-- A record with other arrows, packets and counts: what an event in place leaves of it. Assumes nothing.
use Prim.Native.Nat.{ℕ}
use Rattle.arrays.specs.declared.record.Arrows.{Arrows}
use Rattle.arrays.specs.declared.record.Flight.{Flight}
use Rattle.departs.specs.declared.tally.Step.{Step}
use Rattle.steps.specs.Call.{call}
use Rattle.lent.specs.Lent.{LentPost}
use Rattle.network.specs.declared.record.Network.{Network}
use Rattle.network.specs.declared.record.Moved.{Moved}
use Rattle.network.specs.View.{view}
use Rattle.network.specs.Calls.{CallPost}

-- a call in place is the call on the record
module _ (n : Network) (kind argument : ℕ) (a : Arrows) (f : Flight) (r : Step) where
  abbrev pub remade : Network
  remade = record { plan = n.plan; arrows = a; flight = f; tally = r.tally }

  abbrev pub moved : Moved
  moved = record { network = remade; answer = r.answer; handled = r.handled; went = r.went }

  pub called : LentPost n.plan n.arrows n.flight n.tally kind argument a f r → CallPost n (call (view n) kind argument) moved
  called p =
      record {
        outcome = p.outcome;
        unchanged = λ z i. let u = p.unchanged z in record { plan = n.plan; arrows = u.0 i; flight = u.1 i; tally = u.2 i };
      }
