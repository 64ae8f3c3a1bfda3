-- A packet at the end of its lane.
use Rattle.std.specs.Prelude.{ℕ, Bool, false, not, cond, ◌&&◌, eqb, get_or, set}
use Rattle.arrays.specs.declared.record.Arrows.{Arrows}
use Rattle.model.specs.State.{State}
use Rattle.model.specs.declared.Went.TheVariants as went
use Rattle.model.specs.Outcome.{Outcome, counted, gives, leaves, onward}

-- a packet that has come to end y, taken from its lane, the news heard: "3. At the destination: delivered", "4. .. the packet goes back",
-- "5. Otherwise: departure update"
abbrev pub landed : State → ℕ → ℕ → Outcome
landed s y n =
    cond (eqb (s.net.node y) s.net.destination) (gives (counted s 0 1 0 0) n went.Delivered)
    (cond (s.ends.out y) (leaves (counted s 0 0 0 0) y n) (onward (counted s 0 0 0 0) (s.net.node y) n))

-- news has come to end y, or none has: it turns the arrow and the remote bit
abbrev pub heard : Arrows → ℕ → Bool → Arrows
heard a y fresh =
    record {
      live = a.live;
      out = set a.out y (get_or a.out y false && not fresh);
      local = a.local;
      remote = set a.remote y (cond fresh (not (get_or a.remote y false)) (get_or a.remote y false));
      mark = a.mark;
      turns = a.turns;
    }
