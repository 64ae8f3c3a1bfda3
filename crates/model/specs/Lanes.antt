-- The packets of a lane, as deliver and lose take them.
use Rattle.std.specs.Prelude.{ℕ, not, cond, List, [], ◌∷◌, leb, eqb}
use Rattle.model.specs.Answers as answers
use Rattle.model.specs.State.{Packet, State, lanes, whole}
use Rattle.model.specs.Outcome.{Outcome, refuse, accepting}

-- the packets of lane x, oldest sent first
unfoldable pub on_lane : ℕ → List Packet → List Packet
on_lane x [] = []
on_lane x (p ∷ ps) = cond (eqb p.lane x) (p ∷ on_lane x ps) (on_lane x ps)

-- the packets without the oldest of lane x; the order of the others stays
unfoldable pub less : ℕ → List Packet → List Packet
less x [] = []
less x (p ∷ ps) = cond (eqb p.lane x) ps (p ∷ less x ps)

unfoldable pub taken : State → ℕ → State
taken s x =
    record { net = s.net; up = s.up; ends = s.ends; turns = s.turns; flight = less x s.flight; counts = s.counts }

-- what is done with the oldest packet of a lane, where there is one
abbrev pub with_oldest : State → List Packet → (Packet → Outcome) → Outcome
with_oldest s [] f = refuse s answers.lane_empty
with_oldest s (p ∷ ps) f = f p

-- Deliver and lose: no such lane, the link is down, the lane is empty.
unfoldable pub off_lane : State → ℕ → (Packet → Outcome) → Outcome
off_lane s x f =
    accepting s
    (cond (leb (lanes s) x) (refuse s answers.no_such)
    (cond (not (whole s x)) (refuse s answers.link_down)
    (with_oldest s (on_lane x s.flight) f)))
