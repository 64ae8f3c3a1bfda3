-- The oldest packet of a lane, or why none can be taken.
use Rattle.std.specs.Prelude.{ℕ, ◌*◌, ◌/◌, false, not, cond, leb, Option, None, Some, Result, Ok, Err, get_or}
use Rattle.model.specs.Answers as answers
use Rattle.arrays.specs.declared.record.Plan.{Plan}
use Rattle.arrays.specs.declared.record.Arrows.{Arrows}
use Rattle.arrays.specs.declared.Oldest.{Oldest}
use Rattle.arrays.specs.declared.Told.{Told}

abbrev pub or_empty : Option Oldest → Result Oldest ℕ
or_empty (Some o) = Ok o
or_empty None = Err answers.lane_empty

-- 6, then 7, then 8
unfoldable pub first_on : Plan → Arrows → ℕ → Told → Result Oldest ℕ
first_on p a x told =
    cond (leb (2 * p.links) x) (Err answers.no_such)
    (cond (not (get_or a.live (x / 2) false)) (Err answers.link_down) (or_empty told.oldest))
