-- "Send at node v."
use Rattle.std.specs.Prelude.{ℕ, not, cond, leb, eqb, length}
use Rattle.model.specs.declared.Went.TheVariants as went
use Rattle.model.specs.Limits.{flight_most}
use Rattle.model.specs.Answers as answers
use Rattle.model.specs.State.{State}
use Rattle.model.specs.Departure.{has_live}
use Rattle.model.specs.Outcome.{Outcome, refuse, accepting, counted, gives, onward}

unfoldable pub send_to : State → ℕ → Outcome
send_to s v =
    let n = s.counts.admitted in
    accepting s
    (cond (leb s.net.nodes v) (refuse s answers.no_such)
    -- "At the destination: admitted and delivered at once."
    (cond (eqb v s.net.destination) (gives (counted s 1 1 0 0) n went.Delivered)
    -- "At a node with no live link: admitted and stranded; no turn."
    (cond (not (has_live s v)) (gives (counted s 1 0 0 1) n went.Stranded)
    (cond (leb flight_most (length s.flight)) (refuse s answers.flight_full)
    -- "Otherwise: departure update, then out on the lowest-numbered live Out link."
    (onward (counted s 1 0 0 0) v n)))))
