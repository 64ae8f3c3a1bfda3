-- An event by its kind and argument.
use Rattle.std.specs.Prelude.{ℕ}
use Rattle.std.proofs.Math.Option.{Option, none, some}
use Rattle.model.specs.Answers as answers
use Rattle.model.specs.State.{State}
use Rattle.model.specs.Outcome.{Outcome, refuse, accepting}
use Rattle.model.specs.Events.{Event, event}
use Rattle.model.specs.File.{of_kind}

abbrev pub made : State → Option (ℕ → Event) → ℕ → Outcome
made s none a = accepting s (refuse s answers.no_such)
made s (some make) a = event s (make a)

-- "each a kind and an argument"; a kind that is none is refused as what is not there, after 1 and 5
unfoldable pub call : State → ℕ → ℕ → Outcome
call s kind a = made s (of_kind kind) a
