-- No call so far was accepted. Assumes nothing.
use mathlib.Core.Path.{◌≡◌}
use mathlib.Core.Bool.{false}
use lib.Dec.{eqb}
use lib.ListN.{get_or}
use Rattle.model.specs.Below.{any}
use Rattle.notes.proofs.all_refused.Given as goal

abbrev pub invariant-loop-answer : goal.invariant-loop-answer
invariant-loop-answer l = false ≡ any (λ j. eqb (get_or l.answers j 0) 0) l.answer-index
