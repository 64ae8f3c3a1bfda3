-- What was written, with what is left from here on, is the whole text. Assumes nothing.
use Prim.Native.Nat.{◌-◌, ◌<◌}
use mathlib.Core.Path.{◌≡◌}
use lib.ListN.{length}
use Rattle.letters.specs.Digits.{joined}
use Rattle.replay.specs.Chunks.{chunk}
use Rattle.replay.specs.Runs.{text_of}
use Rattle.replay.proofs.Running.{Running}
use Rattle.replay.proofs.run.run.Given as goal

abbrev pub invariant-loop-page : goal.invariant-loop-page
invariant-loop-page l = Running l.file l.initial.page (text_of l.file l.from l.initial.network) l.page l.network l.at (joined l.thousands l.rest)
    × (l.rest < chunk)
    × (length l.kinds ≡ chunk)
    × (length l.arguments ≡ chunk)

abbrev pub decreases-loop-page : goal.decreases-loop-page
decreases-loop-page l = length l.file - l.at
