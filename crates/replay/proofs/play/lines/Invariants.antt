-- The lines of the events passed are written. Assumes nothing.
use Prim.Native.Nat.{◌+◌, ◌-◌}
use Rattle.letters.specs.Digits.{joined}
use Rattle.replay.specs.ChunkLines.{code_lines}
use Rattle.letters.proofs.Pending.{Pending}
use Rattle.replay.proofs.play.lines.Given as goal

abbrev pub invariant-loop-i : goal.invariant-loop-i
invariant-loop-i l = Pending l.initial.page (code_lines l.answers l.packets l.ways (joined l.thousands l.rest) 0 l.count) l.page
    (code_lines l.answers l.packets l.ways (joined l.thousands l.rest + l.i) l.i (l.count - l.i))
