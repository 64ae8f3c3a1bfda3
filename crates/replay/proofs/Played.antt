-- What a burst over a chunk tells of its lines. Assumes nothing.
use Prim.Native.Nat.{ℕ, ◌≤◌}
use native.Mathlib.Omega.{arith}
use mathlib.Core.Path.{◌≡◌, ap, ◌∙◌}
use mathlib.Core.Bool.{true}
use mathlib.Core.List.{List}
use lib.ListN.{length}
use Rattle.model.specs.Formed.{well_formed}
use Rattle.network.specs.declared.record.Network.{Network}
use Rattle.network.specs.declared.record.Burst.{Burst}
use Rattle.network.specs.View.{view}
use Rattle.notes.specs.Bursts.{calls}
use Rattle.network.specs.Calls.{BurstPost}
use Rattle.replay.specs.ChunkLines.{code_lines, call_lines}
use Rattle.replay.specs.Chunks.{chunk}
use Rattle.replay.proofs.ChunkLines.{lines_are, shortest_first}

module _ {n : Network} {kinds arguments answers packets ways answers' packets' ways' : List ℕ} {r : Burst}
    (b : BurstPost n kinds arguments answers packets ways answers' packets' ways' r) (few : length kinds ≤ chunk)
    (same : length arguments ≡ length kinds) (room : (chunk ≤ length answers) × (chunk ≤ length packets) × (chunk ≤ length ways)) where
  counted : r.count ≡ length kinds
  counted =
      b.made
      ∙ shortest_first (length kinds) (length arguments) (length answers) (length packets) (length ways) (omega arith)
      (omega (arith, room.0)) (omega (arith, room.1)) (omega (arith, room.2))

  pub played_state : view r.network ≡ calls (view n) kinds arguments (length kinds)
  played_state = b.outcome ∙ ap (calls (view n) kinds arguments) counted

  pub played_lines : well_formed (view n) ≡ true → (ordinal : ℕ)
      → call_lines (view n) kinds arguments ordinal 0 (length kinds) ≡ code_lines answers' packets' ways' ordinal 0 (length kinds)
  played_lines w ordinal =
      lines_are (view n) kinds arguments w r.count answers packets ways answers' packets' ways' b.given (length kinds) ordinal 0
      (omega (arith, counted))
