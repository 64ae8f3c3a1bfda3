-- A chunk's events run and written: the record after them, and their lines.
use Rattle.std.specs.Prelude.{ℕ, ◌+◌, ◌≤◌, ◌<◌, ◌≡◌, true, List, length}
use Rattle.model.specs.Formed.{well_formed}
use Rattle.network.specs.declared.record.Network.{Network}
use Rattle.network.specs.View.{view}
use Rattle.notes.specs.Bursts.{calls}
use Rattle.letters.specs.declared.page.Page.{Page}
use Rattle.replay.specs.declared.play.Played.{Played}
use Rattle.letters.specs.Puts.{Room, Put}
use Rattle.replay.specs.ChunkLines.{call_lines}
use Rattle.letters.specs.Digits.{thousand, joined}

pub record PlayPre (n : Network) (kinds arguments : List ℕ) (thousands rest : ℕ) (page : Page) : Type 0 where
  pub formed : well_formed (view n) ≡ true
  pub same : length arguments ≡ length kinds
  pub early : thousands < thousand
  pub few : rest + length kinds ≤ thousand
  pub room : Room page (call_lines (view n) kinds arguments (joined thousands rest) 0 (length kinds))

pub record PlayPost (n : Network) (kinds arguments : List ℕ) (ordinal : ℕ) (page : Page) (r : Played) : Type 0 where
  pub state : view r.network ≡ calls (view n) kinds arguments (length kinds)
  pub written : Put page (call_lines (view n) kinds arguments ordinal 0 (length kinds)) r.page
