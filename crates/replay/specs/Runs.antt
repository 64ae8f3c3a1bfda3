-- What running the events of a file from a position on asks.
use Rattle.std.specs.Prelude.{ℕ, ◌≤◌, ◌<◌, ◌≡◌, true, List, length}
use Rattle.model.specs.Limits.{file_most}
use Rattle.model.specs.Formed.{well_formed}
use Rattle.model.specs.File.{read_events}
use Rattle.model.specs.Text.{drill_text}
use Rattle.network.specs.declared.record.Network.{Network}
use Rattle.network.specs.View.{view}
use Rattle.letters.specs.declared.page.Page.{Page}
use Rattle.letters.specs.Puts.{Room}

-- the text of the drill from a record and a position
abbrev pub text_of : List ℕ → ℕ → Network → List ℕ
text_of file from n = drill_text (view n) (read_events file from)

pub record RunPre (file : List ℕ) (from : ℕ) (n : Network) (page : Page) : Type 0 where
  pub formed : well_formed (view n) ≡ true
  pub past : 0 < from
  pub inside : from ≤ length file
  pub short : length file ≤ file_most
  pub room : Room page (text_of file from n)
