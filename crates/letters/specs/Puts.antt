-- What every writer of the text asks and gives: bytes stored from the page's position on, and the position after them.
use Rattle.std.specs.Prelude.{ℕ, ◌+◌, ◌≤◌, ◌≡◌, List, length}
use Rattle.std.proofs.lemmas.List.Edits.{sets}
use Rattle.model.specs.Limits.{text_most}
use Rattle.letters.specs.declared.page.Page.{Page}

pub record Room (p : Page) (w : List ℕ) : Type 0 where
  pub size : length p.out.now ≡ text_most
  pub fits : p.at + length w ≤ text_most

-- the page is still of the same lent part
pub record Put (p : Page) (w : List ℕ) (q : Page) : Type 0 where
  pub same : q.out.ghost_name ≡ p.out.ghost_name
  pub next : q.at ≡ p.at + length w
  pub stores : q.out.now ≡ sets p.out.now p.at w

-- a page of a lent part, from a position on
pub record Begins (out : List ℕ) (name at : ℕ) (p : Page) : Type 0 where
  pub same : p.out.ghost_name ≡ name
  pub front : p.at ≡ at
  pub text : p.out.now ≡ out

-- a page of a lent part, at its front
abbrev pub Opens : List ℕ → ℕ → Page → Type 0
Opens out name p = Begins out name 0 p
