-- The lines of numbers, as lists of them. Assumes nothing.
use Prim.Native.Nat.{ℕ}
use mathlib.Core.Path.{◌≡◌, refl, ap, ap₂}
use mathlib.Core.List.{[], ◌∷◌, ◌++◌}
use mathlib.Core.Option.{some}
use Rattle.model.specs.Below.{tab}
use Rattle.model.specs.Answers as answers
use Rattle.model.specs.Text.{ascii, digits, line, spoilt_line, total_line, turns_line, refused_line}
use Rattle.network.specs.declared.record.Network.{Network}
use Rattle.arrays.specs.View.{packet_at}
use Rattle.network.specs.View.{view}
use Rattle.arrays.proofs.Below.{tab_same, length-tab, used_in}
use Rattle.lines.specs.Lines.{row, ending_of}

pub refused_row : (answer place : ℕ) → refused_line answer place ≡ row (ascii "refused") (answer ∷ place ∷ []) 2
unfolding row tab
refused_row answer place = refl

pub spoilt_row : (place : ℕ) → spoilt_line (some place) ≡ row (ascii "spoilt") (answers.spoilt ∷ place ∷ []) 2
unfolding row tab
spoilt_row place = refl

module _ (n : Network) where
  total_row : total_line (view n) ≡ row (ascii "total") (n.tally.admitted ∷ n.tally.delivered ∷ n.tally.lost ∷ n.tally.stranded ∷ n.tally.flying ∷ []) 5
  unfolding row tab
  total_row =
      ap (λ m. line (ascii "total") (digits n.tally.admitted ∷ digits n.tally.delivered ∷ digits n.tally.lost ∷ digits n.tally.stranded ∷ digits m ∷ []))
      (length-tab (packet_at n.flight.number n.flight.lane n.flight.bit) n.tally.flying)

  turns_row : turns_line (view n) ≡ row (ascii "turns") n.arrows.turns n.plan.nodes
  unfolding row
  turns_row = ap (line (ascii "turns")) (tab_same _ _ n.plan.nodes (λ v h. ap digits (used_in n.plan.nodes 0 n.arrows.turns v h)))

  pub ending_rows : ending_of (view n)
      ≡ row (ascii "total") (n.tally.admitted ∷ n.tally.delivered ∷ n.tally.lost ∷ n.tally.stranded ∷ n.tally.flying ∷ []) 5 ++ row (ascii "turns") n.arrows.turns n.plan.nodes
  unfolding ending_of
  ending_rows = ap₂ (λ x y. x ++ y) total_row turns_row
