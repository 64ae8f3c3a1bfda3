-- The program's whole text fits its limit. Assumes nothing.
use Prim.Native.Nat.{ℕ, suc, ◌+◌, ◌*◌, ◌≤◌}
use native.Mathlib.Omega.{arith}
use mathlib.Core.Path.{◌≡◌, refl}
use mathlib.Core.Logic.{inl, inr}
use mathlib.Core.Bool.{true}
use mathlib.Core.List.{List, [], ◌∷◌, ◌++◌}
use mathlib.Core.Option.{some}
use lib.Dec.{ltb}
use lib.ListN.{length, length-append}
use borrow.Author.Tests.{ltb-false}
use Rattle.model.specs.Limits.{file_most, line_most, text_most}
use Rattle.model.specs.Answers as answers
use Rattle.model.specs.State.{State}
use Rattle.model.specs.Formed.{well_formed}
use Rattle.model.specs.Events.{Event, event}
use Rattle.model.specs.History.{after}
use Rattle.model.specs.Number.{Read, had, refused}
use Rattle.model.specs.File.{Header, opening, Reading, read_header, read_events}
use Rattle.model.specs.Text.{event_line, event_lines, spoilt_line, total_line, turns_line, drill_text, text_from, drill_output}
use Rattle.model.specs.Promises.{TextFits}
use Rattle.model.proofs.Below.{look}
use Rattle.model.proofs.Steps.{step}
use Rattle.model.proofs.Kept.{kept}
use Rattle.model.proofs.Opened.{opening_formed}
use Rattle.model.proofs.Named.{named, formed_after}
use Rattle.model.proofs.Had.{header_moves}
use Rattle.model.proofs.Digits.{tens}
use Rattle.model.proofs.InFile.{Near, near_header, sizes}
use Rattle.model.proofs.Lines.{event_line_lem, spoilt_line_lem, refused_line_lem, total_line_lem, turns_line_lem}

events_length : (ordinal : ℕ) (s : State) (es : List Event) → well_formed s ≡ true → ordinal + length es ≤ tens 5
    → length (event_lines ordinal s es) ≤ line_most * length es
unfolding event_lines
events_length ordinal s [] w h = omega arith
events_length ordinal s (e ∷ es) w h =
    let rest = event_lines (suc ordinal) (event s e).state es in
    omega (
      arith,
      length-append (event_line ordinal (event s e)) rest,
      event_line_lem s ordinal (event s e) (named.one s e w) (omega arith),
      events_length (suc ordinal) (event s e).state es (kept (step s e) w) (omega arith),
    )

-- the text of a header that was had: its lines, one after the other
four_length : (a b c d : List ℕ) → length (a ++ b ++ c ++ d) ≡ length a + length b + length c + length d
four_length a b c d = simp length-append

drill_length : (s : State) (r : Reading) → well_formed s ≡ true → 2 * length r.events ≤ file_most
    → ((n : ℕ) → r.spoilt ≡ some n → n ≤ file_most) → length (drill_text s r) ≤ text_most
unfolding drill_text
drill_length s r w few place =
    let end = after s r.events in
    let formed = formed_after s r.events w in
    rw (four_length (event_lines 1 s r.events) (spoilt_line r.spoilt) (total_line end) (turns_line end))
    (omega (arith, events_length 1 s r.events w (omega arith), spoilt_line_lem r.spoilt place, total_line_lem end formed, turns_line_lem end formed))

from : (file : List ℕ) → length file ≤ file_most → (x : Read Header) → read_header file 0 ≡ x → Near x → length (text_from file x) ≤ text_most
from file small (had h next) e n =
    let r = sizes file small next (header_moves file 0 h next e).1 in
    drill_length (opening h).state (read_events file next) (opening_formed h.nodes h.destination h.list) (omega (arith, r.events)) r.place
from file small (refused answer place) e n = omega (arith, refused_line_lem answer place n.0 n.1)

pub text_fits : TextFits
unfolding drill_output
text_fits file = elim (look (ltb file_most (length file))) [
  | inl long ↦ rw long (omega (arith, refused_line_lem answers.spoilt file_most (omega arith) (omega arith)))
  | inr short ↦
      let small = ltb-false file_most (length file) short in
      rw short (from file small (read_header file 0) refl (near_header file small 0))
]
