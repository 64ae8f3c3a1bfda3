-- "The program drill": its whole text, from the bytes of the file.
use Rattle.std.specs.Prelude.{ℕ, zero, suc, ◌+◌, ◌/◌, ◌%◌, true, false, cond, List, [], ◌∷◌, ◌++◌, ltb, length}
use Prim.Native.Char.{code}
use Prim.Native.String as text
use Prim.Native.String.{String}
use Rattle.std.proofs.Math.Option.{Option, none, some}
use Rattle.model.specs.declared.Handled.{Handled}
use Rattle.model.specs.declared.Handled.TheVariants.{Packet, Nothing}
use Rattle.model.specs.declared.Went.{Went}
use Rattle.model.specs.declared.Went.TheVariants.{Lane, Delivered, Lost, Stranded, Nowhere}
use Rattle.model.specs.Limits.{file_most}
use Rattle.model.specs.Answers as answers
use Rattle.model.specs.Below.{tab}
use Rattle.model.specs.State.{State}
use Rattle.model.specs.Outcome.{Outcome}
use Rattle.model.specs.Events.{Event, event}
use Rattle.model.specs.History.{after}
use Rattle.model.specs.Number.{Read, had, refused}
use Rattle.model.specs.File.{Header, opening, Reading, read_header, read_events}

-- the bytes of a quoted text
unfoldable pub ascii : String → List ℕ
ascii text.[] = []
ascii (text.◌∷◌ c s) = code c ∷ ascii s

-- a number's decimal digits; it is larger than it has digits
unfoldable pub digits_in : ℕ → ℕ → List ℕ
digits_in zero n = []
digits_in (suc fuel) n =
    elim (ltb n 10) [ true ↦ (code "0" + n) ∷ [] | false ↦ digits_in fuel (n / 10) ++ (code "0" + n % 10) ∷ [] ]

abbrev pub digits : ℕ → List ℕ
digits n = digits_in (suc n) n

-- words behind a first one, each after a space
unfoldable pub spaced : List (List ℕ) → List ℕ
spaced [] = ascii "\n"
spaced (w ∷ ws) = ascii " " ++ w ++ spaced ws

unfoldable pub line : List ℕ → List (List ℕ) → List ℕ
line word words = word ++ spaced words

-- "the packet number or "-""
abbrev pub handled_word : Handled → List ℕ
handled_word (Packet n) = digits n
handled_word Nothing = ascii "-"

-- "where it went: a lane, "in" (delivered), "lost", "end" (stranded) or "-""
abbrev pub went_word : Went → List ℕ
went_word (Lane x) = digits x
went_word Delivered = ascii "in"
went_word Lost = ascii "lost"
went_word Stranded = ascii "end"
went_word Nowhere = ascii "-"

-- "One line for each event: its ordinal from 1, the answer, the packet number or "-", and where it went"
abbrev pub event_line : ℕ → Outcome → List ℕ
event_line ordinal o = line (digits ordinal) (digits o.answer ∷ handled_word o.handled ∷ went_word o.went ∷ [])

-- "A refused event doesn't stop the drill."
unfoldable pub event_lines : ℕ → State → List Event → List ℕ
event_lines ordinal s [] = []
event_lines ordinal s (e ∷ es) = event_line ordinal (event s e) ++ event_lines (suc ordinal) (event s e).state es

-- "A spoilt event gives "spoilt 11 PLACE" and ends the events."
abbrev pub spoilt_line : Option ℕ → List ℕ
spoilt_line none = []
spoilt_line (some place) = line (ascii "spoilt") (digits answers.spoilt ∷ digits place ∷ [])

-- ""total" with admitted, delivered, lost, stranded, in flight"
abbrev pub total_line : State → List ℕ
total_line s =
    line (ascii "total")
    (digits s.counts.admitted
    ∷ digits s.counts.delivered
    ∷ digits s.counts.lost
    ∷ digits s.counts.stranded
    ∷ digits (length s.flight)
    ∷ [])

-- "and "turns" with each node's turns"
abbrev pub turns_line : State → List ℕ
turns_line s = line (ascii "turns") (tab (λ v. digits (s.turns v)) s.net.nodes)

-- "A refused header gives only "refused ANSWER PLACE"."
abbrev pub refused_line : ℕ → ℕ → List ℕ
refused_line answer place = line (ascii "refused") (digits answer ∷ digits place ∷ [])

unfoldable pub drill_text : State → Reading → List ℕ
drill_text s r =
    let end = after s r.events in
    event_lines 1 s r.events ++ spoilt_line r.spoilt ++ total_line end ++ turns_line end

abbrev pub text_from : List ℕ → Read Header → List ℕ
text_from file (had h next) = drill_text (opening h).state (read_events file next)
text_from file (refused answer place) = refused_line answer place

-- "Input over 65,536 bytes gives only "refused 11 65536"."
unfoldable pub drill_output : List ℕ → List ℕ
drill_output file =
    cond (ltb file_most (length file)) (refused_line answers.spoilt file_most) (text_from file (read_header file 0))
