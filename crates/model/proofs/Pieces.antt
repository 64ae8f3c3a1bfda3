-- A drill written piece by piece into a part is the one writing of it. Assumes nothing.
use Prim.Native.Nat.{ℕ, ◌+◌, ◌-◌, ◌≤◌}
use native.Mathlib.Omega.{arith}
use mathlib.Core.Path.{◌≡◌, sym, ap, ◌∙◌}
use mathlib.Core.List.{List, [], ◌∷◌, ◌++◌, append_assoc}
use lib.ListN.{length, drop, length-drop, length-append}
use lib.Seq.{take-append_seam, drop-append_seam, drop-drop}
use borrow.Author.Tests.{le-ltb, le-leb, eq-eqb}
use Rattle.model.specs.Limits.{number_most}
use Rattle.model.specs.Answers as answers
use Rattle.model.specs.Events.{Event}
use Rattle.model.specs.File.{Header, opening, kind, argument, Drill}
use Rattle.model.specs.Writing.{header_bytes, event_bytes, events_bytes, write, Written, store, write_header, write_event}
use Rattle.model.specs.Writable.{ArgumentsFit, Writable, and_rest, write_events, write_pieces}
use Rattle.model.proofs.Format.{of_kind_lem, events_nil, events_cons, write_is}

-- bytes at the front of a part
abbrev laid : List ℕ → List ℕ → List ℕ
laid bytes part = bytes ++ drop (length bytes) part

pub stored : (bytes part : List ℕ) → length bytes ≤ length part
    → store bytes part ≡ record { answer = answers.done; place = 0; count = length bytes; part = laid bytes part }
unfolding store
stored bytes part h = rw (le-ltb (length part) (length bytes) h)

and_rest_lem : (bytes part : List ℕ) (w : Written) (more : List ℕ → List ℕ) → length bytes ≤ length part → w ≡ store bytes part
    → and_rest w more ≡ bytes ++ more (drop (length bytes) part)
and_rest_lem bytes part w more h e =
    rw (e ∙ stored bytes part h, take-append_seam bytes (drop (length bytes) part), drop-append_seam bytes (drop (length bytes) part))

pub event_stored : (e : Event) (part : List ℕ) → argument e ≤ number_most → write_event (kind e) (argument e) part ≡ store (event_bytes e) part
unfolding write_event
event_stored e part h =
    let made = of_kind_lem e in
    rw (made.1, made.2, le-leb (argument e) number_most h)

pub header_stored : (h : Header) (part : List ℕ) → (opening h).answer ≡ answers.done → write_header h part ≡ store (header_bytes h) part
unfolding write_header
header_stored h part e = rw (eq-eqb (opening h).answer answers.done e)

-- two pieces, one behind the other
behind : (a b part : List ℕ) → a ++ laid b (drop (length a) part) ≡ laid (a ++ b) part
behind a b part =
    let long : length (a ++ b) ≡ length a + length b = length-append a b in
    rw (long, drop-drop) (sym (append_assoc a b (drop (length a + length b) part)))

events_written : (es : List Event) (part : List ℕ) → ArgumentsFit es → length (events_bytes es) ≤ length part
    → write_events es part ≡ laid (events_bytes es) part
unfolding write_events
events_written [] part h l = rw events_nil
events_written (e ∷ es) part (h, hs) l =
    let long : length (events_bytes (e ∷ es)) ≡ length (event_bytes e) + length (events_bytes es) =
    ap length (events_cons e es) ∙ length-append (event_bytes e) (events_bytes es) in
    let left : length (drop (length (event_bytes e)) part) ≡ length part - length (event_bytes e) = length-drop (length (event_bytes e)) part in
    and_rest_lem (event_bytes e) part (write_event (kind e) (argument e) part) (write_events es) (omega arith) (event_stored e part h)
    ∙ ap (λ (l : List ℕ). event_bytes e ++ l) (events_written es (drop (length (event_bytes e)) part) hs (omega arith))
    ∙ behind (event_bytes e) (events_bytes es) part
    ∙ ap (λ (l : List ℕ). laid l part) (sym (events_cons e es))

pub pieces : (d : Drill) (part : List ℕ) → Writable d → length (write d) ≤ length part → write_pieces d part ≡ laid (write d) part
unfolding write_pieces
pieces d part w l =
    let head = header_bytes d.header in
    let es = events_bytes d.events in
    let long : length (write d) ≡ length head + length es = ap length (write_is d) ∙ length-append head es in
    let left : length (drop (length head) part) ≡ length part - length head = length-drop (length head) part in
    and_rest_lem head part (write_header d.header part) (write_events d.events) (omega arith) (header_stored d.header part w.header)
    ∙ ap (λ (l : List ℕ). head ++ l) (events_written d.events (drop (length head) part) w.arguments (omega arith))
    ∙ behind head es part
    ∙ ap (λ (l : List ℕ). laid l part) (sym (write_is d))
