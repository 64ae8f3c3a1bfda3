-- What is left of the text from some event on. Assumes nothing.
use Prim.Native.Nat.{ℕ, suc, ◌+◌}
use native.Mathlib.Nat.{add-zero, zero-add}
use native.Mathlib.Omega.{arith}
use mathlib.Core.Path.{◌≡◌, sym, ap, ap₂, ◌∙◌}
use mathlib.Core.List.{List, [], ◌∷◌, ◌++◌, append_assoc}
use mathlib.Core.Option.{none, some}
use lib.ListN.{length}
use Rattle.model.specs.State.{State}
use Rattle.model.specs.Outcome.{Outcome}
use Rattle.model.specs.Events.{Event, event}
use Rattle.model.specs.File.{kind, argument, Reading}
use Rattle.model.specs.History.{after}
use Rattle.model.specs.Text.{event_line, event_lines, spoilt_line, total_line, turns_line, drill_text}
use Rattle.model.proofs.Format.{of_kind_lem}
use Rattle.steps.specs.Call.{made, call}
use Rattle.notes.specs.Bursts.{calls, call_at}
use Rattle.lines.specs.Lines.{ending_of}
use Rattle.replay.specs.ChunkLines.{call_lines}
use Rattle.replay.specs.Chunks.{Stand, behind}

unfoldable pub tail : ℕ → State → Reading → List ℕ
tail ordinal s r = event_lines ordinal s r.events ++ (spoilt_line r.spoilt ++ ending_of (after s r.events))

pub tail_whole : (s : State) (r : Reading) → drill_text s r ≡ tail 1 s r
unfolding tail drill_text ending_of
tail_whole s r =
    let end = after s r.events in
    let a = event_lines 1 s r.events in
    let b = spoilt_line r.spoilt in
    append_assoc (a ++ b) (total_line end) (turns_line end) ∙ append_assoc a b (total_line end ++ turns_line end)

pub tail_end : (ordinal : ℕ) (s : State) {r : Reading} → r ≡ record { events = []; spoilt = none } → tail ordinal s r ≡ ending_of s
unfolding tail event_lines after
tail_end ordinal s e = ap (tail ordinal s) e

pub tail_spoilt : (ordinal : ℕ) (s : State) {r : Reading} (place : ℕ) → r ≡ record { events = []; spoilt = some place }
    → tail ordinal s r ≡ spoilt_line (some place) ++ ending_of s
unfolding tail event_lines after
tail_spoilt ordinal s place e = ap (tail ordinal s) e

-- ---- a chunk
call_event : (s : State) (e : Event) {k a : ℕ} → k ≡ kind e → a ≡ argument e → call s k a ≡ event s e
unfolding call
call_event s e p q =
    let m = of_kind_lem e in
    ap₂ (call s) p q ∙ ap (λ o. made s o (argument e)) m.1 ∙ ap (event s) m.2

module _ (s : State) (kinds arguments : List ℕ) (rest : List Event) where
  lines_run : (es : List Event) (ordinal i : ℕ) → Stand es kinds arguments i
      → event_lines ordinal (calls s kinds arguments i) (es ++ rest)
      ≡ call_lines s kinds arguments ordinal i (length es) ++ event_lines (ordinal + length es) (calls s kinds arguments (i + length es)) rest
  unfolding event_lines calls call_lines
  lines_run [] ordinal i t = ap₂ (λ o j. event_lines o (calls s kinds arguments j) rest) (sym (add-zero ordinal)) (sym (add-zero i))
  lines_run (e ∷ es) ordinal i t =
      let o = call_at s kinds arguments i in
      let same = call_event (calls s kinds arguments i) e t.0 t.1 in
      let p : suc ordinal + length es ≡ ordinal + suc (length es) = omega arith in
      let q : suc i + length es ≡ i + suc (length es) = omega arith in
      ap (λ (z : Outcome). event_line ordinal z ++ event_lines (suc ordinal) z.state (es ++ rest)) (sym same)
      ∙ ap (λ l. event_line ordinal o ++ l) (lines_run es (suc ordinal) (suc i) t.2)
      ∙ sym (append_assoc (event_line ordinal o) (call_lines s kinds arguments (suc ordinal) (suc i) (length es)) _)
      ∙ ap₂ (λ n j. (event_line ordinal o ++ call_lines s kinds arguments (suc ordinal) (suc i) (length es)) ++ event_lines n (calls s kinds arguments j) rest) p q

  after_run : (es : List Event) (i : ℕ) → Stand es kinds arguments i
      → after (calls s kinds arguments i) (es ++ rest) ≡ after (calls s kinds arguments (i + length es)) rest
  unfolding after calls
  after_run [] i t = ap (λ j. after (calls s kinds arguments j) rest) (sym (add-zero i))
  after_run (e ∷ es) i t =
      let same = call_event (calls s kinds arguments i) e t.0 t.1 in
      let q : suc i + length es ≡ i + suc (length es) = omega arith in
      ap (λ (z : Outcome). after z.state (es ++ rest)) (sym same)
      ∙ after_run es (suc i) t.2
      ∙ ap (λ j. after (calls s kinds arguments j) rest) q

pub tail_chunk : (s : State) (kinds arguments : List ℕ) (es : List Event) (r : Reading) (ordinal : ℕ) → Stand es kinds arguments 0
    → tail ordinal s (behind es r)
    ≡ call_lines s kinds arguments ordinal 0 (length es) ++ tail (ordinal + length es) (calls s kinds arguments (length es)) r
unfolding tail calls
tail_chunk s kinds arguments es r ordinal t =
    let n = length es in
    let z : 0 + n ≡ n = zero-add n in
    let last = spoilt_line r.spoilt ++ ending_of (after s (es ++ r.events)) in
    let lines = call_lines s kinds arguments ordinal 0 n in
    let more = event_lines (ordinal + n) (calls s kinds arguments n) r.events in
    ap (λ l. l ++ last)
    (lines_run s kinds arguments r.events es ordinal 0 t
    ∙ ap (λ j. lines ++ event_lines (ordinal + n) (calls s kinds arguments j) r.events) z)
    ∙ append_assoc lines more last
    ∙ ap (λ x. lines ++ (more ++ (spoilt_line r.spoilt ++ ending_of x)))
    (after_run s kinds arguments r.events es 0 t ∙ ap (λ j. after (calls s kinds arguments j) r.events) z)
