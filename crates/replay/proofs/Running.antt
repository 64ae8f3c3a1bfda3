-- The text of a file's events, chunk by chunk. Assumes nothing.
use Prim.Native.Nat.{ℕ, ◌+◌, ◌≤◌}
use native.Mathlib.Omega.{arith}
use mathlib.Core.Path.{◌≡◌, sym, ap, ◌∙◌, subst}
use mathlib.Core.Bool.{true}
use mathlib.Core.List.{List, [], ◌++◌}
use mathlib.Core.Option.{none, some}
use lib.ListN.{length, take}
use lib.Seq.{length-take-le}
use Rattle.model.specs.Limits.{nodes_most, file_most}
use Rattle.model.specs.Formed.{well_formed}
use Rattle.model.specs.File.{read_events}
use Rattle.model.specs.Text.{spoilt_line}
use Rattle.model.proofs.Format.{sizes_small}
use Rattle.model.proofs.Formed.{formed_if}
use Rattle.network.specs.declared.record.Network.{Network}
use Rattle.network.specs.View.{view}
use Rattle.notes.specs.Bursts.{calls}
use Rattle.notes.proofs.Bursts.{calls_keep}
use Rattle.letters.specs.declared.page.Page.{Page}
use Rattle.replay.specs.declared.play.Played.{Played}
use Rattle.letters.specs.Puts.{Room}
use Rattle.lines.specs.Lines.{ending_of}
use Rattle.replay.specs.ChunkLines.{call_lines}
use Rattle.replay.specs.Chunks.{Gathers}
use Rattle.replay.specs.Plays.{PlayPost}
use Rattle.replay.specs.Runs.{text_of, RunPre}
use Rattle.letters.proofs.Pending.{Pending, begin, say, room, step}
use Rattle.replay.proofs.Chunks.{stand_take}
use Rattle.replay.proofs.Tails.{tail, tail_whole, tail_end, tail_spoilt, tail_chunk}

-- at a position of the file, with a record and an ordinal: what is left of the text
pub record Running (file : List ℕ) (l : Page) (whole : List ℕ) (out : Page) (n : Network) (at ordinal : ℕ) : Type 0 where
  pub formed : well_formed (view n) ≡ true
  pub inside : at ≤ length file
  pub short : length file ≤ file_most
  pub counted : ordinal ≤ at
  pub pending : Pending l whole out (tail ordinal (view n) (read_events file at))

pub starts : (file : List ℕ) (page : Page) (n : Network) (at : ℕ) → RunPre file at n page → Running file page (text_of file at n) page n at 1
starts file page n at p =
    record {
      formed = p.formed;
      inside = p.inside;
      short = p.short;
      counted = omega (arith, p.past);
      pending = say (tail_whole (view n) (read_events file at)) (begin p.room);
    }

pub recount : {file : List ℕ} {l : Page} {whole : List ℕ} {out : Page} {n : Network} {at o p : ℕ} → o ≡ p → Running file l whole out n at o
    → Running file l whole out n at p
recount {file} {l} {whole} {out} {n} {at} = subst (λ o. Running file l whole out n at o)

-- the lists that a chunk lends
module _ {file : List ℕ} {at : ℕ} {kinds arguments : List ℕ} {most count at' : ℕ} (g : Gathers file at most kinds arguments count at') where
  pub kinds_lent : count ≡ length (take count kinds)
  kinds_lent = sym (length-take-le count kinds (omega (arith, g.few, g.short, g.kinds_size)))

  pub arguments_lent : count ≡ length (take count arguments)
  arguments_lent = sym (length-take-le count arguments (omega (arith, g.few, g.short, g.arguments_size)))

  pub few_kinds : length (take count kinds) ≤ most
  few_kinds = omega (arith, kinds_lent, g.few)

  pub as_many : length (take count arguments) ≡ length (take count kinds)
  as_many = sym arguments_lent ∙ kinds_lent

module _ {file : List ℕ} {l : Page} {whole : List ℕ} {out : Page} {n : Network} {at ordinal : ℕ} (run : Running file l whole out n at ordinal) where
  pub ends : read_events file at ≡ record { events = []; spoilt = none } → Pending l whole out (ending_of (view n))
  ends e = say (tail_end ordinal (view n) e) run.pending

  pub spoils : (place : ℕ) → read_events file at ≡ record { events = []; spoilt = some place }
      → Pending l whole out (spoilt_line (some place) ++ ending_of (view n))
  spoils place e = say (tail_spoilt ordinal (view n) place e) run.pending

  pub few_nodes : n.plan.nodes ≤ nodes_most
  few_nodes = (sizes_small n.plan.nodes n.plan.destination n.plan.links (formed_if (view n) run.formed).net.sizes).0

  pub within : ordinal ≤ file_most
  within = omega (arith, run.counted, run.inside, run.short)

  module _ {kinds arguments : List ℕ} {most count at' : ℕ} (g : Gathers file at most kinds arguments count at') where
    -- the chunk's lines, then the rest
    chunk_first : tail ordinal (view n) (read_events file at)
        ≡ call_lines (view n) (take count kinds) (take count arguments) ordinal 0 (length (take count kinds))
        ++ tail (ordinal + count) (calls (view n) (take count kinds) (take count arguments) (length (take count kinds))) (read_events file at')
    chunk_first =
        let es = g.events in
        let ks = take count kinds in
        let gs = take count arguments in
        let long : length es ≡ length ks = g.many ∙ kinds_lent g in
        let stand = stand_take es kinds arguments 0 count (omega (arith, g.many)) g.stand in
        ap (tail ordinal (view n)) g.reads
        ∙ tail_chunk (view n) ks gs es (read_events file at') ordinal stand
        ∙ ap (λ m. call_lines (view n) ks gs ordinal 0 (length es) ++ tail (ordinal + m) (calls (view n) ks gs (length es)) (read_events file at')) g.many
        ∙ ap (λ m. call_lines (view n) ks gs ordinal 0 m ++ tail (ordinal + count) (calls (view n) ks gs m) (read_events file at')) long

    pub chunk_room : Room out (call_lines (view n) (take count kinds) (take count arguments) ordinal 0 (length (take count kinds)))
    chunk_room = room _ _ (say chunk_first run.pending)

    pub goes_on : {r : Played} → PlayPost n (take count kinds) (take count arguments) ordinal out r
        → Running file l whole r.page r.network at' (ordinal + count)
    goes_on p =
        record {
          formed = ap well_formed p.state ∙ calls_keep (view n) (take count kinds) (take count arguments) (length (take count kinds)) ∙ run.formed;
          inside = g.inside;
          short = run.short;
          counted = omega (arith, run.counted, g.moved);
          pending = say (ap (λ s. tail (ordinal + count) s (read_events file at')) (sym p.state)) (step _ _ (say chunk_first run.pending) p.written);
        }
