-- Events read one by one into two lists. Assumes nothing.
use Prim.Native.Nat.{ℕ, suc, ◌+◌, ◌≤◌, ◌<◌}
use native.Mathlib.Nat.{add-zero}
use native.Mathlib.Omega.{arith}
use mathlib.Core.Path.{◌≡◌, refl, sym, ap, ◌∙◌, subst}
use mathlib.Core.List.{List, [], ◌∷◌, ◌++◌, append_assoc}
use mathlib.Core.Option.{none, some}
use lib.ListN.{length, get_or, set, take, length-set, length-append}
use lib.Seq.{get_or-set_same, get_or-set_other, get_or-take}
use Rattle.model.specs.Events.{Event}
use Rattle.model.specs.Number.{had}
use Rattle.model.specs.File.{kind, argument, read_event, and_more, read_events}
use Rattle.model.proofs.Had.{event_moves, unfueled}
use Rattle.groups.specs.declared.answers.Spoilt.{Spoilt}
use Rattle.entries.specs.declared.answers.Event.{Event as FileEvent}
use Rattle.entries.specs.declared.answers.Got.{Got}
use Rattle.entries.specs.Outcomes.{seen, event_at}
use Rattle.std.specs.Prelude.{None, Some, Ok, Err}
use Rattle.reader.proofs.Told.{event_told, end_told, spoilt_told}
use Rattle.replay.specs.declared.chunk.Stop.{Stop}
use Rattle.replay.specs.declared.chunk.Gathered.{Gathered}
use Rattle.replay.specs.Chunks.{chunk, Stand, behind, Gathers, Stopped, stopped_at, GatherPost}

-- stores past the events leave them
stand_set : (es : List Event) (kinds arguments : List ℕ) (i j k a : ℕ) → i + length es ≤ j → Stand es kinds arguments i
    → Stand es (set kinds j k) (set arguments j a) i
stand_set [] kinds arguments i j k a h s = tt
stand_set (e ∷ es) kinds arguments i j k a h s = (
  get_or-set_other kinds j i k 0 (λ q. omega (arith, h, q)) ∙ s.0,
  get_or-set_other arguments j i a 0 (λ q. omega (arith, h, q)) ∙ s.1,
  stand_set es kinds arguments (suc i) j k a (omega arith) s.2,
)

stand_last : (es : List Event) (e : Event) (kinds arguments : List ℕ) (i : ℕ) → Stand es kinds arguments i
    → get_or kinds (i + length es) 0 ≡ kind e → get_or arguments (i + length es) 0 ≡ argument e → Stand (es ++ (e ∷ [])) kinds arguments i
stand_last [] e kinds arguments i s p q =
    (ap (λ j. get_or kinds j 0) (sym (add-zero i)) ∙ p, ap (λ j. get_or arguments j 0) (sym (add-zero i)) ∙ q, tt)
stand_last (d ∷ es) e kinds arguments i s p q =
    let n : suc i + length es ≡ i + suc (length es) = omega arith in
    (s.0, s.1, stand_last es e kinds arguments (suc i) s.2 (ap (λ j. get_or kinds j 0) n ∙ p) (ap (λ j. get_or arguments j 0) n ∙ q))

pub stand_take : (es : List Event) (kinds arguments : List ℕ) (i n : ℕ) → i + length es ≤ n → Stand es kinds arguments i
    → Stand es (take n kinds) (take n arguments) i
stand_take [] kinds arguments i n h s = tt
stand_take (e ∷ es) kinds arguments i n h s = (
  get_or-take n kinds i 0 (omega arith) ∙ s.0,
  get_or-take n arguments i 0 (omega arith) ∙ s.1,
  stand_take es kinds arguments (suc i) n (omega arith) s.2,
)

-- what is read at a position
module _ (file : List ℕ) (at : ℕ) where
  reads_event : (e : Event) (next : ℕ) → read_event file at ≡ had (some e) next → read_events file at ≡ behind (e ∷ []) (read_events file next)
  reads_event e next h = unfueled file at ∙ ap (λ x. and_more x (λ p. read_events file p)) h

  module _ (g : Got) (h : seen g ≡ event_at file at) where
    pub reads_end : g.event ≡ Ok None → read_events file at ≡ record { events = []; spoilt = none }
    reads_end q = unfueled file at ∙ ap (λ x. and_more x (λ p. read_events file p)) (end_told file at g h q)

    pub reads_spoilt : (p : Spoilt) → g.event ≡ Err p → read_events file at ≡ record { events = []; spoilt = some p.place }
    reads_spoilt p q = unfueled file at ∙ ap (λ x. and_more x (λ n. read_events file n)) (spoilt_told file at g h p q).0

module _ (file : List ℕ) (from most : ℕ) where
  pub gathers_none : (kinds arguments : List ℕ) → from ≤ length file → most ≤ chunk → length kinds ≡ chunk → length arguments ≡ chunk
      → Gathers file from most kinds arguments 0 from
  gathers_none kinds arguments h s p q =
      record {
        events = [];
        many = refl;
        few = omega arith;
        short = s;
        kinds_size = p;
        arguments_size = q;
        moved = omega arith;
        inside = h;
        stand = tt;
        reads = refl;
      }

  pub gathers_more : (kinds arguments : List ℕ) (i at : ℕ) {got : Got} (read : FileEvent) → Gathers file from most kinds arguments i at → i < most
      → seen got ≡ event_at file at → got.event ≡ Ok (Some read)
      → Gathers file from most (set kinds i read.kind) (set arguments i read.argument) (i + 1) got.next.at
  gathers_more kinds arguments i at {got} read g h s q =
      let t = event_told file at got s read q in
      let e = t.0 in
      let es = g.events in
      let m = event_moves file at e got.next.at t.1 in
      let here : 0 + length es ≡ i = omega (arith, g.many) in
      record {
        events = es ++ (e ∷ []);
        many = length-append es (e ∷ []) ∙ omega (arith, g.many);
        few = omega arith;
        short = g.short;
        kinds_size = length-set kinds i read.kind ∙ g.kinds_size;
        arguments_size = length-set arguments i read.argument ∙ g.arguments_size;
        moved = omega (arith, m.0, g.moved);
        inside = m.1;
        stand = stand_last es e (set kinds i read.kind) (set arguments i read.argument) 0 (stand_set es kinds arguments 0 i read.kind read.argument (omega arith) g.stand)
            (ap (λ j. get_or (set kinds i read.kind) j 0) here ∙ get_or-set_same kinds i read.kind 0 (omega (arith, g.kinds_size, g.short)) ∙ sym t.2)
            (ap (λ j. get_or (set arguments i read.argument) j 0) here ∙ get_or-set_same arguments i read.argument 0 (omega (arith, g.arguments_size, g.short)) ∙ sym t.3);
        reads = g.reads
            ∙ ap (behind es) (reads_event file at e got.next.at t.1)
            ∙ ap (λ l. record { events = l; spoilt = (read_events file got.next.at).spoilt }) (sym (append_assoc es (e ∷ []) (read_events file got.next.at).events));
      }

-- no more than so many
pub gathers_all : {file kinds arguments : List ℕ} {from most at : ℕ} (i : ℕ) → Gathers file from most kinds arguments i at → most ≤ i
    → Gathers file from most kinds arguments most at
gathers_all {file} {kinds} {arguments} {from} {most} {at} i g h =
    let all : i ≡ most = omega (arith, g.few) in
    subst (λ (n : ℕ). Gathers file from most kinds arguments n at) all g

pub gathered : {file kinds arguments : List ℕ} {from most count next : ℕ} {r : Gathered} (stop : Stop) → r ≡ stopped_at count next stop
    → Gathers file from most kinds arguments count next → Stopped file most count next stop → GatherPost file from most kinds arguments r
gathered {file} {kinds} {arguments} {from} {most} stop e g s =
    subst (GatherPost file from most kinds arguments) (sym e) (record { gathers = g; stopped = s })
