-- The whole text in each case that the code tells apart. Assumes nothing.
use Prim.Native.Nat.{ℕ, ◌≤◌, ◌<◌}
use native.Mathlib.Omega.{arith}
use mathlib.Core.Path.{◌≡◌, sym, ap, ◌∙◌}
use mathlib.Core.List.{List}
use lib.ListN.{length}
use lib.Seq.{sets}
use borrow.Author.Tests.{lt-ltb, le-ltb}
use Rattle.model.specs.Limits.{file_most, text_most}
use Rattle.model.specs.Answers as answers
use Rattle.model.specs.Formed.{well_formed}
use Rattle.model.specs.File.{read_header, read_events}
use Rattle.model.specs.Text.{refused_line, drill_text, text_from, drill_output}
use Rattle.model.proofs.Opened.{opening_formed}
use Rattle.model.proofs.Had.{header_moves}
use Rattle.model.proofs.TextFits.{text_fits}
use Rattle.std.specs.Prelude.{Err}
use Rattle.entries.specs.declared.answers.Refusal.{Refusal}
use Rattle.entries.specs.Outcomes.{answer_of, place_of, answer_in, place_in}
use Rattle.drillfile.proofs.HeaderRead.{not_done}
use Rattle.drillfile.specs.declared.answers.Headed.{Headed}
use Rattle.drillfile.specs.Headers.{HeaderPost}
use Rattle.groups.proofs.Stores.{sets_front}
use Rattle.reader.proofs.Told.{accepted_told, refused_told}
use Rattle.letters.specs.declared.page.Page.{Page}
use Rattle.letters.specs.Puts.{Put, Opens}
use Rattle.replay.specs.Runs.{text_of, RunPre}
use Rattle.replay.specs.Texts.{TextPost}
use Rattle.letters.proofs.Pending.{Pending, begin, say, room_all}

module _ (file : List ℕ) where
  too_long : file_most < length file → drill_output file ≡ refused_line answers.spoilt file_most
  unfolding drill_output
  too_long h = rw (lt-ltb file_most (length file) h)

  by_header : length file ≤ file_most → drill_output file ≡ text_from file (read_header file 0)
  unfolding drill_output
  by_header h = rw (le-ltb file_most (length file) h)

  module _ {out : List ℕ} {name : ℕ} {page : Page} (size : length out ≡ text_most) (opens : Opens out name page) where
    whole : Pending page (drill_output file) page (drill_output file)
    whole = begin (record { size = ap length opens.text ∙ size; fits = omega (arith, text_fits file, opens.front) })

    -- what is written at the front is the contract's text
    pub text_put : {q : Page} {out' : List ℕ} {r : ℕ} → Put page (drill_output file) q → out' ≡ q.out.now → r ≡ q.at → TextPost file out out' r
    text_put p left count =
        record {
          count = omega (arith, count, p.next, opens.front);
          bytes = left
              ∙ p.stores
              ∙ ap (λ l. sets l page.at (drill_output file)) opens.text
              ∙ ap (λ i. sets out i (drill_output file)) opens.front
              ∙ sets_front (drill_output file) out (omega (arith, text_fits file));
        }

    pub long : file_most < length file → Pending page (drill_output file) page (refused_line answers.spoilt file_most)
    long h = say (too_long h) whole

    module _ (short : length file ≤ file_most) (r : Headed) (p : HeaderPost 0 (read_header file 0) r) where
      pub no_header : (refusal : Refusal) → r.outcome ≡ Err refusal → {answer place : ℕ} → answer ≡ answer_of refusal → place ≡ place_of refusal
          → Pending page (drill_output file) page (refused_line answer place)
      no_header refusal e f g =
          let t = refused_told file 0 r p (λ z. not_done refusal (sym (ap answer_in e) ∙ z)) in
          say
          (by_header short
          ∙ ap (text_from file) t.0
          ∙ (λ i. refused_line (answer_in (e i)) (place_in (e i)))
          ∙ (λ i. refused_line (sym f i) (sym g i)))
          whole

      module _ (z : answer_in r.outcome ≡ answers.done) where
        pub header : Pending page (drill_output file) page (text_of file r.next.at r.network)
        header =
            let t = accepted_told file 0 r p z in
            say
            (by_header short
            ∙ ap (text_from file) t.1
            ∙ ap (λ s. drill_text s (read_events file r.next.at)) (sym t.2))
            whole

        pub runs : RunPre file r.next.at r.network page
        runs =
            let t = accepted_told file 0 r p z in
            let h = t.0 in
            let moves = header_moves file 0 h r.next.at t.1 in
            record {
              formed = ap well_formed t.2 ∙ opening_formed h.nodes h.destination h.list;
              past = moves.0;
              inside = moves.1;
              short = short;
              room = room_all header;
            }
