-- Two outcomes that a public function's contract allows are equal. `Reads.Post` is the contract as the source states it.
-- Assumes nothing.
use Prim.Native.Nat.{ℕ}
use mathlib.Core.Path.{◌≡◌, refl, sym, ap, ◌∙◌}
use contract.Lifetimes.{Lfts}
use denote.Triple.Clauses.{AtExit}
use borrow.Fn.Kinds.{Dens, res_t, ended_of}
use Rattle.model.specs.Answers as answers
use Rattle.model.specs.Number.{Read}
use Rattle.model.specs.File.{Header}
use Rattle.entries.specs.Outcomes.{answer_in, place_in}
use Rattle.entries.specs.declared.answers.Refusal.{Refusal}
use Rattle.entries.proofs.OneOutcome.{refusal_same, written_back}
use Rattle.drillfile.proofs.HeaderRead.{not_done}
use Rattle.std.specs.Prelude.{Result, Ok, Err}
use Rattle.drillfile.specs.declared.answers.Headed.{Headed}
use Rattle.drillfile.specs.Headers.{seen_header, HeaderPost}
use Rattle.drillfile.proofs.read_header.Kinds as read_header_kinds
use Rattle.drillfile.proofs.read_header.Reads as read_header_reads
use Rattle.drillfile.proofs.write_header.Kinds as write_header_kinds
use Rattle.drillfile.proofs.write_header.Reads as write_header_reads

-- an outcome can be told from its answer and its place
outcome_same : (w w' : Result (Unit {0}) Refusal) → answer_in w ≡ answer_in w' → place_in w ≡ place_in w' → w ≡ w'
outcome_same (Ok one) (Ok one') p q = refl
outcome_same (Ok one) (Err r) p q = absurd (not_done r (sym p))
outcome_same (Err r) (Ok one) p q = absurd (not_done r p)
outcome_same (Err r) (Err r') p q = ap (λ x. Err x) (refusal_same {r = r} {r' = r'} p q)

-- What a reader sees of a header is the same; and a refusal, to its last entry.
abbrev pub Same : Headed → Headed → Type 0
Same r r' = (seen_header r ≡ seen_header r') × ((answer_in r.outcome ≡ answers.done → ⊥) → r ≡ r')

pub header_same : {at : ℕ} {read : Read Header} (r r' : Headed) → HeaderPost at read r → HeaderPost at read r' → Same r r'
header_same r r' p q =
    let same = p.outcome ∙ sym q.outcome in
    let answer = ap (λ o. o.answer) same in
    let outcome = outcome_same r.outcome r'.outcome answer (ap (λ o. o.place) same) in (
      same,
      λ n i. record {
        network = (p.lone n ∙ sym (q.lone (λ z. n (answer ∙ z)))) i;
        outcome = outcome i;
        next = record { at = (same i).next };
      },
    )

pub read_header_one : (κs : Lfts 1) (a : Dens κs read_header_kinds.ps) (r r' : Headed)
    (x x' : AtExit (ended_of 1 read_header_kinds.ps read_header_kinds.r) κs)
    → read_header_reads.Post κs a r x → read_header_reads.Post κs a r' x' → Same r r'
read_header_one κs a r r' x x' = header_same r r'

pub write_header_one : (κs : Lfts 2) (a : Dens κs write_header_kinds.ps) (r r' : (res_t write_header_kinds.r κs).Denot)
    (x x' : AtExit (ended_of 2 write_header_kinds.ps write_header_kinds.r) κs)
    → write_header_reads.Post κs a r x → write_header_reads.Post κs a r' x' → (r ≡ r') × (x.0.now ≡ x'.0.now)
write_header_one κs a r r' x x' p q = written_back (p ∙ sym q)
