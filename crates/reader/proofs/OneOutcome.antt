-- Two outcomes that a public function's contract allows are equal. `Reads.Post` is the contract as the source states it;
-- for a function that takes or gives a reader the lemma speaks of its clause itself, at every model. Assumes nothing.
use mathlib.Core.Path.{◌≡◌, sym, ◌∙◌}
use seplogic.Ra.Ura.{Ura}
use base.Logic.{ent}
use contract.Lifetimes.{Lfts}
use contract.Monad.{conj, conj_l, conj_r, fact, fact_i, fact_use}
use denote.Triple.Entry.{Args, Res}
use denote.Triple.Clauses.{Ended, Clauses, AtExit}
use borrow.Fn.Kinds.{Dens, ended_of}
use borrow.Fn.World.{World}
use Rattle.groups.proofs.OneOutcome.{OneAnswer}
use Rattle.drillfile.specs.declared.answers.Headed.{Headed}
use Rattle.entries.proofs.OneOutcome.{got_same}
use Rattle.drillfile.proofs.OneOutcome.{Same, header_same}
use Rattle.reader.specs.contracts.Reader.new as new
use Rattle.reader.specs.contracts.Reader.moved as moved
use Rattle.reader.specs.contracts.Reader.header as header
use Rattle.reader.specs.contracts.Reader.next as next
use Rattle.reader.proofs.header_of.Kinds as header_of_kinds
use Rattle.reader.proofs.header_of.Reads as header_of
use Rattle.reader.proofs.next_at.Kinds as next_at_kinds
use Rattle.reader.proofs.next_at.Reads as next_at_reads

pub header_of_one : (κs : Lfts 1) (a : Dens κs header_of_kinds.ps) (r r' : Headed)
    (x x' : AtExit (ended_of 1 header_of_kinds.ps header_of_kinds.r) κs)
    → header_of.Post κs a r x → header_of.Post κs a r' x' → Same r r'
header_of_one κs a r r' x x' = header_same r r'

pub next_at_one : OneAnswer 1 next_at_kinds.ps next_at_kinds.r next_at_reads.Post
next_at_one κs a r r' x x' = got_same r r'

-- of two outcomes of one call, each with what the clause says of it
abbrev pub OneClause : (T : Ended)
    → ((w : World) → Clauses w.𝓤 T)
    → ((κs : Lfts T.signature.lifetimes) → Res T.signature κs → Res T.signature κs → Type 0)
    → Type 2
OneClause T clauses Alike =
    (w : World) (κs : Lfts T.signature.lifetimes) (a : Args T.signature κs) (g g' : (clauses w κs a).ghost)
    (r r' : Res T.signature κs) (x x' : AtExit T κs)
    → ent w.𝓤
    (conj w.𝓤 ((clauses w κs a).ensures g r x) ((clauses w κs a).ensures g' r' x'))
    (fact w.𝓤 (Alike κs r r'))

both : {M : Type 1} (𝓤 : Ura M) (φ ψ χ : Type 0) → (φ → ψ → χ) → ent 𝓤 (conj 𝓤 (fact 𝓤 φ) (fact 𝓤 ψ)) (fact 𝓤 χ)
both 𝓤 φ ψ χ f =
    fact_use 𝓤 φ (conj_l 𝓤 (fact 𝓤 φ) (fact 𝓤 ψ)) (λ p.
    fact_use 𝓤 ψ (conj_r 𝓤 (fact 𝓤 φ) (fact 𝓤 ψ)) (λ q. fact_i 𝓤 χ (conj 𝓤 (fact 𝓤 φ) (fact 𝓤 ψ)) (f p q)))

pub new_one : OneClause new.ended (λ w. new.clauses w.𝓛 w.𝓜.mem w.𝓡.run) (λ κs r r'. r ≡ r')
new_one w κs a g g' r r' x x' = both w.𝓤 _ _ _ (λ p q. p ∙ sym q)

pub moved_one : OneClause moved.ended (λ w. moved.clauses w.𝓛 w.𝓜.mem w.𝓡.run) (λ κs r r'. r ≡ r')
moved_one w κs a g g' r r' x x' = both w.𝓤 _ _ _ (λ p q. p ∙ sym q)

pub header_one : OneClause header.ended (λ w. header.clauses w.𝓛 w.𝓜.mem w.𝓡.run) (λ κs. Same)
header_one w κs a g g' r r' x x' = both w.𝓤 _ _ _ (header_same r r')

pub next_one : OneClause next.ended (λ w. next.clauses w.𝓛 w.𝓜.mem w.𝓡.run) (λ κs r r'. r ≡ r')
next_one w κs a g g' r r' x x' = both w.𝓤 _ _ _ (got_same r r')
