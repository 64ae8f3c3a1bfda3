-- Two outcomes that a public function's contract allows are equal. `Reads.Post` is the contract as the source states it. Assumes nothing.
use mathlib.Core.Path.{◌≡◌, sym, ap, ◌∙◌}
use mathlib.Core.List.{List}
use Prim.Native.Nat.{ℕ}
use contract.Lifetimes.{Lfts}
use denote.Triple.Clauses.{AtExit}
use borrow.Fn.Kinds.{ParamKind, ResultKind, Dens, res_t, ended_of, Out}
use Rattle.network.specs.declared.opening.Opened.{Opened}
use Rattle.model.specs.Answers as answers
use Rattle.model.specs.Outcome.{Outcome}
use Rattle.network.specs.declared.record.Network.{Network}
use Rattle.network.specs.declared.record.Moved.{Moved}
use Rattle.network.specs.Opening.{seen_opened}
use Rattle.network.specs.Calls.{seen, CallPost}
use Rattle.network.proofs.record.Network.well_formed.Kinds as well_formed_kinds
use Rattle.network.proofs.record.Network.well_formed.Reads as well_formed_reads
use Rattle.network.proofs.record.Network.apply.Kinds as apply_kinds
use Rattle.network.proofs.record.Network.apply.Reads as apply
use Rattle.network.proofs.record.Network.send.Kinds as send_kinds
use Rattle.network.proofs.record.Network.send.Reads as send
use Rattle.network.proofs.record.Network.deliver.Kinds as deliver_kinds
use Rattle.network.proofs.record.Network.deliver.Reads as deliver
use Rattle.network.proofs.record.Network.lose.Kinds as lose_kinds
use Rattle.network.proofs.record.Network.lose.Reads as lose
use Rattle.network.proofs.record.Network.fail.Kinds as fail_kinds
use Rattle.network.proofs.record.Network.fail.Reads as fail
use Rattle.network.proofs.open.Kinds as opening_kinds
use Rattle.network.proofs.open.Reads as opening

abbrev pub OneAnswer : (n : ℕ) (ps : List (ParamKind n)) (k : ResultKind n) → Out n ps k → Type 0
OneAnswer n ps k Post =
    (κs : Lfts n) (a : Dens κs ps) (r r' : (res_t k κs).Denot) (x x' : AtExit (ended_of n ps k) κs) → Post κs a r x → Post κs a r' x' → r ≡ r'

pub well_formed_one : OneAnswer 0 well_formed_kinds.ps well_formed_kinds.r well_formed_reads.Post
well_formed_one κs a r r' x x' p q = p ∙ sym q

-- What a reader sees is the same; and a refusal, to its last entry.
abbrev pub Same : Opened → Opened → Type 0
Same r r' = (seen_opened r ≡ seen_opened r') × ((r.answer ≡ 0 → ⊥) → r ≡ r')

pub open_one : (κs : Lfts 1) (a : Dens κs opening_kinds.ps) (r r' : Opened) (x x' : AtExit (ended_of 1 opening_kinds.ps opening_kinds.r) κs)
    → opening.Post κs a r x → opening.Post κs a r' x' → Same r r'
open_one κs a r r' x x' p q =
    let seen = p.outcome ∙ sym q.outcome in
    let answer = ap (λ o. o.answer) seen in
    let place = ap (λ o. o.place) seen in (
      seen,
      λ n i. record { network = (p.lone n ∙ sym (q.lone (λ z. n (answer ∙ z)))) i; answer = answer i; place = place i },
    )

-- What a reader sees is the same; and where the call refused, all that it hands back.
abbrev pub SameMoved : Moved → Moved → Type 0
SameMoved r r' = (seen r ≡ seen r') × ((r.answer ≡ answers.done → ⊥) → r ≡ r')

abbrev pub OneMoved : (ps : List (ParamKind 0)) (k : ResultKind 0) → ((κs : Lfts 0) → (res_t k κs).Denot → Moved) → Out 0 ps k → Type 0
OneMoved ps k moved Post =
    (κs : Lfts 0) (a : Dens κs ps) (r r' : (res_t k κs).Denot) (x x' : AtExit (ended_of 0 ps k) κs) → Post κs a r x → Post κs a r' x'
    → SameMoved (moved κs r) (moved κs r')

one_moved : (n : Network) (o : Outcome) (r r' : Moved) → CallPost n o r → CallPost n o r' → SameMoved r r'
one_moved n o r r' p q =
    let e = p.outcome ∙ sym q.outcome in (
      e,
      λ z i. record {
        network = (p.unchanged z ∙ sym (q.unchanged (λ y. z (ap (λ o. o.answer) e ∙ y)))) i;
        answer = (e i).answer;
        handled = (e i).handled;
        went = (e i).went;
      },
    )

pub apply_one : OneMoved apply_kinds.ps apply_kinds.r (λ κs r. r) apply.Post
apply_one κs a r r' x x' p q = one_moved _ _ r r' p q

pub send_one : OneMoved send_kinds.ps send_kinds.r (λ κs r. r) send.Post
send_one κs a r r' x x' p q = one_moved _ _ r r' p q

pub deliver_one : OneMoved deliver_kinds.ps deliver_kinds.r (λ κs r. r) deliver.Post
deliver_one κs a r r' x x' p q = one_moved _ _ r r' p q

pub lose_one : OneMoved lose_kinds.ps lose_kinds.r (λ κs r. r) lose.Post
lose_one κs a r r' x x' p q = one_moved _ _ r r' p q

pub fail_one : OneMoved fail_kinds.ps fail_kinds.r (λ κs r. r) fail.Post
fail_one κs a r r' x x' p q = one_moved _ _ r r' p q
