-- Two outcomes that the contract of a burst allows are equal. `Reads.Post` is the contract as the source states it. Assumes nothing.
use mathlib.Core.Path.{◌≡◌, sym, ap, ◌∙◌, subst}
use mathlib.Core.List.{List}
use Prim.Native.Nat.{ℕ, ◌<◌}
use contract.Lifetimes.{Lfts}
use denote.Triple.Clauses.{AtExit}
use borrow.Fn.Kinds.{Dens, ended_of}
use Rattle.model.specs.Answers as answers
use Rattle.network.specs.declared.record.Network.{Network}
use Rattle.network.specs.declared.record.Burst.{Burst}
use Rattle.network.specs.View.{view}
use Rattle.notes.specs.Bursts.{calls, call_at, packet_code, way_code, filled}
use Rattle.bursts.proofs.burst.Kinds as burst_kinds
use Rattle.bursts.proofs.burst.Reads as burst

-- The number of calls, what a reader sees and the lists; and where every call was refused, all that is handed back.
abbrev pub SameBurst : Network → List ℕ → List ℕ → Burst → Burst → Type 0
SameBurst n kinds arguments r r' =
    (r.count ≡ r'.count) × (view r.network ≡ view r'.network)
    × (((i : ℕ) → i < r.count → (call_at (view n) kinds arguments i).answer ≡ answers.done → ⊥) → r ≡ r')

pub burst_one : (κs : Lfts 5) (a : Dens κs burst_kinds.ps) (r r' : Burst) (x x' : AtExit (ended_of 5 burst_kinds.ps burst_kinds.r) κs)
    → burst.Post κs a r x → burst.Post κs a r' x'
    → SameBurst a.0 a.1.0.now a.1.1.0.now r r' × (x.1.1.1.0.now ≡ x'.1.1.1.0.now) × (x.1.1.1.1.0.now ≡ x'.1.1.1.1.0.now)
    × (x.1.1.1.1.1.0.now ≡ x'.1.1.1.1.1.0.now)
burst_one κs a r r' x x' p q =
    let n = p.made ∙ sym q.made in
    let s = view a.0 in
    let kinds = a.1.0.now in
    let arguments = a.1.1.0.now in (
      (
        n,
        p.outcome ∙ ap (calls s kinds arguments) n ∙ sym q.outcome,
        λ e i. record { network = (p.unchanged e ∙ sym (q.unchanged (λ j h. e j (subst (λ k. j < k) (sym n) h)))) i; count = n i },
      ),
      p.given.answered ∙ ap (λ k. filled (λ i. (call_at s kinds arguments i).answer) k a.1.1.1.0.now) n ∙ sym q.given.answered,
      p.given.handled
          ∙ ap (λ k. filled (λ i. packet_code (call_at s kinds arguments i).handled) k a.1.1.1.1.0.now) n
          ∙ sym q.given.handled,
      p.given.went ∙ ap (λ k. filled (λ i. way_code (call_at s kinds arguments i).went) k a.1.1.1.1.1.0.now) n ∙ sym q.given.went,
    )
