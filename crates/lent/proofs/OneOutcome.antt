-- Two outcomes that the contract allows are equal. `Reads.Post` is the contract as the source states it. Assumes nothing.
use mathlib.Core.Path.{◌≡◌, sym, ap, ◌∙◌}
use Prim.Native.Nat.{ℕ}
use contract.Lifetimes.{Lfts}
use denote.Triple.Clauses.{AtExit}
use borrow.Fn.Kinds.{Dens, ended_of}
use Rattle.model.specs.Answers as answers
use Rattle.model.specs.Outcome.{Outcome}
use Rattle.arrays.specs.declared.record.Plan.{Plan}
use Rattle.arrays.specs.declared.record.Arrows.{Arrows}
use Rattle.arrays.specs.declared.record.Flight.{Flight}
use Rattle.arrays.specs.declared.record.Tally.{Tally}
use Rattle.arrays.specs.View.{shown}
use Rattle.arrays.specs.Flight.{flying_in}
use Rattle.departs.specs.declared.tally.Step.{Step}
use Rattle.departs.specs.Steps.{outcome_of}
use Rattle.lent.specs.Lent.{LentPost}
use Rattle.lent.proofs.apply.Kinds as apply_kinds
use Rattle.lent.proofs.apply.Reads as apply

-- What a reader sees is the same; and where the call refused, all that was lent and all that is given.
abbrev pub Same : Plan → Arrows → Flight → Step → Arrows → Flight → Step → Type 0
Same p b g r b' g' r' =
    (outcome_of (shown p b (flying_in g r.tally.flying) r.tally) r ≡ outcome_of (shown p b' (flying_in g' r'.tally.flying) r'.tally) r')
    × ((r.answer ≡ answers.done → ⊥) → (b ≡ b') × (g ≡ g') × (r ≡ r'))

one : (p : Plan) (a : Arrows) (f : Flight) (t : Tally) (kind argument : ℕ) (b b' : Arrows) (g g' : Flight) (r r' : Step)
    → LentPost p a f t kind argument b g r → LentPost p a f t kind argument b' g' r' → Same p b g r b' g' r'
one p a f t kind argument b b' g g' r r' x y =
    let e = x.outcome ∙ sym y.outcome in (
      e,
      λ n.
          let u = x.unchanged n in
          let v = y.unchanged (λ z. n (ap (λ (o : Outcome). o.answer) e ∙ z)) in (
            u.0 ∙ sym v.0,
            u.1 ∙ sym v.1,
            λ i. record { tally = (u.2 ∙ sym v.2) i; answer = (e i).answer; handled = (e i).handled; went = (e i).went },
          ),
    )

pub apply_one : (κs : Lfts 3) (a : Dens κs apply_kinds.ps) (r r' : Step) (x x' : AtExit (ended_of 3 apply_kinds.ps apply_kinds.r) κs)
    → apply.Post κs a r x → apply.Post κs a r' x' → Same a.0.now x.1.0.now x.1.1.0.now r x'.1.0.now x'.1.1.0.now r'
apply_one κs a r r' x x' p q = one a.0.now _ _ _ _ _ x.1.0.now x'.1.0.now x.1.1.0.now x'.1.1.0.now r r' p q
