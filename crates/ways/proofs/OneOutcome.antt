-- Two outcomes that the contract of `thread` allows are equal. `Reads.Post` is the contract as the source states it. Assumes nothing.
use Prim.Native.Nat.{ℕ, ◌*◌, ◌<◌}
use native.Mathlib.Omega.{arith}
use mathlib.Core.Path.{◌≡◌, sym, ◌∙◌}
use mathlib.Core.Logic.{◌⊎◌, inl, inr}
use mathlib.Core.Bool.{true, false}
use mathlib.Core.List.{List}
use lib.Dec.{ltb}
use lib.ListN.{length, get_or}
use lib.Seq.{ext_get_or}
use borrow.Author.Tests.{ltb-true, ltb-false}
use contract.Lifetimes.{Lfts}
use denote.Triple.Clauses.{AtExit}
use borrow.Fn.Kinds.{Dens, ended_of}
use Rattle.model.proofs.Below.{look}
use Rattle.arrays.specs.declared.record.Plan.{Plan}
use Rattle.ways.specs.Chains.{Threaded}
use Rattle.ways.specs.declared.chain.Threads.{Threads}
use Rattle.ways.proofs.chain.thread.Kinds as thread_kinds
use Rattle.ways.proofs.chain.thread.Reads as thread

module _ (plan : Plan) (heads next heads' next' : List ℕ) (p : Threaded plan (record { heads = heads; next = next }) 0) (q : Threaded plan (record { heads = heads'; next = next' }) 0) where
  same_heads : heads ≡ heads'
  same_heads =
      ext_get_or 0 heads heads' (p.heads_long ∙ sym q.heads_long)
      (λ v h. p.begins v (omega (arith, p.heads_long)) ∙ sym (q.begins v (omega (arith, p.heads_long))))

  by : (x : ℕ) → x < length next → (ltb x (2 * plan.links) ≡ true) ⊎ (ltb x (2 * plan.links) ≡ false) → get_or next x 0 ≡ get_or next' x 0
  by x h (inl e) = p.goes x (omega arith) (ltb-true x (2 * plan.links) e) ∙ sym (q.goes x (omega arith) (ltb-true x (2 * plan.links) e))
  by x h (inr e) =
      p.rest x (ltb-false x (2 * plan.links) e) (omega (arith, p.next_long))
      ∙ sym (q.rest x (ltb-false x (2 * plan.links) e) (omega (arith, p.next_long)))

  same_next : next ≡ next'
  same_next = ext_get_or 0 next next' (p.next_long ∙ sym q.next_long) (λ x h. by x h (look (ltb x (2 * plan.links))))

pub thread_one : (κs : Lfts 1) (a : Dens κs thread_kinds.ps) (r r' : Threads) (x x' : AtExit (ended_of 1 thread_kinds.ps thread_kinds.r) κs)
    → thread.Post κs a r x → thread.Post κs a r' x' → r ≡ r'
thread_one κs a r r' x x' p q =
    λ i. record { heads = same_heads _ r.heads r.next r'.heads r'.next p q i; next = same_next _ r.heads r.next r'.heads r'.next p q i }
