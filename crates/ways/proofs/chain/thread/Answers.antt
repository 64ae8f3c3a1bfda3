use Prim.Native.Nat.{◌+◌, ◌-◌}
use native.Mathlib.Omega.{arith}
use mathlib.Core.Path.{◌≡◌}
use lib.ListN.{get_or-replicate}
use Rattle.model.specs.Limits.{nodes_most, ends_most}
use Rattle.ways.proofs.Chains.{threaded_none, threaded_more}
use borrow.Author.Rules.{rules}
use Rattle.ways.proofs.chain.thread.Goals as goal

pub loop-k-init : goal.loop-k-init
loop-k-init c =
    let all : c.args.plan.now.links - 0 ≡ c.args.plan.now.links = omega arith in
    rw all
    (threaded_none c.args.plan.now _ _ (search rules) (search rules) (λ v b. get_or-replicate nodes_most v _ 0 b) (λ x b. get_or-replicate ends_most x 0 0 b))

pub loop-k-preserved : goal.loop-k-preserved
loop-k-preserved c =
    let h = c.loop-k in
    let n = c.args.plan.now.links in
    let l = n - 1 - h.k in
    let here : n - (h.k + 1) ≡ l = omega arith in
    let on : n - h.k ≡ l + 1 = omega arith in
    rw (here, c.from-v.ensures, c.from-w.ensures)
    (threaded_more c.args.plan.now h.heads h.next l (rw on at h.invariant) (omega arith) c.requires.fits c.requires.named)

pub returns : goal.returns
returns c =
    let h = c.loop-k in
    let e : c.args.plan.now.links - h.k ≡ 0 = omega arith in
    rw e at h.invariant
