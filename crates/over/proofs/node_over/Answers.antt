use Rattle.std.proofs.Common.{◌∙◌, ◌≡◌, ◌-◌, ◌<◌, not, leb, eqb, get_or, inl, inr, arith}
use Rattle.std.proofs.lemmas.List.{get_or-take}
use borrow.Author.Tests.{eq-eqb, ne_eqb, leb-true, leb-false}
use Rattle.model.proofs.Below.{look}
use Rattle.arrays.proofs.Loops.{or_none, none_none, none_more}
use Rattle.over.proofs.node_over.Goals as goal

pub loop-a-init : goal.loop-a-init
loop-a-init c = none_none _

pub loop-a-preserved : goal.loop-a-preserved
loop-a-preserved c =
    let h = c.loop-a in
    let a = c.args in
    let x = get_or a.node.now h.a-index 0 in
    let more = c.saturating_sub-over.result in
    let i : h.a-index < a.ends = omega arith in
    let m : more ≡ x - (a.nodes - 1) = rw (get_or-take a.ends a.node.now h.a-index 0 i) at c.saturating_sub-over.ensures in
    let e : eqb more 0 ≡ not (leb a.nodes x) = elim (look (leb a.nodes x)) [
      | inl t ↦ rw (t, ne_eqb more 0 (λ z. omega (arith, z, m, leb-true a.nodes x t)))
      | inr f ↦ rw (f, eq-eqb more 0 (omega (arith, m, leb-false a.nodes x f)))
    ] in
    or_none h.over more ∙ none_more _ h.a-index h.invariant e
