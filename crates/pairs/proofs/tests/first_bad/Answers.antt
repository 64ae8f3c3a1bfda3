use Rattle.std.proofs.Common.{◌∙◌, sym, ap, not}
use Rattle.arrays.proofs.Searches.{first_yes, first_no, first_end}
use Rattle.pairs.proofs.BadLinks.{bad_start, bad_is}
use Rattle.pairs.proofs.tests.first_bad.Goals as goal

pub loop-l-init : goal.loop-l-init
loop-l-init c = bad_start c.args.nodes c.args.list.now

pub loop-l-preserved : goal.loop-l-preserved
loop-l-preserved c =
    let h = c.loop-l in
    let is = bad_is c.args.nodes c.args.list.now h.l _ c.joined.ensures in
    h.invariant ∙ first_no _ h.l _ c.loop-l-test.true (is ∙ ap not c.if-not-joined.false)

pub returns-then-not-joined : goal.returns-then-not-joined
returns-then-not-joined c =
    let h = c.loop-l in
    let is = bad_is c.args.nodes c.args.list.now h.l _ c.joined.ensures in
    sym (h.invariant ∙ first_yes _ h.l _ c.loop-l-test.true (is ∙ ap not c.if-not-joined.true))

pub returns : goal.returns
returns c =
    let h = c.loop-l in
    sym (h.invariant ∙ first_end _ h.l _ h.auto.l-end c.loop-l-test.false)
