use Rattle.std.proofs.Common.{◌≡◌, ◌∙◌, ◌++◌, ap, true, false, drop, replicate, rules}
use Rattle.model.specs.Limits.{links_most}
use Rattle.pairs.proofs.Filling.{truths}
use Rattle.pairs.proofs.fill.live_of.Goals as goal

pub returns : goal.returns
returns c =
    let links = c.args.links in
    let filled : c.fill.new.self ≡ replicate links true = search rules in
    ap (λ l. l ++ drop links (replicate links_most false)) filled ∙ truths links links_most c.requires
