use Rattle.std.proofs.Common.{rules, ◌∙◌, not, false, arith}
use Rattle.over.proofs.Taken.{any_taken}
use Rattle.over.proofs.some_down.Goals as goal

pub returns : goal.returns
returns c =
    let a = c.args in
    c.some.ensures not (λ x b h. search rules) ∙ any_taken not false a.live.now a.links (omega arith)
