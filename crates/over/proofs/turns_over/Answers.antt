use Rattle.std.proofs.Common.{rules, ◌∙◌, ltb, arith}
use Rattle.over.proofs.Taken.{any_taken}
use Rattle.over.proofs.turns_over.Goals as goal

pub returns : goal.returns
returns c =
    let a = c.args in
    c.some.ensures (λ t. ltb a.events t) (λ t b h. search rules) ∙ any_taken (λ t. ltb a.events t) 0 a.turns.now a.nodes (omega arith)
