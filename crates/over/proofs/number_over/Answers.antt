use Rattle.std.proofs.Common.{rules, ◌∙◌, leb, arith}
use Rattle.over.proofs.Taken.{any_taken}
use Rattle.over.proofs.number_over.Goals as goal

pub returns : goal.returns
returns c =
    let a = c.args in
    c.some.ensures (λ n. leb a.admitted n) (λ n b h. search rules) ∙ any_taken (λ n. leb a.admitted n) 0 a.number.now a.flying (omega arith)
