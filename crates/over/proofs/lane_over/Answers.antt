use Rattle.std.proofs.Common.{rules, ◌∙◌, leb, arith}
use Rattle.over.proofs.Taken.{any_taken}
use Rattle.over.proofs.lane_over.Goals as goal

pub returns : goal.returns
returns c =
    let a = c.args in
    c.some.ensures (λ x. leb a.lanes x) (λ x b h. search rules) ∙ any_taken (λ x. leb a.lanes x) 0 a.lane.now a.flying (omega arith)
