-- One event in place, on a copy of the record. Assumes nothing.
use Rattle.network.proofs.Remade.{called}
use Rattle.network.proofs.record.Network.apply.Goals as goal

pub returns : goal.returns
returns c =
    called c.args.self c.args.kind c.args.argument c.apply-step.new.arrows c.apply-step.new.flight c.apply-step.result c.apply-step.ensures
