-- A call by its kind. Assumes nothing.
use Rattle.network.specs.View.{view}
use Rattle.steps.proofs.Calls.{call_deliver}
use Rattle.network.proofs.record.Network.deliver.Goals as goal

pub returns : goal.returns
returns c = rw (call_deliver (view c.args.self) c.args.x) c.apply.ensures
