-- A call by its kind. Assumes nothing.
use Rattle.network.specs.View.{view}
use Rattle.steps.proofs.Calls.{call_send}
use Rattle.network.proofs.record.Network.send.Goals as goal

pub returns : goal.returns
returns c = rw (call_send (view c.args.self) c.args.v) c.apply.ensures
