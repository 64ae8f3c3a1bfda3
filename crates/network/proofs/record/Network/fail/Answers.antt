-- A call by its kind. Assumes nothing.
use Rattle.network.specs.View.{view}
use Rattle.steps.proofs.Calls.{call_fail}
use Rattle.network.proofs.record.Network.fail.Goals as goal

pub returns : goal.returns
returns c = rw (call_fail (view c.args.self) c.args.l) c.apply.ensures
