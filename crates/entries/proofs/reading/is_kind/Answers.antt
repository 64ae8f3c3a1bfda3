-- 1 to 4 are known, and no other. Assumes nothing.
use Rattle.entries.proofs.KnownKinds.{under, above}
use Rattle.entries.proofs.reading.is_kind.Goals as goal

pub returns-then-kind-ge-SEND : goal.returns-then-kind-ge-SEND
returns-then-kind-ge-SEND c = above c.args.kind c.if-kind-ge-SEND.true

pub returns-else-kind-ge-SEND : goal.returns-else-kind-ge-SEND
returns-else-kind-ge-SEND c = under c.args.kind c.if-kind-ge-SEND.false
