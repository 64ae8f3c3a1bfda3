-- Three stores. Assumes nothing.
use native.Mathlib.Omega.{arith}
use Rattle.packets.proofs.Packets.{put_at}
use Rattle.packets.proofs.list.put.Goals as goal

pub returns-clause-packets : goal.returns-clause-packets
returns-clause-packets c =
    let a = c.args in
    let f = a.flight.now in
    put_at f.number f.lane f.bit a.flying a.n a.x a.b (omega arith) (omega arith) (omega arith)
