-- What was read of the list, with what is left to read, is the whole; then it is opened. Assumes nothing.
use Prim.Native.Nat.{◌*◌}
use Rattle.drillfile.proofs.NodeList.{SoFar}
use Rattle.drillfile.proofs.header.read_links.Given as goal

abbrev pub invariant-loop-x : goal.invariant-loop-x
invariant-loop-x l = SoFar l.file l.at (2 * l.sizes.links) l.list l.place l.x
