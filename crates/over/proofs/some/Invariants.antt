-- Some item so far passes, or none. Assumes nothing.
use Rattle.std.proofs.Common.{◌≡◌, Bool, take}
use Rattle.std.specs.List.{list_any}
use Rattle.over.proofs.some.Given as goal

abbrev pub invariant-loop-x : goal.invariant-loop-x
invariant-loop-x g l = (p : _) → ((x : _) (b : Bool) → goal.F-post g l.test x b → b ≡ p x) → l.found ≡ list_any p (take l.x-index l.items)
