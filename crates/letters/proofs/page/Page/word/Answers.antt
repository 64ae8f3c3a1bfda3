-- A part overwritten. Assumes nothing.
use native.Mathlib.Omega.{arith}
use mathlib.Core.Path.{refl}
use Rattle.letters.proofs.Over.{part_stored}
use Rattle.letters.proofs.page.Page.word.Goals as goal

pub returns : goal.returns
returns c =
    let a = c.args in
    let page = a.self in
    record {
      same = refl;
      next = refl;
      stores = part_stored page.out.now c.copy_from_slice.new.self a.w.now page.at _ (omega arith) (omega arith) c.copy_from_slice.ensures.after;
    }
