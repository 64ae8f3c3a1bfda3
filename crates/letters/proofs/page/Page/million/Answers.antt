-- Few digits, or two halves of rows. Assumes nothing.
use native.Mathlib.Omega.{arith}
use Prim.Native.Nat.{ℕ, ◌+◌}
use mathlib.Core.Path.{refl, ap}
use Rattle.letters.proofs.Pending.{begin, say, room_all, last}
use Rattle.letters.proofs.Halves.{no_thousands, first_room, second_room, both_put}
use Rattle.letters.proofs.page.Page.million.Goals as goal

pub small-requires : goal.small-requires
small-requires c = (
  room_all (say (no_thousands c.args.thousands c.args.rest c.if-thousands-eq0.true) (begin c.requires.0)),
  c.requires.2,
)

pub returns-then-thousands-eq0 : goal.returns-then-thousands-eq0
returns-then-thousands-eq0 c =
    last (say (no_thousands c.args.thousands c.args.rest c.if-thousands-eq0.true) (begin c.requires.0)) c.small.ensures

pub half-page-requires : goal.half-page-requires
half-page-requires c =
    let pre = c.requires in
    (first_room c.args.table.now.right c.args.thousands c.args.rest c.if-thousands-eq0.false pre.1 pre.2 pre.0, omega (arith, pre.1))

pub half-requires : goal.half-requires
half-requires c =
    let pre = c.requires in (
      second_room c.args.table.now.right c.args.thousands c.args.rest c.if-thousands-eq0.false pre.1 pre.2 pre.0 c.from.ensures c.half-page.ensures refl refl (ap (λ (n : ℕ). n + c.from.result) c.len.ensures),
      omega (arith, pre.2),
    )

pub returns : goal.returns
returns c =
    let pre = c.requires in
    both_put c.args.table.now.right c.args.thousands c.args.rest c.if-thousands-eq0.false pre.1 pre.2 pre.0 c.from.ensures c.half-page.ensures refl refl (ap (λ (n : ℕ). n + c.from.result) c.len.ensures)
    c.half.ensures
