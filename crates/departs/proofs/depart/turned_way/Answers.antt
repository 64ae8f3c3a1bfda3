-- The turn, then the way out. Assumes nothing.
use native.Mathlib.Omega.{arith}
use mathlib.Core.Path.{sym, ◌∙◌}
use borrow.Author.Rules.{rules}
use Rattle.model.specs.Departure.{has_out, door}
use Rattle.arrays.specs.View.{ends_seen}
use Rattle.model.proofs.Departure.{door_out}
use Rattle.departs.proofs.Ways.{turn_is, turned_out, has_way, way_within, leaves_by_lem, chained_at}
use Rattle.departs.proofs.depart.turned_way.Goals as goal

pub way-requires : goal.way-requires
way-requires c = record { fits = c.requires.links_fit; node = omega arith; chain = chained_at c.args.threads c.args.plan.now c.requires.chained c.args.v (omega arith) }

pub unwrap-requires : goal.unwrap-requires
unwrap-requires c =
    let a = c.args in
    let o = turned_out a.plan.now a.arrows.now c.turn.new.arrows a.v c.turn.ensures.ends c.requires.finds in
    rw (c.way.ensures, o) (search rules)

pub returns : goal.returns
unfolding has_out door
returns c =
    let a = c.args in
    let w = has_way (ends_seen a.plan.now c.turn.new.arrows) a.v _ (sym c.unwrap.ensures ∙ c.way.ensures) in
    record {
      leaves = λ flight t n. leaves_by_lem a.v _ n (turn_is a.plan.now a.arrows.now c.turn.new.arrows flight t a.v c.turn.ensures.ends c.turn.ensures.turns c.requires.node (omega arith)) w.1;
      within = way_within (ends_seen a.plan.now c.turn.new.arrows) a.v _ (sym c.unwrap.ensures ∙ c.way.ensures);
      long = record { long = c.turn.ensures.ends.long; turns_long = c.turn.ensures.long };
      live = c.turn.ensures.ends.live;
      remote = c.turn.ensures.ends.remote;
    }
