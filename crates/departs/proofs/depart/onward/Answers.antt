-- By the way out, or by a turn where there is none. Assumes nothing.
use Prim.Native.Nat.{◌*◌, ◌/◌}
use native.Mathlib.Omega.{arith}
use mathlib.Core.Path.{refl, sym, ◌∙◌}
use mathlib.Core.Bool.{false}
use Rattle.model.specs.Departure.{has_out, door}
use Rattle.model.proofs.Departure.{door_out}
use Rattle.arrays.specs.View.{ends_seen, shown}
use Rattle.arrays.proofs.Below.{used_in}
use Rattle.departs.proofs.Ways.{way_within, no_way, onward_by, onward_turned, turn_finds, chained_at}
use Rattle.departs.proofs.depart.onward.Goals as goal

pub way-requires : goal.way-requires
way-requires c = record { fits = c.requires.links_fit; node = omega arith; chain = chained_at c.args.threads c.args.plan.now c.requires.chained c.args.v (omega arith) }

pub turned_way-requires : goal.turned_way-requires
unfolding has_out door
turned_way-requires c =
    let a = c.args in
    let p = a.plan.now in
    let r = a.arrows.now in
    record {
      links_fit = c.requires.links_fit;
      nodes_fit = c.requires.nodes_fit;
      node = c.requires.node;
      turns = c.requires.turns;
      finds = turn_finds (ends_seen p r) a.v
          (λ x h m. used_in p.links false r.live (x / 2) (omega arith) ∙ c.requires.marks x h (sym (used_in (2 * p.links) false r.mark x h) ∙ m))
          c.requires.live (no_way (ends_seen p r) a.v (sym c.in-None.is ∙ c.way.ensures));
      chained = c.requires.chained;
    }

pub returns-in-None : goal.returns-in-None
unfolding has_out door
returns-in-None c =
    let a = c.args in
    record {
      leaves = λ flight t n. c.turned_way.ensures.leaves flight t n
          ∙ onward_turned (shown a.plan.now a.arrows.now flight t) a.v n (no_way (shown a.plan.now a.arrows.now flight t) a.v (sym c.in-None.is ∙ c.way.ensures));
      within = c.turned_way.ensures.within;
      long = c.turned_way.ensures.long;
      live = c.turned_way.ensures.live;
      remote = c.turned_way.ensures.remote;
    }

pub returns-in-Some : goal.returns-in-Some
unfolding has_out door
returns-in-Some c =
    let a = c.args in
    let s = ends_seen a.plan.now a.arrows.now in
    record {
      leaves = λ flight t n. onward_by (shown a.plan.now a.arrows.now flight t) a.v _ n (sym c.in-Some.is ∙ c.way.ensures);
      within = way_within s a.v c.in-Some.x (sym c.in-Some.is ∙ c.way.ensures);
      long = record { long = record { out = omega arith; local = omega arith; mark = omega arith }; turns_long = omega arith };
      live = refl;
      remote = refl;
    }
