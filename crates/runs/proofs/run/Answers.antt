use native.Mathlib.Omega.{arith}
use mathlib.Core.Path.{◌≡◌, sym, ap, ◌∙◌}
use mathlib.Core.Bool.{true}
use lib.ListN.{get_or}
use Rattle.model.specs.State.{State}
use Rattle.model.specs.Formed.{well_formed}
use Rattle.model.specs.Outcome.{Outcome}
use Rattle.arrays.specs.View.{shown}
use Rattle.arrays.specs.Told.{tells}
use Rattle.queues.specs.Queue.{flown}
use Rattle.steps.proofs.Calls.{call_lane}
use Rattle.notes.specs.Bursts.{calls}
use Rattle.notes.proofs.Bursts.{ran_none}
use Rattle.runs.proofs.Going.{Going, still_formed, few_going, going_sound, going_there, going_gone, going_moved, going_on}
use Rattle.runs.proofs.run.Goals as goal
use Rattle.runs.proofs.run.Goals.{After-ask-asked}

pub loop-i-init : goal.loop-i-init
loop-i-init c =
    let a = c.args in
    record {
      queued = c.requires.queued;
      many = c.requires.many;
      ran = ran_none (shown a.plan.now a.arrows.now (flown a.queues.now) a.tally) a.kinds.now a.arguments.now a.answers.now a.packets.now a.ways.now;
    }

pub room_for_one-requires : goal.room_for_one-requires
room_for_one-requires c = (few_going _ _ _ _ _ _ _ c.loop-i.invariant c.requires.formed, c.loop-i.invariant.queued)

-- the burst after room was made, and what the packets tell then
module _ (c : goal.After-ask-asked) where
  abbrev start : State
  start = let a = c.args in shown a.plan.now a.arrows.now (flown a.queues.now) a.tally

  going : Going c.args.plan.now start c.args.kinds.now c.args.arguments.now c.args.answers.now c.args.packets.now c.args.ways.now c.loop-i.arrows c.room_for_one.new.queues c.loop-i.answers c.loop-i.packets c.loop-i.ways c.loop-i.t c.loop-i.i
  going =
      going_moved c.args.plan.now start c.args.kinds.now c.args.arguments.now c.args.answers.now c.args.packets.now c.args.ways.now c.loop-i.invariant
      c.room_for_one.new.queues c.room_for_one.ensures.packets c.room_for_one.ensures.queued

  told : c.ask-asked.result.told ≡ tells (flown c.room_for_one.new.queues) (get_or c.args.kinds.now c.loop-i.i 0) (get_or c.args.arguments.now c.loop-i.i 0)
  told = (c.ask-asked.ensures _ _ going.queued).told

  formed : well_formed (shown c.args.plan.now c.loop-i.arrows (flown c.room_for_one.new.queues) c.loop-i.t) ≡ true
  formed = still_formed c.args.plan.now start c.args.kinds.now c.args.arguments.now c.args.answers.now c.args.packets.now c.args.ways.now going c.requires.formed

pub step-r-requires-clause-sound : goal.step-r-requires-clause-sound
step-r-requires-clause-sound c = going_sound _ _ _ _ _ _ _ (going (goal.at.step-r-requires-clause-sound c).After-ask-asked) c.requires.formed

pub step-r-requires-clause-flying : goal.step-r-requires-clause-flying
step-r-requires-clause-flying c =
    let o = (goal.at.step-r-requires-clause-flying c).After-ask-asked in
    going_there _ _ _ _ _ _ _ (going o) _ _ (told o)

pub step-r-requires-clause-gone : goal.step-r-requires-clause-gone
step-r-requires-clause-gone c =
    let o = (goal.at.step-r-requires-clause-gone c).After-ask-asked in
    going_gone _ _ _ _ _ _ _ (going o) _ _ (told o)

pub carry-requires : goal.carry-requires
carry-requires c =
    let o = (goal.at.carry-requires c).After-ask-asked in
    let g = going o in (
      c.room_for_one.ensures.room,
      λ x e. call_lane _ _ _ (formed o) x (sym (ap (λ (z : Outcome). z.went) (c.step-r.ensures.outcome _ (told o) g.many (formed o))) ∙ e),
      g.queued,
      c.ask-asked.ensures _ _ g.queued,
    )

pub note-requires : goal.note-requires
note-requires c =
    let r = c.loop-i.invariant.ran in
    let l = c.loop-i-test.true in
    (omega (arith, l, r.answers_long, c.requires.answers_enough), omega (arith, l, r.packets_long, c.requires.packets_enough), omega (arith, l, r.ways_long, c.requires.ways_enough))

pub loop-i-preserved : goal.loop-i-preserved
loop-i-preserved c =
    let l = c.loop-i-test.true in
    let n = c.note.ensures in
    let o = (goal.at.loop-i-preserved c).After-ask-asked in
    let g = going o in
    going_on _ _ _ _ _ _ _ g c.step-r.new.arrows c.carry.new.queues c.note.new.answers c.note.new.packets c.note.new.ways c.step-r.result
    (c.step-r.ensures.outcome _ (told o) g.many (formed o)) (c.step-r.ensures.flying _ (told o) g.many) c.carry.ensures.packets c.carry.ensures.queued n.0 n.1 n.2
    (omega (arith, l, c.requires.answers_enough)) (omega (arith, l, c.requires.packets_enough)) (omega (arith, l, c.requires.ways_enough))

pub returns : goal.returns
returns c =
    let a = c.args in
    let g = c.loop-i.invariant in
    let e : c.loop-i.i ≡ a.count = omega arith in
    record {
      state = g.ran.state ∙ ap (calls (shown a.plan.now a.arrows.now (flown a.queues.now) a.tally) a.kinds.now a.arguments.now) e;
      lists = rw e at g.ran.lists;
      many = g.many;
      room = g.queued.within;
    }
