-- The check once, the chains, the packets lined up, the calls on copies, the packets gathered. Assumes nothing.
use Prim.Native.Nat.{ℕ}
use native.Mathlib.Omega.{arith}
use mathlib.Core.Path.{◌≡◌, refl, sym, ap, ◌∙◌}
use mathlib.Core.Bool.{false, not}
use mathlib.Core.List.{List}
use lib.ListN.{length}
use borrow.Author.Tests.{not-true}
use Rattle.model.specs.State.{State, Packet}
use Rattle.model.specs.Formed.{well_formed}
use Rattle.model.proofs.Below.{clash}
use Rattle.arrays.specs.View.{shown}
use Rattle.arrays.specs.Flight.{flying_in}
use Rattle.lent.proofs.InPlace.{many, few, sound, lanes_named}
use Rattle.network.specs.View.{view}
use Rattle.notes.specs.Bursts.{calls}
use Rattle.notes.proofs.Bursts.{calls_same, shortest_is, given_by}
use Rattle.notes.proofs.Refusals.{all_refused, calls_refused, none_done, done_none}
use Rattle.bursts.proofs.InFlight.{chained, few_after}
use Rattle.bursts.proofs.burst.Goals as goal

pub refuse_all-requires : goal.refuse_all-requires
refuse_all-requires c =
    let a = c.args in
    let z =
    shortest_is _ (length a.kinds.now) (length a.arguments.now) (length a.answers.now) (length a.packets.now) (length a.ways.now)
    c.shortest-count.ensures in
    (z.third, z.fourth, z.fifth)

pub returns-then-not-well_formed : goal.returns-then-not-well_formed
returns-then-not-well_formed c =
    let a = c.args in
    let bad : well_formed (view a.n) ≡ false = sym c.well_formed-2.ensures ∙ c.if-not-well_formed.true in
    let r = c.refuse_all.ensures in
    record {
      made = c.shortest-count.ensures;
      outcome = calls_same (view a.n) a.kinds.now a.arguments.now bad _;
      given = all_refused (view a.n) a.kinds.now a.arguments.now bad _ a.answers.now a.packets.now a.ways.now _ _ _ r.0 r.1 r.2;
      unchanged = λ e. refl;
    }

pub thread-threads-requires : goal.thread-threads-requires
thread-threads-requires c =
    let n = c.args.n in
    let s = sound n.plan n.arrows n.flight n.tally (sym c.well_formed-2.ensures ∙ c.if-not-well_formed.false) in
    record { fits = s.links_fit; named = λ x h. omega (arith, s.named x h, s.nodes_fit) }

pub line_up-queues-requires : goal.line_up-queues-requires
line_up-queues-requires c =
    let n = c.args.n in
    let good = sym c.well_formed-2.ensures ∙ c.if-not-well_formed.false in
    (few n.plan n.arrows n.flight n.tally good, lanes_named n.plan n.arrows n.flight n.tally good)

pub run-network-requires-clause-formed : goal.run-network-requires-clause-formed
run-network-requires-clause-formed c =
    let n = c.args.n in
    ap (λ (f : List Packet). well_formed (shown n.plan n.arrows f n.tally)) c.line_up-queues.ensures.packets ∙ sym c.well_formed-2.ensures ∙ c.if-not-well_formed.false

pub run-network-requires-clause-many : goal.run-network-requires-clause-many
run-network-requires-clause-many c =
    let n = c.args.n in
    ap (λ (f : List Packet). length f) c.line_up-queues.ensures.packets ∙ many n.plan n.arrows n.flight n.tally

pub run-network-requires-clause-chained : goal.run-network-requires-clause-chained
run-network-requires-clause-chained c =
    chained c.args.n c.thread-threads.result (sym c.well_formed-2.ensures ∙ c.if-not-well_formed.false) c.thread-threads.ensures

pub returns-then-all_refused : goal.returns-then-all_refused
returns-then-all_refused c =
    let a = c.args in
    let n = a.n in
    let seen = ap (λ (f : List Packet). shown n.plan n.arrows f n.tally) c.line_up-queues.ensures.packets in
    let given = given_by seen c.run-network.ensures.lists in
    record {
      made = c.shortest-count.ensures;
      outcome = calls_refused (view n) a.kinds.now a.arguments.now c.shortest-count.result
          (none_done (view n) a.kinds.now a.arguments.now c.shortest-count.result a.answers.now given.answered (not-true _ (sym c.all_refused.ensures ∙ c.if-all_refused.true)));
      given = given;
      unchanged = λ e. refl;
    }

pub gather-requires : goal.gather-requires
gather-requires c =
    let a = c.args in
    let n = a.n in
    let seen = ap (λ (f : List Packet). shown n.plan n.arrows f n.tally) c.line_up-queues.ensures.packets in
    let good = sym c.well_formed-2.ensures ∙ c.if-not-well_formed.false in
    (c.run-network.ensures.room, few_after _ a.kinds.now a.arguments.now c.shortest-count.result _ (ap well_formed seen ∙ good) c.run-network.ensures.state)

pub returns : goal.returns
returns c =
    let a = c.args in
    let n = a.n in
    let l = c.run-network.new in
    let seen = ap (λ (f : List Packet). shown n.plan n.arrows f n.tally) c.line_up-queues.ensures.packets in
    let given = given_by seen c.run-network.ensures.lists in
    let few : c.gather.result ≡ c.run-network.result.flying = c.gather.ensures.many ∙ c.run-network.ensures.many in
    record {
      made = c.shortest-count.ensures;
      outcome =
          ap (λ (k : ℕ). shown n.plan l.arrows (flying_in c.gather.new.flight k) c.run-network.result) (sym few)
          ∙ ap (λ (f : List Packet). shown n.plan l.arrows f c.run-network.result) c.gather.ensures.packets
          ∙ c.run-network.ensures.state
          ∙ ap (λ (s : State). calls s a.kinds.now a.arguments.now c.shortest-count.result) seen;
      given = given;
      unchanged =
          λ e. absurd (clash (c.all_refused.ensures ∙ ap not (done_none (view n) a.kinds.now a.arguments.now c.shortest-count.result a.answers.now given.answered e)) c.if-all_refused.false);
    }
