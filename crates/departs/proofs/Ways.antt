-- A turn, a way out and a departure, from what the arrays show. Assumes nothing.
use Prim.Native.Nat.{ℕ, suc, ◌+◌, ◌*◌, ◌≤◌, ◌<◌}
use native.Mathlib.Omega.{arith}
use native.Mathlib.Numerals.{add-one}
use mathlib.Core.Path.{◌≡◌, refl, ap, ◌∙◌}
use mathlib.Core.Logic.{◌⊎◌, inl, inr}
use mathlib.Core.Bool.{true, false, cond}
use mathlib.Core.List.{List}
use lib.Dec.{eqb}
use lib.ListN.{length, get_or, set, length-set}
use lib.Seq.{get_or-set_same, get_or-set_other}
use borrow.Author.Tests.{eqb-true, eqb-false, ne_eqb}
use Rattle.model.specs.State.{State, Packet, lanes, live}
use Rattle.model.specs.Departure.{has_live, has_out, has_mark, door, turn, update}
use Rattle.model.specs.Outcome.{leaves, leaves_by, onward}
use Rattle.model.proofs.Departure.{door_out, update_out}
use Rattle.model.proofs.Below.{look}
use Rattle.arrays.specs.declared.record.Plan.{Plan}
use Rattle.arrays.specs.declared.record.Arrows.{Arrows}
use Rattle.arrays.specs.declared.record.Tally.{Tally}
use Rattle.arrays.specs.View.{used, net_of, counts_of, shown, ends_seen, way_out_of}
use Rattle.std.specs.Prelude.{Some, None, Option, IfSome}
use Rattle.std.specs.Borrow.{Bor}
use Rattle.model.specs.Limits.{nodes_most}
use Rattle.ways.specs.declared.chain.Threads.{Threads}
use Rattle.ways.specs.Chains.{Chain}
use Rattle.departs.specs.Steps.{Chained}
use Rattle.turning.specs.Turned.{Turned}
use Rattle.arrays.proofs.Below.{used_in, used_is, used_out}

-- ---- a node has a way out exactly if the search finds one
module _ (s : State) (v : ℕ) where
  pub has_way : (x : ℕ) → Some x ≡ way_out_of s v → (has_out s v ≡ true) × (x ≡ door s v)
  has_way x q = elim (look (has_out s v)) [
    | inl e ↦ let d = rw e at q in (e, cc)
    | inr e ↦ let d = rw e at q in cc
  ]

  pub way_within : (x : ℕ) → Some x ≡ way_out_of s v → x < lanes s
  way_within x q = let w = has_way x q in omega (arith, w.1, (door_out s v w.0).0)

  pub no_way : None ≡ way_out_of s v → has_out s v ≡ false
  no_way q = elim (look (has_out s v)) [
    | inl e ↦ let d = rw e at q in cc
    | inr e ↦ e
  ]

-- by the way out that was found
pub leaves_by_lem : {s t : State} (v x n : ℕ) → s ≡ t → x ≡ door s v → leaves s x n ≡ leaves_by t v n
leaves_by_lem {s} v x n e q = ap (λ y. leaves s y n) q ∙ ap (λ r. leaves_by r v n) e

-- ---- a node turns
-- what the arrays show after a turn is the turn
pub turn_is : (p : Plan) (a b : Arrows) (flight : List Packet) (t : Tally) (v : ℕ) → Turned p v a b
    → b.turns ≡ set a.turns v (get_or a.turns v 0 + 1) → v < p.nodes → p.nodes ≤ length b.turns
    → shown p b flight t ≡ turn (shown p a flight t) v
unfolding turn has_mark
turn_is p a b flight t v w e h l =
    λ i.
    record {
      net = net_of p.nodes p.destination p.links p.node;
      up = used p.links false (w.live i);
      ends = record { out = w.out i; local = w.local i; remote = used (2 * p.links) false (w.remote i); mark = w.mark i };
      turns = (ap (used p.nodes 0) e ∙ counted) i;
      flight = flight;
      counts = counts_of t;
    }
  where
    counted : used p.nodes 0 (set a.turns v (get_or a.turns v 0 + 1)) ≡ (λ u. cond (eqb u v) (suc (used p.nodes 0 a.turns u)) (used p.nodes 0 a.turns u))
    counted =
        used_is p.nodes 0 (set a.turns v (get_or a.turns v 0 + 1)) _
        (λ u k. rw (used_in p.nodes 0 a.turns u k) (go u (look (eqb u v))))
        (λ u k. rw (used_out p.nodes 0 a.turns u k, ne_eqb u v (λ e. omega arith)))
      where
        long : v < length a.turns
        long = omega (arith, simp length-set at (ap length e))

        go : (u : ℕ) → (eqb u v ≡ true) ⊎ (eqb u v ≡ false)
            → get_or (set a.turns v (get_or a.turns v 0 + 1)) u 0 ≡ cond (eqb u v) (suc (get_or a.turns u 0)) (get_or a.turns u 0)
        go u (inl e) = rw (e, eqb-true u v e) (get_or-set_same a.turns v (get_or a.turns v 0 + 1) 0 long ∙ add-one (get_or a.turns v 0))
        go u (inr e) = rw e (get_or-set_other a.turns v u (get_or a.turns v 0 + 1) 0 (eqb-false u v e))

-- the ends alone tell whether there is a way out after it
pub turned_out : (p : Plan) (a b : Arrows) (v : ℕ) → Turned p v a b → has_out (turn (ends_seen p a) v) v ≡ true → has_out (ends_seen p b) v ≡ true
unfolding has_out turn
turned_out p a b v w e = rw (w.live, w.out) e

-- ---- an update, and out
pub onward_by : (s : State) (v x n : ℕ) → Some x ≡ way_out_of s v → leaves s x n ≡ onward s v n
unfolding onward update
onward_by s v x n e =
    let w = has_way s v x e in
    rw w.0 (leaves_by_lem {s = s} {t = s} v x n refl w.1)

-- where there is no way out, by a turn
pub onward_turned : (s : State) (v n : ℕ) → has_out s v ≡ false → leaves_by (turn s v) v n ≡ onward s v n
unfolding onward update
onward_turned s v n e = rw e

-- a turn of a node with a live end makes a way out
pub turn_finds : (s : State) (v : ℕ) → ((x : ℕ) → x < lanes s → s.ends.mark x ≡ true → live s x ≡ true) → has_live s v ≡ true → has_out s v ≡ false
    → has_out (turn s v) v ≡ true
unfolding update
turn_finds s v m l o = rw o at (update_out s v m l)

-- each node's chain is right where the chains are threaded
pub chained_at : (threads : Option (Bor Threads)) (p : Plan) → Chained threads p → (v : ℕ) → v < nodes_most → IfSome threads (λ t. Chain p t.now v)
chained_at None p c v h = c
chained_at (Some t) p c v h = c v h
