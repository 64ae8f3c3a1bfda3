-- What a well-formed record tells of its arrays. Assumes nothing.
use Prim.Native.Nat.{ℕ, ◌+◌, ◌*◌, ◌/◌, ◌≤◌, ◌<◌}
use native.Mathlib.Omega.{arith}
use mathlib.Core.Path.{◌≡◌, refl, sym, ◌∙◌, subst}
use mathlib.Core.Logic.{◌⊎◌, inl, inr}
use mathlib.Core.Bool.{true, false, not, ◌&&◌}
use mathlib.Core.List.{List}
use lib.Dec.{ltb, leb, eqb}
use lib.ListN.{length, get_or}
use borrow.Author.Tests.{leb-true, ltb-true, eq-eqb}
use Rattle.model.specs.Limits.{nodes_most, links_most, flight_most}
use Rattle.model.specs.State.{State, Packet, end, link_of}
use Rattle.model.specs.Formed.{sized, joins, well_formed}
use Rattle.model.proofs.Below.{clash, and_both}
use Rattle.model.proofs.Ends.{which_end}
use Rattle.model.proofs.Formed.{formed_if}
use Rattle.arrays.specs.declared.record.Plan.{Plan}
use Rattle.arrays.specs.declared.record.Arrows.{Arrows}
use Rattle.arrays.specs.declared.record.Tally.{Tally}
use Rattle.arrays.specs.View.{used, shown}
use Rattle.arrays.proofs.Below.{used_in}
use Rattle.departs.specs.Steps.{Sound}

pub record Sizes (nodes destination links : ℕ) : Type 0 where
  pub nodes_fit : nodes ≤ nodes_most
  pub a_node : destination < nodes
  pub links_fit : links ≤ links_most

pub sizes_are : (nodes destination links : ℕ) → sized nodes destination links ≡ true → Sizes nodes destination links
unfolding sized
sizes_are n d l e =
    let a = and_both (leb 1 n && leb n nodes_most && ltb d n) (leb l links_most) e in
    let b = and_both (leb 1 n && leb n nodes_most) (ltb d n) a.0 in
    let c = and_both (leb 1 n) (leb n nodes_most) b.0 in
    record { nodes_fit = leb-true n nodes_most c.1; a_node = ltb-true d n b.1; links_fit = leb-true l links_most a.1 }

two : (n a b : ℕ) → joins n a b ≡ true → (a < n) × (b < n)
two n a b e =
    let p = and_both (ltb a n && ltb b n) (not (eqb a b)) e in
    let q = and_both (ltb a n) (ltb b n) p.0 in
    (ltb-true a n q.0, ltb-true b n q.1)

module _ (p : Plan) (a : Arrows) (flight : List Packet) (t : Tally) where
  node_of : (l e : ℕ) → l < p.links → e < 2 → (b : ℕ) → used (2 * p.links) 0 p.node (2 * l + e) < b → get_or p.node (2 * l + e) 0 < b
  node_of l e h k b q = subst (λ m. m < b) (used_in (2 * p.links) 0 p.node (2 * l + e) (omega arith)) q

  pub sound_if : length flight ≡ t.flying → well_formed (shown p a flight t) ≡ true
      → Sound p a t
  sound_if many e =
      let s : State = shown p a flight t in
      let f = formed_if s e in
      let z = sizes_are p.nodes p.destination p.links f.net.sizes in
      record {
        nodes_fit = z.nodes_fit;
        a_node = z.a_node;
        links_fit = z.links_fit;
        flying = omega (arith, f.room, many);
        fair = λ h. record {
          events = h;
          admitted = omega (arith, f.fewer);
          delivered = omega (arith, f.sum, f.fewer);
          lost = omega (arith, f.sum, f.fewer);
          stranded = omega (arith, f.sum, f.fewer);
        };
        named = λ x h. named f.net.links x h (which_end x);
        marks = λ x h m. sym (used_in p.links false a.live (x / 2) (omega arith)) ∙ (f.marked x h (used_in (2 * p.links) false a.mark x h ∙ m)).1;
        turned = λ v h. omega (arith, f.turned v h, used_in p.nodes 0 a.turns v h);
      }
    where
      named : ((l : ℕ) → l < p.links → joins p.nodes (used (2 * p.links) 0 p.node (end l 0)) (used (2 * p.links) 0 p.node (end l 1)) ≡ true)
          → (x : ℕ) → x < 2 * p.links → (x ≡ end (link_of x) 0) ⊎ (x ≡ end (link_of x) 1) → get_or p.node x 0 < p.nodes
      named j x h (inl q) = subst (λ m. get_or p.node m 0 < p.nodes) (sym q) (node_of (link_of x) 0 (omega arith) (omega arith) p.nodes (two p.nodes _ _ (j (link_of x) (omega arith))).0)
      named j x h (inr q) = subst (λ m. get_or p.node m 0 < p.nodes) (sym q) (node_of (link_of x) 1 (omega arith) (omega arith) p.nodes (two p.nodes _ _ (j (link_of x) (omega arith))).1)

-- a link joins two nodes
differ : (n a b : ℕ) → joins n a b ≡ true → a ≡ b → ⊥
differ n a b e q = clash (rw (eq-eqb a b q) at (and_both (ltb a n && ltb b n) (not (eqb a b)) e).1) refl

pub joins_two : (p : Plan) (a : Arrows) (flight : List Packet) (t : Tally)
    → well_formed (shown p a flight t) ≡ true
    → (l : ℕ) → l < p.links → get_or p.node (2 * l) 0 ≡ get_or p.node (2 * l + 1) 0 → ⊥
joins_two p a flight t e l h q =
    let none : 2 * l + 0 ≡ 2 * l = omega arith in
    differ p.nodes _ _ ((formed_if (shown p a flight t) e).net.links l h)
    (rw none (used_in (2 * p.links) 0 p.node (2 * l) (omega arith) ∙ q ∙ sym (used_in (2 * p.links) 0 p.node (2 * l + 1) (omega arith))))

-- no more packets are in flight than may be
pub few_fly : (s : State) → well_formed s ≡ true → length s.flight ≤ flight_most
few_fly s e = omega (arith, (formed_if s e).room)
