-- What an opening gives, by its tests. Assumes nothing.
use Prim.Native.Nat.{ℕ, ◌+◌, ◌*◌, ◌/◌, ◌%◌, ◌≤◌, ◌<◌}
use native.Mathlib.Omega.{arith}
use native.Mathlib.Nat.{add-zero}
use mathlib.Core.Path.{◌≡◌, refl, ap, ◌∙◌, subst}
use mathlib.Core.Logic.{◌⊎◌, inl, inr}
use mathlib.Core.Bool.{Bool, true, false, not, ◌&&◌}
use mathlib.Core.List.{List}
use lib.Dec.{ltb, eqb}
use lib.ListN.{length, get_or-eq_default}
use borrow.Author.Tests.{lt-ltb, le-ltb, ltb-true, ltb-false, leb-true, eqb-true, eqb-false}
use Rattle.model.specs.Limits.{nodes_most, links_most}
use Rattle.model.specs.Formed.{sized, joins}
use Rattle.model.specs.Answers as answers
use Rattle.model.specs.Opening.{node_in, links_in, opened, holds_closed_walk, first_bad_link, refuse_opening, open_from}
use Rattle.model.proofs.Below.{look, and_both}
use Rattle.model.proofs.Opening.{joined}
use Rattle.network.specs.declared.record.Network.{Network}
use Rattle.network.specs.declared.opening.Opened.{Opened}
use Rattle.network.specs.View.{view}
use Rattle.network.specs.Opening.{refusal, seen_opened, OpenPost}
use Rattle.network.proofs.Filled.{lone_view}

-- ---- what the tests give to what follows them
module _ (nodes destination : ℕ) (list : List ℕ) where
  abbrev pub sizes_hold : Bool
  sizes_hold = eqb (length list % 2) 0 && sized nodes destination (links_in list)

  pub record Sizes : Type 0 where
    pub some_node : 1 ≤ nodes
    pub nodes_fit : nodes ≤ nodes_most
    pub links_fit : links_in list ≤ links_most
    pub even : length list ≡ 2 * links_in list

  even_length : eqb (length list % 2) 0 ≡ true → length list ≡ 2 * links_in list
  even_length e = omega (arith, eqb-true (length list % 2) 0 e)

  pub sizes : sizes_hold ≡ true → Sizes
  unfolding sized
  sizes e =
      let b = and_both _ _ e in
      let l = and_both _ _ b.1 in
      let n = and_both _ _ (and_both _ _ l.0).0 in
      record {
        some_node = leb-true 1 nodes n.0;
        nodes_fit = leb-true nodes nodes_most n.1;
        links_fit = leb-true (links_in list) links_most l.1;
        even = even_length b.0;
      }

  module _ (z : Sizes) (bad : ℕ) (f : bad ≡ first_bad_link nodes list) (over : links_in list ≤ bad) where
    no_bad : ltb (first_bad_link nodes list) (links_in list) ≡ false
    no_bad = le-ltb (first_bad_link nodes list) (links_in list) (omega arith)

    ends_named : (l : ℕ) → l < links_in list → (node_in list (2 * l) < nodes) × (node_in list (2 * l + 1) < nodes)
    ends_named l h =
        let a = node_in list (2 * l) in
        let b = node_in list (2 * l + 1) in
        let j : joins nodes a b ≡ true = rw add-zero at (joined nodes destination list no_bad l h) in
        let two = and_both (ltb a nodes) (ltb b nodes) (and_both (ltb a nodes && ltb b nodes) (not (eqb a b)) j).0 in
        (ltb-true a nodes two.0, ltb-true b nodes two.1)

    -- every number of the list is a node, and so is the default past its end
    pub all_named : (x : ℕ) → node_in list x < nodes
    all_named x = elim (look (ltb x (length list))) [
      | inl e ↦ inside (ltb-true x (length list) e) (look (eqb (x % 2) 0))
      | inr e ↦ rw (get_or-eq_default list 0 (ltb-false x (length list) e)) z.some_node
    ]
      where
        inside : x < length list → (eqb (x % 2) 0 ≡ true) ⊎ (eqb (x % 2) 0 ≡ false) → node_in list x < nodes
        inside h (inl e) =
            let q : 2 * (x / 2) ≡ x = omega (arith, eqb-true (x % 2) 0 e) in
            subst (λ y. node_in list y < nodes) q (ends_named (x / 2) (omega (arith, z.even))).0
        inside h (inr e) =
            let q : 2 * (x / 2) + 1 ≡ x = omega (arith, eqb-false (x % 2) 0 e) in
            subst (λ y. node_in list y < nodes) q (ends_named (x / 2) (omega (arith, z.even))).1

  -- ---- the outcomes
  refused_by : (answer place : ℕ) (r : Opened) → r ≡ refusal answer place → refuse_opening answer place ≡ open_from nodes destination list
      → OpenPost nodes destination list r
  refused_by answer place r e o =
      record {
        outcome = ap seen_opened e ∙ (λ i. record { state = lone_view i; answer = answer; place = place }) ∙ o;
        lone = λ n. ap (λ x. x.network) e;
      }

  module _ (s : Bool) (p : s ≡ sizes_hold) where
    pub open_sizes : (r : Opened) → r ≡ refusal answers.bad_sizes 0 → not s ≡ true → OpenPost nodes destination list r
    unfolding open_from
    open_sizes r e n = refused_by answers.bad_sizes 0 r e (rw (← p, n))

    module _ (y : not s ≡ false) (bad : ℕ) (f : bad ≡ first_bad_link nodes list) where
      pub open_link : (r : Opened) → r ≡ refusal answers.bad_link bad → bad < links_in list → OpenPost nodes destination list r
      unfolding open_from
      open_link r e h = refused_by answers.bad_link bad r e (rw (← p, y, ← f, lt-ltb bad (links_in list) h))

      module _ (over : links_in list ≤ bad) (w : Bool) (c : w ≡ holds_closed_walk nodes list) where
        pub open_ring : (r : Opened) → r ≡ refusal answers.closed_walk 0 → w ≡ true → OpenPost nodes destination list r
        unfolding open_from
        open_ring r e t = refused_by answers.closed_walk 0 r e (rw (← p, y, ← f, le-ltb bad (links_in list) over, ← c, t))

        pub open_done : (n : Network) → view n ≡ opened nodes destination list → w ≡ false
            → OpenPost nodes destination list (record { network = n; answer = answers.done; place = 0 })
        unfolding open_from
        open_done n e t =
            record {
              outcome = (λ i. record { state = e i; answer = answers.done; place = 0 }) ∙ rw (← p, y, ← f, le-ltb bad (links_in list) over, ← c, t);
              lone = λ z. absurd (z refl);
            }
