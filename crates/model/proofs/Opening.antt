-- What an opening's answer tells of its tests, and of closed walks. Assumes nothing.
use Prim.Native.Nat.{ℕ, ◌%◌, ◌<◌}
use native.Mathlib.Omega.{arith}
use mathlib.Core.Path.{◌≡◌, refl, sym, ◌∙◌}
use mathlib.Core.Logic.{◌⊎◌, inl, inr}
use mathlib.Core.Bool.{Bool, true, false, not, ◌&&◌}
use mathlib.Core.List.{List, []}
use lib.Dec.{ltb, eqb}
use lib.ListN.{length}
use borrow.Author.Tests.{ltb-true, ltb-false, not-false}
use Rattle.model.specs.Answers as answers
use Rattle.model.specs.State.{end}
use Rattle.model.specs.Formed.{sized, joins}
use Rattle.model.specs.Opening.{node_in, links_in, opened, holds_closed_walk, first_bad_link, open_from}
use Rattle.model.specs.Promises.{FourExactly}
use Rattle.model.proofs.Below.{look, clash, and_both, first_none}
use Rattle.model.proofs.Walks.{found_if_closed, closed_if_found}

-- the number for the three tests of an opening: sizes wrong, a link wrong, a closed walk
abbrev answer_of : Bool → Bool → Bool → ℕ
answer_of true link walk = answers.bad_sizes
answer_of false true walk = answers.bad_link
answer_of false false true = answers.closed_walk
answer_of false false false = answers.done

told : (walk s l w : Bool) → answer_of s l w ≡ answer_of false false walk → (s ≡ false) × (l ≡ false) × (w ≡ walk)
told true true l w e = absurd (omega (arith, e))
told true false true w e = absurd (omega (arith, e))
told true false false true e = (refl, refl, refl)
told true false false false e = absurd (omega (arith, e))
told false true l w e = absurd (omega (arith, e))
told false false true w e = absurd (omega (arith, e))
told false false false true e = absurd (omega (arith, e))
told false false false false e = (refl, refl, refl)

module _ (nodes destination : ℕ) (list : List ℕ) where
  abbrev pub bad_sizes : Bool
  bad_sizes = not (eqb (length list % 2) 0 && sized nodes destination (links_in list))

  abbrev bad_link : Bool
  bad_link = ltb (first_bad_link nodes list) (links_in list)

  abbrev ring : Bool
  ring = holds_closed_walk nodes list

  pub by_tests : (open_from nodes destination list).answer ≡ answer_of bad_sizes bad_link ring
  unfolding open_from
  by_tests = go (look bad_sizes) (look bad_link) (look ring)
    where
      go : (bad_sizes ≡ true) ⊎ (bad_sizes ≡ false) → (bad_link ≡ true) ⊎ (bad_link ≡ false) → (ring ≡ true) ⊎ (ring ≡ false)
          → (open_from nodes destination list).answer ≡ answer_of bad_sizes bad_link ring
      go (inl s) l w = rw s
      go (inr s) (inl l) w = rw (s, l)
      go (inr s) (inr l) (inl w) = rw (s, l, w)
      go (inr s) (inr l) (inr w) = rw (s, l, w)

  -- what an answer of 4 or 0 tells
  pub record Tested (walk : Bool) : Type 0 where
    pub sizes : bad_sizes ≡ false
    pub links : bad_link ≡ false
    pub walks : ring ≡ walk

  pub tested : (walk : Bool) → (open_from nodes destination list).answer ≡ answer_of false false walk → Tested walk
  tested walk e =
      let t = told walk bad_sizes bad_link ring (sym by_tests ∙ e) in
      record { sizes = t.0; links = t.1; walks = t.2 }

  -- an opening gives what was asked for, or the record of a refused one
  pub opens_as : Tested false → (open_from nodes destination list).state ≡ opened nodes destination list
  unfolding open_from
  opens_as t = rw (t.sizes, t.links, t.walks)

  pub opens : Tested false ⊎ ((open_from nodes destination list).state ≡ opened 1 0 [])
  unfolding open_from
  opens = go (look bad_sizes) (look bad_link) (look ring)
    where
      go : (bad_sizes ≡ true) ⊎ (bad_sizes ≡ false) → (bad_link ≡ true) ⊎ (bad_link ≡ false) → (ring ≡ true) ⊎ (ring ≡ false)
          → Tested false ⊎ ((open_from nodes destination list).state ≡ opened 1 0 [])
      go (inl s) l w = inr (rw s)
      go (inr s) (inl l) w = inr (rw (s, l))
      go (inr s) (inr l) (inl w) = inr (rw (s, l, w))
      go (inr s) (inr l) (inr w) = inl (record { sizes = s; links = l; walks = w })

  pub right_sizes : bad_sizes ≡ false → sized nodes destination (links_in list) ≡ true
  right_sizes e =
      let b = eqb (length list % 2) 0 in
      (and_both b (sized nodes destination (links_in list)) (not-false (b && sized nodes destination (links_in list)) e)).1

  -- where no link is bad, each joins two nodes
  pub joined : bad_link ≡ false → (l : ℕ) → l < links_in list → joins nodes (node_in list (end l 0)) (node_in list (end l 1)) ≡ true
  unfolding first_bad_link
  joined e l h =
      not-false (joins nodes (node_in list (end l 0)) (node_in list (end l 1)))
      (first_none (λ k. not (joins nodes (node_in list (end k 0)) (node_in list (end k 1)))) (links_in list) 0 l
      (omega (arith, ltb-false (first_bad_link nodes list) (links_in list) e)) (omega arith) (omega arith))

  pub named : bad_link ≡ false → (l : ℕ) → l < links_in list → (node_in list (end l 0) < nodes) × (node_in list (end l 1) < nodes)
  named e l h =
      let a = node_in list (end l 0) in
      let b = node_in list (end l 1) in
      let two = and_both (ltb a nodes && ltb b nodes) (not (eqb a b)) (joined e l h) in
      let t = and_both (ltb a nodes) (ltb b nodes) two.0 in
      (ltb-true a nodes t.0, ltb-true b nodes t.1)

pub four_exactly : FourExactly
four_exactly =
    record {
      closed = λ n d list e. let t = tested n d list true e in closed_if_found n list (named n d list t.links) t.walks;
      open_not_closed = λ n d list e c.
          let t = tested n d list false e in clash (found_if_closed n list (named n d list t.links) c) t.walks;
    }
