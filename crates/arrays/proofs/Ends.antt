-- The tests at an end in use, as the arrays have them. Assumes nothing.
use Prim.Native.Nat.{ℕ, ◌+◌, ◌-◌, ◌*◌, ◌/◌, ◌≤◌, ◌<◌}
use native.Mathlib.Omega.{arith}
use mathlib.Core.Path.{◌≡◌, refl, sym, ◌∙◌}
use mathlib.Core.Bool.{Bool, true, false, ◌&&◌, ◌||◌}
use lib.Dec.{eqb}
use lib.ListN.{get_or}
use Rattle.model.specs.State.{State}
use Rattle.model.specs.Below.{any, first}
use Rattle.model.proofs.Below.{any_false}
use Rattle.model.specs.Departure.{live_at, out_at, mark_at, out_link, out_end}
use Rattle.arrays.specs.declared.record.Plan.{Plan}
use Rattle.arrays.specs.declared.record.Arrows.{Arrows}
use Rattle.arrays.specs.View.{ends_seen}
use Rattle.arrays.proofs.Below.{used_in}
use Rattle.arrays.proofs.Searches.{first_start, first_skip}

between : (a b c : Bool) → (a && c) ≡ false → (a && b && c) ≡ false
between true true c e = e
between true false c e = refl
between false b c e = refl

module _ (p : Plan) (a : Arrows) (v : ℕ) where
  abbrev S : State
  S = ends_seen p a

  module _ (x : ℕ) (h : x < 2 * p.links) where
    pub live_is : (eqb (get_or p.node x 0) v && get_or a.live (x / 2) false) ≡ live_at S v x
    live_is = rw (used_in (2 * p.links) 0 p.node x h, used_in p.links false a.live (x / 2) (omega arith))

    pub out_is : (eqb (get_or p.node x 0) v && get_or a.live (x / 2) false && get_or a.out x false) ≡ out_at S v x
    out_is = rw (live_is, used_in (2 * p.links) false a.out x h)

    pub mark_is : (eqb (get_or p.node x 0) v && get_or a.mark x false) ≡ mark_at S v x
    mark_is = rw (used_in (2 * p.links) 0 p.node x h, used_in (2 * p.links) false a.mark x h)

  -- the test of the code at link l
  module _ (l : ℕ) (h : l < p.links) where
    abbrev test : ℕ → Bool
    test x = eqb (get_or p.node x 0) v && get_or a.live (x / 2) false && get_or a.out x false

    pub link_is : (test (2 * l) || test (2 * l + 1)) ≡ out_link S v l
    link_is = let e : 2 * l + 0 ≡ 2 * l = omega arith in rw (e, out_is (2 * l) (omega arith), out_is (2 * l + 1) (omega arith))

    pub first_is : test (2 * l) ≡ true → out_end S v l ≡ 2 * l
    first_is t = let e : 2 * l + 0 ≡ 2 * l = omega arith in rw (e, ← out_is (2 * l) (omega arith), t)

    pub second_is : test (2 * l) ≡ false → out_end S v l ≡ 2 * l + 1
    second_is t = let e : 2 * l + 0 ≡ 2 * l = omega arith in rw (e, ← out_is (2 * l) (omega arith), t)

  -- links without an end that is Out at the node are passed
  pub passes : (k : ℕ) → k ≤ p.links → any (λ x. eqb (get_or p.node x 0) v && get_or a.out x false) (2 * k) ≡ false
      → first (out_link S v) 0 p.links ≡ first (out_link S v) k (p.links - k)
  passes k h e =
      let none : (n : ℕ) → 0 + n ≡ n = λ n. omega arith in
      first_start (out_link S v) p.links ∙ rw (none k) at (first_skip (out_link S v) k 0 p.links (λ l b. rw (none l) (sym (link_is l (omega arith)) ∙ rw (off (2 * l) (omega arith), off (2 * l + 1) (omega arith)))) (omega arith))
    where
      off : (x : ℕ) → x < 2 * k → (eqb (get_or p.node x 0) v && get_or a.live (x / 2) false && get_or a.out x false) ≡ false
      off x b = between (eqb (get_or p.node x 0) v) (get_or a.live (x / 2) false) (get_or a.out x false) (any_false (λ y. eqb (get_or p.node y 0) v && get_or a.out y false) (2 * k) x e b)
