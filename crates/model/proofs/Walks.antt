-- The computed test for a closed walk is right: a walk of as many arrows as there are nodes sets out somewhere, exactly if some walk is closed.
-- Assumes nothing.
use Prim.Native.Nat.{ℕ, zero, suc, ◌<◌, ◌≤◌}
use native.Mathlib.Omega.{arith}
use mathlib.Core.Path.{◌≡◌, refl, sym, ◌∙◌, subst}
use mathlib.Core.Logic.{inl, inr}
use mathlib.Core.Bool.{Bool, true, false, ◌&&◌}
use mathlib.Core.List.{List}
use lib.Dec.{eqb}
use lib.ListN.{get_or}
use borrow.Author.Tests.{eqb-true, eq-eqb}
use Rattle.model.specs.Below.{any}
use Rattle.model.specs.State.{end}
use Rattle.model.specs.Opening.{node_in, links_in, Walk, along, then, ClosedWalk, sets_out, holds_closed_walk}
use Rattle.model.proofs.Below.{and_both, last_or_below, any_here, any_found, tab_at}
use Rattle.model.proofs.Pigeon.{Twice, pigeon}

module _ (n : ℕ) (list : List ℕ) where
  abbrev tail : ℕ → ℕ
  tail l = node_in list (end l 0)

  abbrev head : ℕ → ℕ
  head l = node_in list (end l 1)

  -- a walk of k arrows sets out at v
  abbrev sets : ℕ → ℕ → Bool
  sets k v = get_or (sets_out n list k) v false

  abbrev step : ℕ → ℕ → ℕ → Bool
  step k v l = eqb (tail l) v && sets k (head l)

  sets_zero : (v : ℕ) → v < n → sets 0 v ≡ true
  unfolding sets_out
  sets_zero v h = tab_at false (λ u. true) n v h

  sets_suc : (k v : ℕ) → v < n → sets (suc k) v ≡ any (step k v) (links_in list)
  unfolding sets_out
  sets_suc k v h = tab_at false (λ u. any (step k u) (links_in list)) n v h

  -- ends of links are nodes
  module _ (named : (l : ℕ) → l < links_in list → (tail l < n) × (head l < n)) where
    longer : (k l : ℕ) → l < links_in list → sets k (head l) ≡ true → sets (suc k) (tail l) ≡ true
    longer k l h e =
        sets_suc k (tail l) (named l h).0 ∙ any_here (step k (tail l)) (links_in list) l h (rw (eq-eqb (tail l) (tail l) refl, e))

    first_arrow : (k v : ℕ) → v < n → sets (suc k) v ≡ true
        → (l : ℕ) × (l < links_in list) × (tail l ≡ v) × (sets k (head l) ≡ true)
    first_arrow k v h e =
        let f = any_found (step k v) (links_in list) (sym (sets_suc k v h) ∙ e) in
        let b = and_both (eqb (tail f.0) v) (sets k (head f.0)) f.2 in
        (f.0, f.1, eqb-true (tail f.0) v b.0, b.1)

    shorter : (k v : ℕ) → v < n → sets (suc k) v ≡ true → sets k v ≡ true
    shorter zero v h e = sets_zero v h
    shorter (suc k) v h e =
        let a = first_arrow (suc k) v h e in
        subst (λ u. sets (suc k) u ≡ true) a.2 (longer k a.0 a.1 (shorter k (head a.0) (named a.0 a.1).1 a.3))

    walk_ends : {u v : ℕ} → Walk list u v → (u < n) × (v < n)
    walk_ends (along l h) = named l h
    walk_ends (then p q) = ((walk_ends p).0, (walk_ends q).1)

    before_walk : (k : ℕ) {u v : ℕ} → Walk list u v → sets k v ≡ true → sets (suc k) u ≡ true
    before_walk k (along l h) e = longer k l h e
    before_walk k (then {v = v} p q) e = before_walk k p (shorter k v (walk_ends p).1 (before_walk k q e))

    -- from a closed walk, walks of every length
    pub found_if_closed : ClosedWalk list → holds_closed_walk n list ≡ true
    unfolding holds_closed_walk
    found_if_closed c = any_here (sets n) n c.start (walk_ends c.walk).0 (round n)
      where
        round : (k : ℕ) → sets k c.start ≡ true
        round zero = sets_zero c.start (walk_ends c.walk).0
        round (suc k) = before_walk k c.walk (round k)

    -- the nodes of a walk of k arrows
    record Trail (k v : ℕ) : Type 0 where
      at : ℕ → ℕ
      begins : at 0 ≡ v
      goes : (i : ℕ) → i < k → Walk list (at i) (at (suc i))
      inside : (i : ℕ) → i ≤ k → at i < n

    onto : ℕ → (ℕ → ℕ) → ℕ → ℕ
    onto v f zero = v
    onto v f (suc i) = f i

    trail : (k v : ℕ) → v < n → sets k v ≡ true → Trail k v
    unfolding onto
    trail zero v h e = record { at = λ i. v; begins = refl; goes = λ i l. absurd (omega arith); inside = λ i l. h }
    trail (suc k) v h e =
        let a = first_arrow k v h e in
        let t : Trail k (head a.0) = trail k (head a.0) (named a.0 a.1).1 a.3 in
        record { at = onto v t.at; begins = refl; goes = goes' a t; inside = inside' a t }
      where
        goes' : (a : (l : ℕ) × (l < links_in list) × (tail l ≡ v) × (sets k (head l) ≡ true)) (t : Trail k (head a.0))
            (i : ℕ) → i < suc k → Walk list (onto v t.at i) (t.at i)
        goes' a t zero l =
            subst (λ u. Walk list u (t.at 0)) a.2 (subst (λ u. Walk list (tail a.0) u) (sym t.begins) (along a.0 a.1))
        goes' a t (suc i) l = t.goes i (omega arith)

        inside' : (a : (l : ℕ) × (l < links_in list) × (tail l ≡ v) × (sets k (head l) ≡ true)) (t : Trail k (head a.0))
            (i : ℕ) → i ≤ suc k → onto v t.at i < n
        inside' a t zero l = h
        inside' a t (suc i) l = t.inside i (omega arith)

    between : {k v : ℕ} (t : Trail k v) (i j : ℕ) → i < j → j ≤ k → Walk list (t.at i) (t.at j)
    between t i zero a b = absurd (omega arith)
    between t i (suc j) a b = elim (last_or_below a) [
      | inl e ↦ subst (λ m. Walk list (t.at m) (t.at (suc j))) (sym e) (t.goes j b)
      | inr l ↦ then (between t i j l (omega arith)) (t.goes j b)
    ]

    -- a walk of n arrows comes to a node twice
    pub closed_if_found : holds_closed_walk n list ≡ true → ClosedWalk list
    unfolding holds_closed_walk
    closed_if_found e =
        let f = any_found (sets n) n e in
        let t : Trail n f.0 = trail n f.0 f.1 f.2 in
        let w : Twice t.at (suc n) = pigeon n t.at t.inside in
        record {
          start = t.at w.one;
          walk = subst (λ u. Walk list (t.at w.one) u) (sym w.same) (between t w.one w.other w.before (omega (arith, w.below)));
        }
