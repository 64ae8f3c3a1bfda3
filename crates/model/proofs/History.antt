-- The invariant holds after every history. Assumes nothing.
use Prim.Native.Nat.{ℕ, ◌*◌, ◌<◌}
use native.Mathlib.Omega.{arith}
use mathlib.Core.Path.{◌≡◌, refl, sym, ◌∙◌}
use mathlib.Core.Logic.{inl, inr}
use mathlib.Core.Bool.{Bool, true, false, xor}
use mathlib.Core.List.{List}
use lib.Dec.{eqb}
use borrow.Author.Tests.{lt-ltb, eqb-true, eqb-false, eq-eqb, ne_eqb}
use Rattle.model.specs.State.{side, opp, Packet, State, lanes}
use Rattle.model.specs.Departure.{has_out, update, door}
use Rattle.model.specs.Outcome.{Outcome, counted, onward}
use Rattle.model.specs.Lanes.{on_lane, taken}
use Rattle.model.specs.Fail.{cut}
use Rattle.model.specs.Events.{Event}
use Rattle.model.specs.Opening.{links_in, opened}
use Rattle.model.specs.History.{History, start, next}
use Rattle.model.proofs.Below.{look, clash}
use Rattle.model.proofs.Ends.{opp_below}
use Rattle.model.proofs.Opening.{tested, opens_as}
use Rattle.model.proofs.Steps.{Oldest, Heard, told, known, rest, Step, refused, at_home, strands, sends, comes_home, bounces, goes_on, loses, fails, step}
use Rattle.model.proofs.Link.{Mode, partial, Link, fresh, first_arrow}
use Rattle.model.proofs.Invariant.{at, Invariant, kept_taken, kept_pass, kept_counted, kept_news, kept_cut, raised, kept_turn}

abbrev pub Good : Mode → State → Type 0
Good mode s = (height : ℕ → ℕ) × Invariant mode s height

pub differ : (a b : Bool) → xor a b ≡ true → a ≡ b → ⊥
unfolding xor
differ true true e q = clash e refl
differ true false e q = clash refl q
differ false true e q = clash refl (sym q)
differ false false e q = clash e refl

module _ (mode : Mode) where
  good_counted : (s : State) (a d l t : ℕ) → Good mode s → Good mode (counted s a d l t)
  good_counted s a d l t g = (g.0, kept_counted mode s g.0 g.1 a d l t)

  good_heard : {s : State} {x : ℕ} {p : Packet} {t : State} → Oldest s x p → Heard s x p t → Good mode s → Good mode t
  good_heard {s} {x = x} {p = p} old (told o n) g =
      (g.0, kept_news mode s g.0 g.1 x p old.rest old.first o (differ p.bit (s.ends.remote (opp x)) n))
  good_heard {s} {x = x} old (known n) g = (g.0, kept_taken mode s g.0 g.1 x)

  good_update : (s : State) (v : ℕ) → eqb v s.net.destination ≡ false → Good mode s → Good mode (update s v)
  unfolding update
  good_update s v d g = elim (look (has_out s v)) [
    | inl e ↦ rw e g
    | inr e ↦ rw e (raised mode s g.0 g.1 v, kept_turn mode s g.0 g.1 v e d)
  ]

  -- whichever way out is taken
  good_onward : (s : State) (v n : ℕ) → eqb v s.net.destination ≡ false → Good mode s → Good mode (onward s v n).state
  unfolding onward
  good_onward s v n d g =
      let u : Good mode (update s v) = good_update s v d g in
      (u.0, kept_pass mode (update s v) u.0 u.1 (door (update s v) v) n)

  pub good_step : {s : State} {e : Event} {o : Outcome} → Step s e o → Good mode s → Good mode o.state
  unfolding counted
  good_step (refused r) g = g
  good_step {s} (at_home r d) g = good_counted s 1 1 0 0 g
  good_step {s} (strands r d n) g = good_counted s 1 0 0 1 g
  good_step {s} (sends {v = v} r d l m) g = good_onward (counted s 1 0 0 0) v s.counts.admitted d (good_counted s 1 0 0 0 g)
  good_step (comes_home {t = t} old h d) g = good_counted t 0 1 0 0 (good_heard old h g)
  good_step {s} (bounces {x = x} {p = p} old o n d) g =
      let u = good_counted (taken s x) 0 0 0 0 (g.0, kept_taken mode s g.0 g.1 x) in
      (u.0, kept_pass mode (counted (taken s x) 0 0 0 0) u.0 u.1 (opp x) p.number)
  good_step {s} (goes_on {x = x} {p = p} {t = t} old h d) g =
      good_onward (counted t 0 0 0 0) (s.net.node (opp x)) p.number (rw (rest h).net d) (good_counted t 0 0 0 0 (good_heard old h g))
  good_step {s} (loses {x = x} old) g = good_counted (taken s x) 0 0 1 0 (g.0, kept_taken mode s g.0 g.1 x)
  good_step {s} (fails {l = l} r i u) g = good_counted (cut s l) 0 0 _ 0 (g.0, kept_cut mode s g.0 g.1 l)

-- the opening of partial reversal
module _ (nodes destination : ℕ) (list : List ℕ) where
  abbrev first : State
  first = opened nodes destination list

  at_first : (x : ℕ) → x < lanes first → at first (λ v. 0) x ≡ fresh (eqb (side x) 0) (eqb (side x) 1)
  unfolding opened on_lane
  at_first x i = rw (lt-ltb x (2 * links_in list) i)

  at_tail : (x : ℕ) → x < lanes first → side x ≡ 0 → at first (λ v. 0) x ≡ fresh true false
  at_tail x i e = at_first x i ∙ rw (eq-eqb (side x) 0 e, ne_eqb (side x) 1 (λ q. omega arith))

  at_head : (x : ℕ) → x < lanes first → side x ≡ 1 → at first (λ v. 0) x ≡ fresh false true
  at_head x i e = at_first x i ∙ rw (eq-eqb (side x) 1 e, ne_eqb (side x) 0 (λ q. omega arith))

  first_link : (x : ℕ) → x < lanes first → Link partial (at first (λ v. 0) x) (at first (λ v. 0) (opp x))
  unfolding opp
  first_link x i =
      let i' = opp_below x first.net.links i in
      elim (look (eqb (side x) 0)) [
        | inl e ↦
            let q = eqb-true (side x) 0 e in
            rw (at_tail x i q, at_head (opp x) i' (omega arith)) (inl (first_arrow partial))
        | inr e ↦
            let q : side x ≡ 1 = omega (arith, eqb-false (side x) 0 e) in
            rw (at_head x i q, at_tail (opp x) i' (omega arith)) (inr (first_arrow partial))
      ]

  good_first : Good partial first
  unfolding opened
  good_first =
      (λ v. 0, record { linked = λ x i w. first_link x i; home = refl; enough = λ v. omega arith; bare = λ q x. let z : ◌≡◌ {A = ℕ} 0 1 = cc in absurd (omega arith) })

pub good : {s : State} → History s → Good partial s
good (start n d list e) = rw (opens_as n d list (tested n d list false e)) (good_first n d list)
good (next {s = s} h e) = good_step partial (step s e) (good h)
