-- The two ends of every whole link agree, or one has news outstanding; answer 10 never comes up. Assumes nothing.
use Prim.Native.Nat.{ℕ, suc, ◌<◌}
use native.Mathlib.Omega.{arith}
use mathlib.Core.Path.{◌≡◌, refl, ap}
use mathlib.Core.Logic.{◌⊎◌, inl, inr}
use mathlib.Core.Bool.{Bool, true, false}
use mathlib.Core.List.{List, [], ◌∷◌, map}
use Rattle.model.specs.Answers as answers
use Rattle.model.specs.State.{opp, Packet, State, lanes, whole}
use Rattle.model.specs.Lanes.{on_lane}
use Rattle.model.specs.Events.{Event}
use Rattle.model.specs.History.{History}
use Rattle.model.specs.Agreement.{bits_on, AllAre, OldThenNew, Agree, Untold}
use Rattle.model.specs.Promises.{EndsAgree, TenNever}
use Rattle.model.proofs.Below.{look, clash}
use Rattle.model.proofs.Steps.{Refused, spoilt, over, none, down, bare, full, astray, step, answered}
use Rattle.model.proofs.Link.{partial, Runs, Wire, Link, in_step, one_out}
use Rattle.model.proofs.Invariant.{at}
use Rattle.model.proofs.History.{Good, good, differ}

abbrev bits : List Packet → List Bool
bits ps = map (λ p. p.bit) ps

all_are : (b : Bool) (ps : List Packet) → Runs b b ps → AllAre b (bits ps)
all_are b [] r = (0, refl)
all_are b (p ∷ ps) (inl r) = let t = all_are b ps r.1 in (suc t.0, rw r.0 (ap (λ l. b ∷ l) t.1))
all_are b (p ∷ ps) (inr r) = let t = all_are b ps r.1 in (suc t.0, rw r.0 (ap (λ l. b ∷ l) t.1))

old_then_new : (a b : Bool) (ps : List Packet) → Runs a b ps → OldThenNew a b (bits ps)
old_then_new a b [] r = (0, 0, refl)
old_then_new a b (p ∷ ps) (inl r) = let t = old_then_new a b ps r.1 in (suc t.0, t.1, rw r.0 (ap (λ l. a ∷ l) t.2))
old_then_new a b (p ∷ ps) (inr r) = let t = all_are b ps r.1 in (0, suc t.0, rw r.0 (ap (λ l. b ∷ l) t.1))

module _ {s : State} (h : History s) (x : ℕ) (i : x < lanes s) (w : whole s x ≡ true) where
  link : (g : Good partial s) → Link partial (at s g.0 x) (at s g.0 (opp x))
  link g = g.1.linked x i w

  never_both_in : s.ends.out x ≡ false → s.ends.out (opp x) ≡ true
  never_both_in o = elim (look (s.ends.out (opp x))) [
    | inl p ↦ p
    | inr p ↦ absurd (one_out (at s (good h).0 x) (at s (good h).0 (opp x)) (link (good h)) o p)
  ]

  agree : s.ends.out x ≡ true → s.ends.out (opp x) ≡ false → Agree s x (opp x)
  unfolding bits_on
  agree o p = elim (link (good h)) [
    | inl a ↦
        let m : s.ends.local x ≡ s.ends.remote (opp x) = cc in
        record {
          mine = m;
          yours = a.wire.back;
          from_me = all_are (s.ends.remote (opp x)) (on_lane x s.flight) (rw m at a.wire.ahead);
          from_you = all_are (s.ends.remote x) (on_lane (opp x) s.flight) a.wire.behind;
        }
    | inr a ↦ absurd (clash a.wire.leads p)
  ]

  news_at : (y z : ℕ) → Wire (at s (good h).0 y) (at s (good h).0 z) → s.ends.out z ≡ true → Untold s y z
  unfolding bits_on
  news_at y z a o =
      record {
        mine = cc;
        yours = a.back;
        from_me = old_then_new (s.ends.remote z) (s.ends.local y) (on_lane y s.flight) a.ahead;
        from_you = all_are (s.ends.remote y) (on_lane z s.flight) a.behind;
      }

  untold : s.ends.out x ≡ true → s.ends.out (opp x) ≡ true → Untold s x (opp x) ⊎ Untold s (opp x) x
  untold o p = elim (link (good h)) [ inl a ↦ inl (news_at x (opp x) a.wire p) | inr a ↦ inr (news_at (opp x) x a.wire o) ]

pub ends_agree : EndsAgree
ends_agree = record { never_both_in = λ s h. never_both_in h; agree = λ s h. agree h; untold = λ s h. untold h }

-- a packet that is out of step is on no whole link
in_step_always : {s : State} → History s → {e : Event} {a : ℕ} → Refused s e a → a ≡ answers.out_of_step → ⊥
in_step_always h (spoilt w) q = omega arith
in_step_always h (over w) q = omega arith
in_step_always h none q = omega arith
in_step_always h down q = omega arith
in_step_always h bare q = omega arith
in_step_always h full q = omega arith
in_step_always {s} h (astray {x = x} {p = p} old o n) q =
    let g : Good partial s = good h in
    differ p.bit (s.ends.remote (opp x)) n
    (in_step (at s g.0 x) (at s g.0 (opp x)) p old.rest old.first o (g.1.linked x old.inside old.joined))

pub ten_never : TenNever
ten_never s h e q = elim (answered (step s e)) [ inl d ↦ omega (arith, d) | inr r ↦ in_step_always h r.why q ]
