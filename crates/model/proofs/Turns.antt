-- The number of turns that the record keeps is the number of turn events. Assumes nothing.
use Prim.Native.Nat.{ℕ, suc}
use native.Mathlib.Omega.{arith}
use mathlib.Core.Path.{◌≡◌, refl, sym, ◌∙◌, ap, subst}
use mathlib.Core.Logic.{inl, inr}
use mathlib.Core.Bool.{Bool, true, false, not, cond, ◌&&◌}
use lib.Dec.{eqb}
use borrow.Author.Tests.{eqb-true}
use Rattle.model.specs.Below.{any}
use Rattle.model.specs.State.{opp, Packet, State, lanes}
use Rattle.model.specs.Departure.{live_at, out_at, has_live, has_out, turn, update, pass}
use Rattle.model.specs.Outcome.{Outcome, counted, onward}
use Rattle.model.specs.Lanes.{taken}
use Rattle.model.specs.Fail.{cut}
use Rattle.model.specs.Events.{Event, deliver}
use Rattle.model.specs.Opening.{opened}
use Rattle.model.specs.History.{History, start, next}
use Rattle.model.specs.Turns.{about, reversed_at, turns_in, turn_events}
use Rattle.model.specs.Promises.{TurnsCounted}
use Rattle.model.proofs.Below.{look, clash, and_both, any_here, any_found, any_false}
use Rattle.model.proofs.Ends.{opp_below, test_same, test_sym, whole_live, whole_opp}
use Rattle.model.proofs.Departure.{update_out}
use Rattle.model.proofs.Formed.{Marked, Formed, formed_if}
use Rattle.model.proofs.Opening.{tested, opens_as}
use Rattle.model.proofs.Link.{partial}
use Rattle.model.proofs.History.{Good, good}
use Rattle.model.proofs.Steps.{Oldest, Heard, told, known, rest, Step, refused, at_home, strands, sends, comes_home, bounces, goes_on, loses, fails, step}
use Rattle.model.proofs.Kept.{heard, same_live, reached}
use Rattle.model.proofs.Single.{formed_history}

and_second : (a b : Bool) → a ≡ true → (a && b) ≡ false → b ≡ false
and_second true b e q = q
and_second false b e q = absurd (clash e refl)

all_three : (a b c : Bool) → a ≡ true → b ≡ true → c ≡ true → (a && b && c) ≡ true
all_three a b c p q r = rw (p, q, r)

-- the node v passes a packet on in the state t, and `after` is what that leaves: is it a turn of u?
abbrev turning : State → ℕ → State → ℕ → Bool
turning t v after u = eqb v u && has_live t u && not (has_out t u) && any (reversed_at t after u) (lanes t)

module _ (t : State) (v n : ℕ) (marked : Marked t) (l : has_live t v ≡ true) where
  -- a turn of v reverses an arrow of v
  reverses : has_out t v ≡ false → any (reversed_at t (turn t v) v) (lanes t) ≡ true
  unfolding update has_out turn
  reverses o =
      let e : has_out (turn t v) v ≡ true = rw o at (update_out t v (λ x i m. (marked x i m).1) l) in
      let f = any_found (out_at (turn t v) v) (lanes t) e in
      let b = and_both (live_at t v f.0) ((turn t v).ends.out f.0) f.2 in
      let was : t.ends.out f.0 ≡ false = and_second (live_at t v f.0) (t.ends.out f.0) b.0 (any_false (out_at t v) (lanes t) f.0 o f.1) in
      any_here (reversed_at t (turn t v) v) (lanes t) f.0 f.1
      (all_three (live_at t v f.0) (not (t.ends.out f.0)) ((turn t v).ends.out f.0) b.0 (rw was) b.1)

  onward_own : (onward t v n).state.turns v ≡ cond (turning t v (onward t v n).state v) (suc (t.turns v)) (t.turns v)
  unfolding onward update pass turn
  onward_own = elim (look (has_out t v)) [
    | inl o ↦ rw (o, test_same v, l)
    | inr o ↦ rw (o, test_same v, l, reverses o)
  ]

  onward_turns : (u : ℕ) → (onward t v n).state.turns u ≡ cond (turning t v (onward t v n).state u) (suc (t.turns u)) (t.turns u)
  unfolding onward update pass turn
  onward_turns u = elim (look (eqb v u)) [
    | inl e ↦
        subst (λ w. (onward t v n).state.turns w ≡ cond (turning t v (onward t v n).state w) (suc (t.turns w)) (t.turns w)) (eqb-true v u e) onward_own
    | inr e ↦ elim (look (has_out t v)) [
      | inl o ↦ rw (e, o)
      | inr o ↦ rw (e, o, test_sym v u e)
    ]
  ]

-- what is about to be passed on is what was heard
about_heard : {s : State} {x : ℕ} {p : Packet} {t : State} → Oldest s x p → Heard s x p t → about s (deliver x) ≡ t
unfolding about
about_heard {s} {x = x} old (told o n) = rw (old.first, o, n)
about_heard {s} {x = x} old (known n) = elim (look (s.ends.out (opp x))) [ inl o ↦ rw (old.first, o, n) | inr o ↦ rw (old.first, o) ]

-- a node with a live Out link does not turn
no_turn : (t after : State) (v : ℕ) → has_out t v ≡ true → (u : ℕ) → turning t v after u ≡ false
no_turn t after v o u = elim (look (eqb v u)) [
  | inl e ↦ subst (λ w. turning t v after w ≡ false) (eqb-true v u e) (quiet (eqb v v) (has_live t v) (has_out t v) (any (reversed_at t after v) (lanes t)) o)
  | inr e ↦ rw e
]
  where
    quiet : (a b c d : Bool) → c ≡ true → (a && b && not c && d) ≡ false
    quiet true true c d e = rw e
    quiet true false c d e = refl
    quiet false b c d e = refl

-- a bounce leaves by the Out end that it reached
still_out : {s : State} {x : ℕ} {p : Packet} → Oldest s x p → s.ends.out (opp x) ≡ true → has_out (taken s x) (s.net.node (opp x)) ≡ true
unfolding has_out taken
still_out {s} {x} old o =
    any_here (out_at s (s.net.node (opp x))) (lanes s) (opp x) (opp_below x s.net.links old.inside)
    (rw (test_same (s.net.node (opp x)), whole_live s (opp x) (whole_opp s x old.joined)) o)

counted_step : {s : State} {e : Event} {o : Outcome} → Step s e o → Formed 0 0 s → (u : ℕ)
    → o.state.turns u ≡ cond (turns_in s e o u) (suc (s.turns u)) (s.turns u)
unfolding turns_in counted taken cut about onward pass has_live has_out
counted_step (refused r) f u = refl
counted_step (at_home r d) f u = refl
counted_step (strands r d n) f u = refl
counted_step {s} (sends {v = v} r d l m) f u = onward_turns (counted s 1 0 0 0) v s.counts.admitted f.marked l u
counted_step (comes_home old h d) f u = rw (rest h).turns
counted_step {s} {o = out} (bounces {x = x} {p = p} old o n d) f u =
    rw (about_heard old (known n))
    (sym (ap (λ b. cond b (suc (s.turns u)) (s.turns u)) (no_turn (taken s x) out.state (s.net.node (opp x)) (still_out old o) u)))
counted_step {s} (goes_on {x = x} {p = p} {t = t} old h d) f u =
    rw (about_heard old h, ← (rest h).turns)
    (onward_turns (counted t 0 0 0 0) (s.net.node (opp x)) p.number (heard old h f).marked
    (same_live h (s.net.node (opp x)) ∙ reached old) u)
counted_step (loses old) f u = refl
counted_step (fails r i w) f u = refl

kept_is_counted : {s : State} (h : History s) (v : ℕ) → s.turns v ≡ turn_events h v
unfolding turn_events opened
kept_is_counted (start n d list e) v = rw (opens_as n d list (tested n d list false e))
kept_is_counted (next {s = s} h e) v = counted_step (step s e) (formed_if s (formed_history h)) v ∙ rw (kept_is_counted h v)

destination_still : {s : State} → History s → s.turns s.net.destination ≡ 0
destination_still {s} h =
    let g : Good partial s = good h in
    omega (arith, g.1.enough s.net.destination, g.1.home)

pub turns_counted : TurnsCounted
turns_counted = record { kept = λ s h v. kept_is_counted h v; destination = λ s h. destination_still h }
