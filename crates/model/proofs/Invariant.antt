-- What holds of every state of a history, under a ghost height of each node; and what each change keeps. Assumes nothing.
use Prim.Native.Nat.{ℕ, ◌+◌, ◌<◌, ◌≤◌}
use mathlib.Core.Path.{◌≡◌, refl, ◌∙◌, ap}
use mathlib.Core.Logic.{inl, inr}
use mathlib.Core.Bool.{Bool, true, false, cond, ◌&&◌}
use mathlib.Core.List.{List, ◌∷◌}
use lib.Dec.{eqb}
use borrow.Author.Tests.{eqb-true}
use Rattle.model.specs.State.{link_of, opp, Packet, State, lanes, live, whole}
use Rattle.model.specs.Departure.{out_at, mark_at, has_out, has_mark, turn, pass}
use Rattle.model.specs.Outcome.{counted}
use Rattle.model.specs.Lanes.{on_lane, taken}
use Rattle.model.specs.Deliver.{news}
use Rattle.model.specs.Fail.{cut}
use Rattle.model.proofs.Below.{look, and_both, guard, any_false, any_none}
use Rattle.model.proofs.Ends.{opp_opp, opp_below, opp_test, test_opp, test_same, test_sym, test_far, whole_live, whole_opp}
use Rattle.model.proofs.Lanes.{lane_push, lane_push_other, lane_less, lane_less_other, lane_off}
use Rattle.model.proofs.Link.{Mode, full, End, Link, link_sym, turned, grow, grow_suc, link_push, link_pop, link_hear, link_turn, one_out}

-- end x of the state, with the height of its node
abbrev pub at : State → (ℕ → ℕ) → ℕ → End
at s height x =
    record {
      out = s.ends.out x;
      mark = s.ends.mark x;
      local = s.ends.local x;
      remote = s.ends.remote x;
      lane = on_lane x s.flight;
      height = height (s.net.node x);
    }

-- every whole link is in order
abbrev pub Linked : Mode → State → (ℕ → End) → Type 0
Linked mode s ends = (x : ℕ) → x < lanes s → whole s x ≡ true → Link mode (ends x) (ends (opp x))

pub record Invariant (mode : Mode) (s : State) (height : ℕ → ℕ) : Type 0 where
  pub linked : Linked mode s (at s height)
  -- the destination stands at 0, and no node turned more often than it is high
  pub home : height s.net.destination ≡ 0
  pub enough : (v : ℕ) → s.turns v ≤ height v
  -- full reversal knows no marks
  pub bare : mode ≡ full → (x : ℕ) → s.ends.mark x ≡ false

-- one link changes
one_link : (mode : Mode) (s : State) (old new : ℕ → End) → Linked mode s old → (z : ℕ)
    → ((x : ℕ) → eqb x z ≡ false → eqb x (opp z) ≡ false → new x ≡ old x)
    → (z < lanes s → whole s z ≡ true → Link mode (new z) (new (opp z))) → Linked mode s new
one_link mode s old new linked z else this x i w = elim (look (eqb x z)) [
  | inl e ↦
      let q : x ≡ z = eqb-true x z e in
      rw q (this (rw q at i) (rw q at w))
  | inr e ↦ elim (look (eqb x (opp z))) [
    | inl d ↦
        let q : opp x ≡ z = ap opp (eqb-true x (opp z) d) ∙ opp_opp z in
        let l : Link mode (new z) (new (opp z)) = this (rw q at (opp_below x s.net.links i)) (rw q at (whole_opp s x w)) in
        rw (q, eqb-true x (opp z) d) (link_sym l)
    | inr d ↦
        let far : new (opp x) ≡ old (opp x) = else (opp x) (test_far x z d) (test_far x (opp z) (rw (opp_opp z) e)) in
        rw (else x e d, far) (linked x i w)
  ]
]

and_last : (a b : Bool) → b ≡ false → (a && b) ≡ false
and_last true b e = e
and_last false b e = refl

module _ (mode : Mode) (s : State) (h : ℕ → ℕ) (inv : Invariant mode s h) where
  pub kept_taken : (z : ℕ) → Invariant mode (taken s z) h
  unfolding taken whole
  kept_taken z =
      record {
        linked = one_link mode s (at s h) (at (taken s z) h) inv.linked z (λ x e d. rw (lane_less_other x z s.flight e))
            (λ i w.
            rw (lane_less z s.flight, lane_less_other (opp z) z s.flight (opp_test z))
            (link_pop (at s h z) (at s h (opp z)) (inv.linked z i w)));
        home = inv.home;
        enough = inv.enough;
        bare = inv.bare;
      }

  pub kept_pass : (z n : ℕ) → Invariant mode (pass s z n) h
  unfolding pass whole
  kept_pass z n =
      let p : Packet = record { number = n; lane = z; bit = s.ends.local z } in
      record {
        linked = one_link mode s (at s h) (at (pass s z n) h) inv.linked z (λ x e d. rw (lane_push_other x s.flight p (test_sym x z e)))
            (λ i w.
            rw (lane_push z s.flight p (test_same z), lane_push_other (opp z) s.flight p (test_opp z))
            (link_push (at s h z) (at s h (opp z)) p refl (inv.linked z i w)));
        home = inv.home;
        enough = inv.enough;
        bare = inv.bare;
      }

  pub kept_counted : (a d l t : ℕ) → Invariant mode (counted s a d l t) h
  unfolding counted whole
  kept_counted a d l t = record { linked = inv.linked; home = inv.home; enough = inv.enough; bare = inv.bare }

  -- the oldest packet of lane z is taken out and is news to the other end
  pub kept_news : (z : ℕ) (p : Packet) (ps : List Packet) → on_lane z s.flight ≡ p ∷ ps → s.ends.out (opp z) ≡ true
      → (p.bit ≡ s.ends.remote (opp z) → ⊥) → Invariant mode (news (taken s z) (opp z)) h
  unfolding news taken whole
  kept_news z p ps b o n =
      record {
        linked = one_link mode s (at s h) (at (news (taken s z) (opp z)) h) inv.linked z
            (λ x e d. rw (d, lane_less_other x z s.flight e))
            (λ i w.
            rw (test_opp z, test_same (opp z), lane_less z s.flight, lane_less_other (opp z) z s.flight (opp_test z))
            (link_hear (at s h z) (at s h (opp z)) p ps b o n (inv.linked z i w)));
        home = inv.home;
        enough = inv.enough;
        bare = inv.bare;
      }

  pub kept_cut : (l : ℕ) → Invariant mode (cut s l) h
  unfolding cut whole
  kept_cut l =
      record {
        linked = λ x i w.
            let a = and_both (live (cut s l) x) (live (cut s l) (opp x)) w in
            let g = guard (eqb (link_of x) l) (live s x) a.0 in
            let g' = guard (eqb (link_of (opp x)) l) (live s (opp x)) a.1 in
            rw (g.0, g'.0, lane_off x l s.flight g.0, lane_off (opp x) l s.flight g'.0) (inv.linked x i (rw g.1 g'.1));
        home = inv.home;
        enough = inv.enough;
        bare = λ q x. elim (look (eqb (link_of x) l)) [ inl e ↦ rw e | inr e ↦ rw e (inv.bare q x) ];
      }

  -- one turn of v lifts v
  unfoldable pub raised : ℕ → ℕ → ℕ
  raised v u = cond (eqb u v) (h u + grow mode (has_mark s v)) (h u)

  at_turned : (v x : ℕ) → eqb (s.net.node x) v ≡ true → live s x ≡ true
      → at (turn s v) (raised v) x ≡ turned mode (has_mark s v) (at s h x)
  unfolding turn raised
  at_turned v x e l = rw (e, l)

  at_else : (v x : ℕ) → eqb (s.net.node x) v ≡ false → at (turn s v) (raised v) x ≡ at s h x
  unfolding turn raised
  at_else v x e = elim (look (has_mark s v)) [ inl m ↦ rw (e, m) | inr m ↦ rw (e, m) ]

  -- v holds no live Out end
  module _ (v : ℕ) (sink : has_out s v ≡ false) where
    is_in : (x : ℕ) → x < lanes s → eqb (s.net.node x) v ≡ true → live s x ≡ true → s.ends.out x ≡ false
    unfolding has_out
    is_in x i e l = rw (e, l) at (any_false (out_at s v) (lanes s) x sink i)

    is_clear : (x : ℕ) → x < lanes s → eqb (s.net.node x) v ≡ true → has_mark s v ≡ false → s.ends.mark x ≡ false
    unfolding has_mark
    is_clear x i e m = rw e at (any_false (mark_at s v) (lanes s) x m i)

    is_bare : mode ≡ full → has_mark s v ≡ false
    unfolding has_mark
    is_bare q = any_none (mark_at s v) (lanes s) (λ x. and_last (eqb (s.net.node x) v) (s.ends.mark x) (inv.bare q x))

    bare_turned : mode ≡ full → (x : ℕ) → (turn s v).ends.mark x ≡ false
    unfolding turn
    bare_turned q x = elim (look (eqb (s.net.node x) v)) [
      | inl e ↦ elim (look (live s x)) [ inl l ↦ rw (is_bare q, e, l) | inr l ↦ rw (e, l) ]
      | inr e ↦ rw e (inv.bare q x)
    ]

    link_turned : (x : ℕ) → x < lanes s → eqb (s.net.node x) v ≡ true → whole s x ≡ true → (f : End) → Link mode (at s h x) f
        → Link mode (at (turn s v) (raised v) x) f
    link_turned x i e w f k =
        let l : live s x ≡ true = whole_live s x w in
        rw (at_turned v x e l) (link_turn mode (has_mark s v) (at s h x) f (is_in x i e l) (is_clear x i e) is_bare k)

    linked_turned : Linked mode s (at (turn s v) (raised v))
    linked_turned x i w =
        let i' = opp_below x s.net.links i in
        let w' = whole_opp s x w in
        elim (look (eqb (s.net.node x) v)) [
          | inl e ↦ elim (look (eqb (s.net.node (opp x)) v)) [
            | inl d ↦
                absurd
                (one_out (at s h x) (at s h (opp x)) (inv.linked x i w) (is_in x i e (whole_live s x w))
                (is_in (opp x) i' d (whole_live s (opp x) w')))
            | inr d ↦ rw (at_else v (opp x) d) (link_turned x i e w (at s h (opp x)) (inv.linked x i w))
          ]
          | inr e ↦ elim (look (eqb (s.net.node (opp x)) v)) [
            | inl d ↦ rw (at_else v x e) (link_sym (link_turned (opp x) i' d w' (at s h x) (link_sym (inv.linked x i w))))
            | inr d ↦ rw (at_else v x e, at_else v (opp x) d) (inv.linked x i w)
          ]
        ]

    pub kept_turn : eqb v s.net.destination ≡ false → Invariant mode (turn s v) (raised v)
    unfolding turn raised whole
    kept_turn d =
        record {
          linked = linked_turned;
          home = rw (test_sym v s.net.destination d) inv.home;
          enough = λ u. elim (look (eqb u v)) [
            | inl e ↦ rw e (grow_suc mode (has_mark s v) (s.turns u) (h u) (inv.enough u))
            | inr e ↦ rw e (inv.enough u)
          ];
          bare = bare_turned;
        }
