-- The ways through a delivery. Assumes nothing.
use Prim.Native.Nat.{ℕ, zero, suc, ◌*◌, ◌≤◌, ◌<◌}
use native.Mathlib.Omega.{arith}
use mathlib.Core.Path.{◌≡◌, refl, sym, ap, ◌∙◌}
use mathlib.Core.Logic.{◌⊎◌, inl, inr}
use mathlib.Core.Bool.{Bool, true, false, not, beq, cond, xor, ◌&&◌, and-true, and-false}
use mathlib.Core.List.{List, [], ◌∷◌}
use lib.Dec.{eqb}
use lib.ListN.{length, get_or, set}
use lib.Seq.{get_or-set_same, get_or-set_other}
use borrow.Author.Tests.{eqb-true, eqb-false, eq-eqb, ne_eqb}
use Rattle.model.specs.declared.Went.TheVariants as went
use Rattle.model.specs.Limits.{links_most, ends_most}
use Rattle.model.specs.Answers as answers
use Rattle.model.specs.State.{State, Packet, opp, lanes, live}
use Rattle.model.specs.Departure.{live_at, has_live}
use Rattle.model.specs.Outcome.{Outcome, refuse, counted, gives, leaves, onward}
use Rattle.model.specs.Lanes.{taken}
use Rattle.model.specs.Deliver.{news, arrives}
use Rattle.model.proofs.Below.{look, any_here}
use Rattle.arrays.specs.declared.record.Plan.{Plan}
use Rattle.arrays.specs.declared.record.Arrows.{Arrows}
use Rattle.arrays.specs.declared.record.Tally.{Tally}
use Rattle.arrays.specs.View.{used, counts_of, shown}
use Rattle.arrays.proofs.Below.{used_in, used_is, used_out}
use Rattle.arrivals.specs.Landing.{landed, heard}

-- news is a bit other than the remote one
pub fresh_is : (p q : Bool) → not (beq p q) ≡ xor p q
unfolding xor
fresh_is true true = refl
fresh_is true false = refl
fresh_is false true = refl
fresh_is false false = refl

-- a bit joined with a flag turns where the flag is
pub turned_is : (b t : Bool) → not (beq b t) ≡ cond t (not b) b
turned_is true true = refl
turned_is true false = refl
turned_is false true = refl
turned_is false false = refl

-- what is done with the packet p of lane x, by what its end was and what it said
module _ (s : State) (x : ℕ) (p : Packet) where
  abbrev is_new : Bool
  is_new = xor p.bit (s.ends.remote (opp x))

  abbrev dealt : Outcome
  dealt =
      cond (not (s.ends.out (opp x)) && is_new) (refuse s answers.out_of_step)
      (arrives (taken s x) (opp x) p.number (s.ends.out (opp x)) is_new)

  module _ (y : ℕ) (at : y ≡ opp x) (o f : Bool) (was : s.ends.out y ≡ o) (said : xor p.bit (s.ends.remote y) ≡ f) where
    was_out : s.ends.out (opp x) ≡ o
    was_out = ap s.ends.out (sym at) ∙ was

    was_taken : (taken s x).ends.out (opp x) ≡ o
    unfolding taken
    was_taken = was_out

    new_is : is_new ≡ f
    new_is = ap (λ z. xor p.bit (s.ends.remote z)) (sym at) ∙ said

    pub if_out_of_step : (not o && f) ≡ true → dealt ≡ refuse s answers.out_of_step
    if_out_of_step e = rw (was_out, new_is, e)

    pub deal_lands : (not o && f) ≡ false → dealt ≡ landed (cond f (news (taken s x) y) (taken s x)) y p.number
    unfolding arrives news taken
    deal_lands step = elim (look f) [
      | inl e ↦ rw (was_out, new_is, step, e, is_out o (rw e at step), eq-eqb y y refl, at)
      | inr e ↦ elim (look o) [
        | inl u ↦ rw (at, was_out, new_is, e, was_taken, u)
        | inr u ↦ rw (at, was_out, new_is, e, was_taken, u)
      ]
    ]
      where
        is_out : (b : Bool) → (not b && true) ≡ false → b ≡ true
        is_out true q = refl
        is_out false q = sym q

-- the ways of a packet that has come to end y of node v
module _ (s : State) (y n : ℕ) {v : ℕ} (here : s.net.node y ≡ v) where
  pub lands_home : v ≡ s.net.destination → gives (counted s 0 1 0 0) n went.Delivered ≡ landed s y n
  lands_home h = rw (here, eq-eqb v s.net.destination h)

  module _ (away : v ≡ s.net.destination → ⊥) where
    pub lands_back : s.ends.out y ≡ true → leaves (counted s 0 0 0 0) y n ≡ landed s y n
    lands_back o = rw (here, ne_eqb v s.net.destination away, o)

    pub lands_on : s.ends.out y ≡ false → onward (counted s 0 0 0 0) v n ≡ landed s y n
    lands_on o = rw (here, ne_eqb v s.net.destination away, o)

-- the node of a live end has a live end
pub held_at : (s : State) (v y : ℕ) → y < lanes s → s.net.node y ≡ v → live s y ≡ true → has_live s v ≡ true
unfolding has_live
held_at s v y h e l = any_here (live_at s v) (lanes s) y h (rw (eq-eqb (s.net.node y) v e, l))

-- news, in the arrays
pub set_same {ℓ} : {A : Type ℓ} (l : List A) (i : ℕ) (d : A) → set l i (get_or l i d) ≡ l
set_same [] i d = refl
set_same (x ∷ xs) zero d = refl
set_same (x ∷ xs) (suc i) d = ap (λ l. x ∷ l) (set_same xs i d)

module _ (p : Plan) (a : Arrows) (flight : List Packet) (t : Tally) (y : ℕ)
    (inside : y < 2 * p.links) (small : p.links ≤ links_most) (outs : length a.out ≡ ends_most) (remotes : length a.remote ≡ ends_most) where
  abbrev K : ℕ
  K = 2 * p.links

  out_news : used K false (set a.out y false) ≡ (λ x. cond (eqb x y) false (used K false a.out x))
  out_news = used_is K false (set a.out y false) _ (λ x h. rw (used_in K false a.out x h) (go x (look (eqb x y)))) (λ x h. rw (used_out K false a.out x h, ne_eqb x y (λ e. omega arith)))
    where
      go : (x : ℕ) → (eqb x y ≡ true) ⊎ (eqb x y ≡ false) → get_or (set a.out y false) x false ≡ cond (eqb x y) false (get_or a.out x false)
      go x (inl e) = rw (e, eqb-true x y e) (get_or-set_same a.out y false false (omega arith))
      go x (inr e) = rw e (get_or-set_other a.out y x false false (eqb-false x y e))

  remote_news : used K false (set a.remote y (not (get_or a.remote y false))) ≡ (λ x. cond (eqb x y) (not (used K false a.remote x)) (used K false a.remote x))
  remote_news =
      used_is K false (set a.remote y (not (get_or a.remote y false))) _ (λ x h. rw (used_in K false a.remote x h) (go x (look (eqb x y))))
      (λ x h. rw (used_out K false a.remote x h, ne_eqb x y (λ e. omega arith)))
    where
      go : (x : ℕ) → (eqb x y ≡ true) ⊎ (eqb x y ≡ false)
          → get_or (set a.remote y (not (get_or a.remote y false))) x false ≡ cond (eqb x y) (not (get_or a.remote x false)) (get_or a.remote x false)
      go x (inl e) = rw (e, eqb-true x y e) (get_or-set_same a.remote y (not (get_or a.remote y false)) false (omega arith))
      go x (inr e) = rw e (get_or-set_other a.remote y x (not (get_or a.remote y false)) false (eqb-false x y e))

  pub heard_is : (f : Bool) {s : State} → shown p a flight t ≡ s → shown p (heard a y f) flight t ≡ cond f (news s y) s
  unfolding news
  heard_is true e =
      (λ i.
      record {
        net = (shown p a flight t).net;
        up = used p.links false a.live;
        ends = record {
          out = (ap (used K false) (ap (set a.out y) (and-false (get_or a.out y false))) ∙ out_news) i;
          local = used K false a.local;
          remote = remote_news i;
          mark = used K false a.mark;
        };
        turns = used p.nodes 0 a.turns;
        flight = flight;
        counts = counts_of t;
      })
      ∙ ap (λ s. news s y) e
  heard_is false e =
      ap (λ (o : List Bool). shown p (record { live = a.live; out = o; local = a.local; remote = set a.remote y (get_or a.remote y false); mark = a.mark; turns = a.turns }) flight t)
      (ap (set a.out y) (and-true (get_or a.out y false)) ∙ set_same a.out y false)
      ∙ ap (λ (r : List Bool). shown p (record { live = a.live; out = a.out; local = a.local; remote = r; mark = a.mark; turns = a.turns }) flight t) (set_same a.remote y false)
      ∙ e
