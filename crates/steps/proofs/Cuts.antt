-- The ways through a failure, and what is left of the arrays. Assumes nothing.
use Prim.Native.Nat.{ℕ, ◌+◌, ◌-◌, ◌*◌, ◌≤◌, ◌<◌}
use native.Mathlib.Omega.{arith}
use mathlib.Core.Path.{◌≡◌, refl, ◌∙◌}
use mathlib.Core.Logic.{◌⊎◌, inl, inr}
use mathlib.Core.Bool.{Bool, true, false, cond}
use mathlib.Core.List.{List}
use lib.Dec.{eqb}
use lib.ListN.{length, get_or, set, length-set}
use lib.Seq.{get_or-set_same, get_or-set_other}
use borrow.Author.Tests.{le-leb, lt-leb, eqb-true, eqb-false, eq-eqb, ne_eqb}
use Rattle.model.specs.declared.Handled.TheVariants as handled
use Rattle.model.specs.declared.Went.TheVariants as went
use Rattle.model.specs.Limits.{links_most, ends_most, events_most}
use Rattle.model.specs.Answers as answers
use Rattle.model.specs.State.{State, Packet, link_of}
use Rattle.model.specs.Formed.{well_formed}
use Rattle.model.specs.Outcome.{Outcome, refuse, accepting, counted}
use Rattle.model.specs.Fail.{off, cut, fail_of}
use Rattle.model.proofs.Below.{look}
use Rattle.arrays.specs.declared.record.Plan.{Plan}
use Rattle.arrays.specs.declared.record.Arrows.{Arrows}
use Rattle.arrays.specs.declared.record.Tally.{Tally}
use Rattle.arrays.specs.View.{used, counts_of, shown}
use Rattle.arrays.specs.Told.{cleared, passed}
use Rattle.arrays.proofs.Below.{used_in, used_is, used_out}
use Rattle.departs.specs.declared.tally.Step.{Step}
use Rattle.departs.specs.Steps.{outcome_of}

module _ (s : State) (l : ℕ) (formed : well_formed s ≡ true) (room : s.counts.events < events_most) where
  pub fail_no_such : s.net.links ≤ l → refuse s answers.no_such ≡ fail_of s l
  unfolding fail_of accepting
  fail_no_such h = rw (formed, lt-leb events_most s.counts.events room, le-leb s.net.links l h)

  module _ (inside : l < s.net.links) where
    pub fail_down : s.up l ≡ false → refuse s answers.link_down ≡ fail_of s l
    unfolding fail_of accepting
    fail_down e = rw (formed, lt-leb events_most s.counts.events room, lt-leb s.net.links l inside, e)

    pub fail_cuts : s.up l ≡ true → (gone : ℕ) → gone ≡ length s.flight - length (off l s.flight)
        → ◌≡◌ {A = Outcome} (record { state = counted (cut s l) 0 0 gone 0; answer = answers.done; handled = handled.Nothing; went = went.Nowhere }) (fail_of s l)
    unfolding fail_of accepting
    fail_cuts e gone q = rw (formed, lt-leb events_most s.counts.events room, lt-leb s.net.links l inside, e, q)

same : (b : Bool) → false ≡ cond b false false
same true = refl
same false = refl

-- the arrays of a link that went down
module _ (p : Plan) (a : Arrows) (flight : List Packet) (t : Tally) (l : ℕ)
    (inside : l < p.links) (small : p.links ≤ links_most) (lives : length a.live ≡ links_most) (marks : length a.mark ≡ ends_most) where
  abbrev K : ℕ
  K = 2 * p.links

  up_is : used p.links false (set a.live l false) ≡ (λ k. cond (eqb k l) false (used p.links false a.live k))
  up_is =
      used_is p.links false (set a.live l false) _ (λ k h. rw (used_in p.links false a.live k h) (go k (look (eqb k l))))
      (λ k h. rw (used_out p.links false a.live k h) (same (eqb k l)))
    where
      go : (k : ℕ) → (eqb k l ≡ true) ⊎ (eqb k l ≡ false) → get_or (set a.live l false) k false ≡ cond (eqb k l) false (get_or a.live k false)
      go k (inl e) = rw (e, eqb-true k l e) (get_or-set_same a.live l false false (omega arith))
      go k (inr e) = rw e (get_or-set_other a.live l k false false (eqb-false k l e))

  marks_are : used K false (set (set a.mark (2 * l) false) (2 * l + 1) false) ≡ (λ x. cond (eqb (link_of x) l) false (used K false a.mark x))
  marks_are =
      used_is K false (set (set a.mark (2 * l) false) (2 * l + 1) false) _
      (λ x h. rw (used_in K false a.mark x h) (go x (look (eqb x (2 * l + 1))) (look (eqb x (2 * l)))))
      (λ x h. rw (used_out K false a.mark x h) (same (eqb (link_of x) l)))
    where
      long : length (set a.mark (2 * l) false) ≡ ends_most
      long = length-set a.mark (2 * l) false ∙ marks

      go : (x : ℕ) → (eqb x (2 * l + 1) ≡ true) ⊎ (eqb x (2 * l + 1) ≡ false) → (eqb x (2 * l) ≡ true) ⊎ (eqb x (2 * l) ≡ false)
          → get_or (set (set a.mark (2 * l) false) (2 * l + 1) false) x false ≡ cond (eqb (link_of x) l) false (get_or a.mark x false)
      go x (inl m) n =
          let q : x ≡ 2 * l + 1 = eqb-true x (2 * l + 1) m in
          rw (eq-eqb (link_of x) l (omega arith), q) (get_or-set_same (set a.mark (2 * l) false) (2 * l + 1) false false (omega (arith, long)))
      go x (inr m) (inl n) =
          let q : x ≡ 2 * l = eqb-true x (2 * l) n in
          rw (eq-eqb (link_of x) l (omega arith), get_or-set_other (set a.mark (2 * l) false) (2 * l + 1) x false false (eqb-false x (2 * l + 1) m), q)
          (get_or-set_same a.mark (2 * l) false false (omega arith))
      go x (inr m) (inr n) =
          rw (
            ne_eqb (link_of x) l (λ e. omega (arith, eqb-false x (2 * l + 1) m, eqb-false x (2 * l) n)),
            get_or-set_other (set a.mark (2 * l) false) (2 * l + 1) x false false (eqb-false x (2 * l + 1) m),
          )
          (get_or-set_other a.mark (2 * l) x false false (eqb-false x (2 * l) n))

  abbrev pub cut_arrows : Arrows
  cut_arrows =
      record {
        live = set a.live l false;
        out = a.out;
        local = a.local;
        remote = a.remote;
        mark = set (set a.mark (2 * l) false) (2 * l + 1) false;
        turns = a.turns;
      }

  pub cut_is : shown p cut_arrows (off l flight) t ≡ cut (shown p a flight t) l
  unfolding cut
  cut_is =
      λ i.
      record {
        net = (shown p a flight t).net;
        up = up_is i;
        ends = record { out = used K false a.out; local = used K false a.local; remote = used K false a.remote; mark = marks_are i };
        turns = used p.nodes 0 a.turns;
        flight = off l flight;
        counts = counts_of t;
      }

-- ---- what an answer that goes with no packet leaves of those in flight
module _ (p : Plan) (a : Arrows) (flight : List Packet) (l : ℕ) {r : Step} {t : Tally} where
  pub bare_keeps : {answer : ℕ} → r ≡ record { tally = t; answer = answer; handled = handled.Nothing; went = went.Nowhere }
      → cleared answer l flight ≡ flight
      → outcome_of (shown p a (passed a.local (cleared r.answer l flight) r.handled r.went) r.tally) r
      ≡ record { state = shown p a flight t; answer = answer; handled = handled.Nothing; went = went.Nowhere }
  bare_keeps q e = rw (q, e)

  pub bare_cuts : r ≡ record { tally = t; answer = 0; handled = handled.Nothing; went = went.Nowhere }
      → outcome_of (shown p a (passed a.local (cleared r.answer l flight) r.handled r.went) r.tally) r
      ≡ record { state = shown p a (off l flight) t; answer = 0; handled = handled.Nothing; went = went.Nowhere }
  bare_cuts q = rw q

pub bare_long : (local : List Bool) (flight : List Packet) (l : ℕ) {r : Step} {t : Tally} {answer : ℕ}
    → r ≡ record { tally = t; answer = answer; handled = handled.Nothing; went = went.Nowhere } → length (cleared answer l flight) ≡ t.flying
    → length (passed local (cleared r.answer l flight) r.handled r.went) ≡ r.tally.flying
bare_long local flight l q e = rw q e
