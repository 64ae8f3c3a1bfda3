-- The queues of the lanes, threaded from the last slot to the first. Assumes nothing.
use Prim.Native.Nat.{ℕ, suc, ◌≤◌, ◌<◌}
use native.Mathlib.Omega.{arith}
use mathlib.Core.Path.{◌≡◌, refl, sym, ap, ◌∙◌, subst}
use mathlib.Core.Logic.{inl, inr}
use mathlib.Core.List.{List}
use lib.Dec.{eqb}
use lib.ListN.{length, get_or, set, length-set}
use lib.Seq.{get_or-set_same, get_or-set_other}
use borrow.Author.Tests.{eqb-true, eqb-false}
use Rattle.model.specs.Limits.{ends_most}
use Rattle.model.proofs.Below.{look}
use Rattle.queues.specs.declared.queue.Queues.{Queues}
use Rattle.queues.specs.Queue.{room, Next, InOrder, Idle}

-- what threading leaves
pub record Aside (s q : Queues) : Type 0 where
  pub number : q.number ≡ s.number
  pub lane : q.lane ≡ s.lane
  pub bit : q.bit ≡ s.bit
  pub used : q.used ≡ s.used

module _ (lane : List ℕ) (used : ℕ) where
  -- the slots from i on are in queues
  pub record Threading (i : ℕ) (first last after : List ℕ) : Type 0 where
    pub begins : (x : ℕ) → x < ends_most → Next lane used x i (get_or first x 0)
    pub goes : (j : ℕ) → i ≤ j → j < used → Next lane used (get_or lane j 0) (suc j) (get_or after j 0)
    pub ends : (x : ℕ) → x < ends_most → get_or first x 0 < room → (get_or last x 0 < used) × (get_or lane (get_or last x 0) 0 ≡ x)
    pub done : (x j : ℕ) → x < ends_most → get_or first x 0 < room → get_or last x 0 < j → j < used → get_or lane j 0 ≡ x → ⊥
    pub first_long : length first ≡ ends_most
    pub last_long : length last ≡ ends_most
    pub after_long : length after ≡ room

  pub threading_none : (first last after : List ℕ) → ((x : ℕ) → x < ends_most → get_or first x 0 ≡ room) → length first ≡ ends_most → length last ≡ ends_most
      → length after ≡ room → Threading used first last after
  threading_none first last after none fl ll al =
      record {
        begins = λ x l. record {
          most = omega (arith, none x l);
          before = λ j a b c e. absurd (omega arith);
          here = λ f. absurd (omega (arith, none x l, f));
        };
        goes = λ j a b. absurd (omega arith);
        ends = λ x l f. absurd (omega (arith, none x l, f));
        done = λ x j l f a b e. absurd (omega (arith, none x l, f));
        first_long = fl;
        last_long = ll;
        after_long = al;
      }

  -- what no slot is threaded into stays
  pub idle_none : (first last after : List ℕ) → Idle used first last after last after
  idle_none first last after = record { lasts = λ x e. refl; afters = λ j h. refl }

  -- a slot on another lane is passed
  next_down : (x i f : ℕ) → Next lane used x (suc i) f → (get_or lane i 0 ≡ x → ⊥) → Next lane used x i f
  next_down x i f n ne =
      record {
        most = n.most;
        before = λ j a b c e. elim (look (eqb j i)) [
          | inl q ↦ ne (ap (λ k. get_or lane k 0) (sym (eqb-true j i q)) ∙ e)
          | inr q ↦ n.before j (omega (arith, eqb-false j i q)) b c e
        ];
        here = λ l. (omega (arith, (n.here l).0), (n.here l).1, (n.here l).2);
      }

  module _ (small : used ≤ room) (i : ℕ) (first last after : List ℕ) (t : Threading (suc i) first last after) (l : i < used)
      (b : get_or lane i 0 < ends_most) where
    abbrev v : ℕ
    v = get_or lane i 0

    first_same : get_or (set first v i) v 0 ≡ i
    first_same = get_or-set_same first v i 0 (omega (arith, t.first_long))

    first_other : (u : ℕ) → (u ≡ v → ⊥) → get_or (set first v i) u 0 ≡ get_or first u 0
    first_other u ne = get_or-set_other first v u i 0 ne

    begins_more : (u : ℕ) → u < ends_most → Next lane used u i (get_or (set first v i) u 0)
    begins_more u k = elim (look (eqb u v)) [
      | inl e ↦
          let same : u ≡ v = eqb-true u v e in
          rw (same, first_same) (record { most = omega arith; before = λ j a c d q. absurd (omega arith); here = λ f. (omega arith, l, refl) })
      | inr e ↦
          let ne : u ≡ v → ⊥ = eqb-false u v e in
          rw (first_other u ne) (next_down u i (get_or first u 0) (t.begins u k) (λ q. ne (sym q)))
    ]

    goes_more : (j : ℕ) → i ≤ j → j < used → Next lane used (get_or lane j 0) (suc j) (get_or (set after i (get_or first v 0)) j 0)
    goes_more j a k = elim (look (eqb j i)) [
      | inl e ↦
          let same : j ≡ i = eqb-true j i e in
          rw (same, get_or-set_same after i (get_or first v 0) 0 (omega (arith, t.after_long))) (t.begins v b)
      | inr e ↦
          let ne : j ≡ i → ⊥ = eqb-false j i e in
          rw (get_or-set_other after i j (get_or first v 0) 0 ne) (t.goes j (omega (arith, ne)) k)
    ]

    -- a lane that has no slot now is another one
    idle_other : (u : ℕ) → get_or (set first v i) u 0 ≡ room → u ≡ v → ⊥
    idle_other u e same = omega (arith, sym first_same ∙ ap (λ w. get_or (set first v i) w 0) (sym same) ∙ e)

    idle_after : {last₀ after₀ : List ℕ} → Idle used first last₀ after₀ last after
        → (j : ℕ) → used ≤ j → get_or (set after i (get_or first v 0)) j 0 ≡ get_or after₀ j 0
    idle_after s j h = get_or-set_other after i j (get_or first v 0) 0 (λ e. omega arith) ∙ s.afters j h

    idle_last : {last₀ after₀ : List ℕ} → Idle used first last₀ after₀ last after
        → (u : ℕ) → get_or (set first v i) u 0 ≡ room → get_or last u 0 ≡ get_or last₀ u 0
    idle_last s u e = s.lasts u (sym (first_other u (idle_other u e)) ∙ e)

    pub idle_on : {last₀ after₀ : List ℕ} → Idle used first last₀ after₀ last after
        → Idle used (set first v i) last₀ after₀ last (set after i (get_or first v 0))
    idle_on s = record { lasts = idle_last s; afters = idle_after s }

    pub idle_first : {last₀ after₀ : List ℕ} → Idle used first last₀ after₀ last after
        → Idle used (set first v i) last₀ after₀ (set last v i) (set after i (get_or first v 0))
    idle_first s =
        record { lasts = λ u e. get_or-set_other last v u i 0 (idle_other u e) ∙ idle_last s u e; afters = idle_after s }

    -- the lane has a queue: its last slot stays
    pub threading_on : (get_or first v 0 ≡ room → ⊥) → Threading i (set first v i) last (set after i (get_or first v 0))
    threading_on some =
        record {
          begins = begins_more;
          goes = goes_more;
          ends = λ u k f. t.ends u k (had u k f);
          done = λ u j k f. t.done u j k (had u k f);
          first_long = length-set first v i ∙ t.first_long;
          last_long = t.last_long;
          after_long = length-set after i (get_or first v 0) ∙ t.after_long;
        }
      where
        had : (u : ℕ) → u < ends_most → get_or (set first v i) u 0 < room → get_or first u 0 < room
        had u k f = elim (look (eqb u v)) [
          | inl e ↦ let same : u ≡ v = eqb-true u v e in rw same (omega (arith, (t.begins v b).most, some))
          | inr e ↦ rw (first_other u (eqb-false u v e)) at f
        ]

    -- the lane has none: the slot is its last too
    pub threading_first : get_or first v 0 ≡ room → Threading i (set first v i) (set last v i) (set after i (get_or first v 0))
    threading_first none =
        record {
          begins = begins_more;
          goes = goes_more;
          ends = ends_more;
          done = done_more;
          first_long = length-set first v i ∙ t.first_long;
          last_long = length-set last v i ∙ t.last_long;
          after_long = length-set after i (get_or first v 0) ∙ t.after_long;
        }
      where
        last_same : get_or (set last v i) v 0 ≡ i
        last_same = get_or-set_same last v i 0 (omega (arith, t.last_long))

        last_other : (u : ℕ) → (u ≡ v → ⊥) → get_or (set last v i) u 0 ≡ get_or last u 0
        last_other u ne = get_or-set_other last v u i 0 ne

        ends_more : (u : ℕ) → u < ends_most → get_or (set first v i) u 0 < room → (get_or (set last v i) u 0 < used) × (get_or lane (get_or (set last v i) u 0) 0 ≡ u)
        ends_more u k f = elim (look (eqb u v)) [
          | inl e ↦ let same : u ≡ v = eqb-true u v e in rw (same, last_same) (l, refl)
          | inr e ↦ let ne : u ≡ v → ⊥ = eqb-false u v e in rw (last_other u ne) (t.ends u k (rw (first_other u ne) at f))
        ]

        done_more : (u j : ℕ) → u < ends_most → get_or (set first v i) u 0 < room → get_or (set last v i) u 0 < j → j < used → get_or lane j 0 ≡ u → ⊥
        done_more u j k f a c q = elim (look (eqb u v)) [
          | inl e ↦
              let same : u ≡ v = eqb-true u v e in
              let behind : get_or (set last v i) v 0 < j = subst (λ w. get_or (set last v i) w 0 < j) same a in
              (t.begins v b).before j (omega (arith, last_same, behind)) c (omega (arith, none)) (q ∙ same)
          | inr e ↦
              let ne : u ≡ v → ⊥ = eqb-false u v e in
              t.done u j k (rw (first_other u ne) at f) (rw (last_other u ne) at a) c q
        ]

  pub threading_all : used ≤ room → ((i : ℕ) → i < used → get_or lane i 0 < ends_most) → (first last after : List ℕ) → Threading 0 first last after
      → InOrder lane first last after used
  threading_all small named first last after t =
      record {
        within = small;
        named = λ i l. omega (arith, named i l);
        begins = t.begins;
        goes = λ i l k. t.goes i (omega arith) l;
        ends = t.ends;
        done = t.done;
        first_long = t.first_long;
        last_long = t.last_long;
        after_long = t.after_long;
      }
