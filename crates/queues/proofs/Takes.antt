-- The first packet of a lane goes: the queues stay in order, and the others stand. Assumes nothing.
use Prim.Native.Nat.{ℕ, suc, ◌≤◌, ◌<◌}
use native.Mathlib.Omega.{arith}
use mathlib.Core.Path.{◌≡◌, refl, sym, ap, ◌∙◌, subst}
use mathlib.Core.Logic.{◌⊎◌, inl, inr}
use mathlib.Core.Bool.{Bool}
use mathlib.Core.List.{List}
use lib.Dec.{ltb}
use lib.ListN.{length, get_or, set, length-set}
use lib.Seq.{get_or-set_same, get_or-set_other}
use borrow.Author.Tests.{ltb-true, ltb-false}
use Rattle.model.specs.Limits.{ends_most}
use Rattle.model.specs.Lanes.{less}
use Rattle.model.proofs.Below.{look}
use Rattle.arrays.specs.View.{packet_at}
use Rattle.queues.specs.Queue.{room, no_lane, Next, InOrder}
use Rattle.queues.proofs.Standing.{flown_in, same, lane_less}

module _ (lane first last after : List ℕ) (used : ℕ) (q : InOrder lane first last after used)
    (i x : ℕ) (l : x < ends_most) (e : get_or first x 0 ≡ i) (b : i < room) (long : length lane ≡ room) where
  abbrev lanes : List ℕ
  lanes = set lane i no_lane

  abbrev firsts : List ℕ
  firsts = set first x (get_or after i 0)

  begin : Next lane used x 0 i
  begin = rw e at (q.begins x l)

  onward : Next lane used x (suc i) (get_or after i 0)
  onward = rw (begin.here b).2 at (q.goes i (begin.here b).1 (omega (arith, (begin.here b).2)))

  empty_now : get_or lanes i 0 ≡ no_lane
  empty_now = get_or-set_same lane i no_lane 0 (omega arith)

  as_before : (j : ℕ) → (j ≡ i → ⊥) → get_or lanes j 0 ≡ get_or lane j 0
  as_before j n = get_or-set_other lane i j no_lane 0 n

  -- a slot on a lane was there before, and is not slot i
  other_slot : (j y : ℕ) → y < ends_most → get_or lanes j 0 ≡ y → j ≡ i → ⊥
  other_slot j y m h z = omega (arith, subst (λ n. get_or lanes n 0 ≡ y) z h, empty_now)

  on_before : (j y : ℕ) → y < ends_most → get_or lanes j 0 ≡ y → get_or lane j 0 ≡ y
  on_before j y m h = sym (as_before j (other_slot j y m h)) ∙ h

  next_kept : (y a f : ℕ) → y < ends_most → Next lane used y a f → (f < room → f ≡ i → ⊥) → Next lanes used y a f
  next_kept y a f m n d =
      record {
        most = n.most;
        before = λ j c u v h. n.before j c u v (on_before j y m h);
        here = λ r. let w = n.here r in (w.0, w.1, as_before f (d r) ∙ w.2);
      }

  begins_taken : (y : ℕ) → y < ends_most → (y ≡ x) ⊎ (y ≡ x → ⊥) → Next lanes used y 0 (get_or firsts y 0)
  begins_taken y m (inl z) =
      rw (z, get_or-set_same first x (get_or after i 0) 0 (omega (arith, q.first_long)))
      (record {
        most = onward.most;
        before = λ j c u v h. elim (same j i) [
          | inl w ↦ other_slot j x l h w
          | inr w ↦ elim (before_or_behind j w) [
            | inl s ↦ begin.before j c u s (on_before j x l h)
            | inr s ↦ onward.before j s u v (on_before j x l h)
          ]
        ];
        here = λ r.
            let w = onward.here r in
            (omega arith, w.1, as_before (get_or after i 0) (λ s. omega (arith, s, w.0)) ∙ w.2);
      })
    where
      before_or_behind : (j : ℕ) → (j ≡ i → ⊥) → (j < i) ⊎ (suc i ≤ j)
      before_or_behind j w = elim (look (ltb j i)) [
        | inl s ↦ inl (ltb-true j i s)
        | inr s ↦ inr (omega (arith, ltb-false j i s, w))
      ]
  begins_taken y m (inr z) =
      rw (get_or-set_other first x y (get_or after i 0) 0 z)
      (next_kept y 0 (get_or first y 0) m (q.begins y m)
      (λ r s. z (sym ((q.begins y m).here r).2 ∙ ap (λ n. get_or lane n 0) s ∙ (begin.here b).2)))

  goes_taken : (j : ℕ) → j < used → get_or lanes j 0 < ends_most → (j ≡ i) ⊎ (j ≡ i → ⊥) → Next lanes used (get_or lanes j 0) (suc j) (get_or after j 0)
  goes_taken j u m (inl z) = absurd (other_slot j (get_or lanes j 0) m refl z)
  goes_taken j u m (inr z) =
      let y : get_or lane j 0 < ends_most = rw (as_before j z) at m in
      let n = q.goes j u y in
      rw (as_before j z)
      (next_kept (get_or lane j 0) (suc j) (get_or after j 0) y n
      (λ r s.
      let w = n.here r in
      begin.before j (omega arith) u (omega (arith, w.0, s)) (sym w.2 ∙ ap (λ k. get_or lane k 0) s ∙ (begin.here b).2)))

  -- where the lane still has a first packet, its last is not slot i
  last_other : get_or after i 0 < room → get_or last x 0 ≡ i → ⊥
  last_other r s =
      let w = onward.here r in
      q.done x (get_or after i 0) l (omega (arith, e)) (omega (arith, s, w.0)) w.1 w.2

  ends_taken : (y : ℕ) → y < ends_most → get_or firsts y 0 < room → (y ≡ x) ⊎ (y ≡ x → ⊥)
      → (get_or last y 0 < used) × (get_or lanes (get_or last y 0) 0 ≡ y)
  ends_taken y m r (inl z) =
      let s : get_or after i 0 < room = rw (z, get_or-set_same first x (get_or after i 0) 0 (omega (arith, q.first_long))) at r in
      let w = q.ends x l (omega (arith, e)) in
      rw z (w.0, as_before (get_or last x 0) (last_other s) ∙ w.1)
  ends_taken y m r (inr z) =
      let w = q.ends y m (rw (get_or-set_other first x y (get_or after i 0) 0 z) at r) in
      (w.0, as_before (get_or last y 0) (λ s. z (sym w.1 ∙ ap (λ n. get_or lane n 0) s ∙ (begin.here b).2)) ∙ w.1)

  first_taken : (y : ℕ) → get_or firsts y 0 < room → (y ≡ x) ⊎ (y ≡ x → ⊥) → get_or first y 0 < room
  first_taken y r (inl z) = rw z (omega (arith, e))
  first_taken y r (inr z) = rw (get_or-set_other first x y (get_or after i 0) 0 z) at r

  -- the queues are in order
  pub queued_taken : InOrder lanes firsts last after used
  queued_taken =
      record {
        within = q.within;
        named = λ j u. elim (same j i) [
          | inl z ↦ rw (z, empty_now) (omega arith)
          | inr z ↦ rw (as_before j z) (q.named j u)
        ];
        begins = λ y m. begins_taken y m (same y x);
        goes = λ j u m. goes_taken j u m (same j i);
        ends = λ y m r. ends_taken y m r (same y x);
        done = λ y j m r s u h. q.done y j m (first_taken y r (same y x)) s u (on_before j y m h);
        first_long = length-set first x (get_or after i 0) ∙ q.first_long;
        last_long = q.last_long;
        after_long = q.after_long;
      }

  -- and the packets are those without the oldest of the lane
  pub flown_taken : (number : List ℕ) (bit : List Bool) → flown_in number lanes bit used ≡ less x (flown_in number lane bit used)
  flown_taken number bit =
      lane_less x l (packet_at number lane bit) (packet_at number lanes bit) used i (begin.here b).1
      (λ j m. begin.before j (omega arith) (omega (arith, (begin.here b).1)) m)
      (begin.here b).2
      empty_now
      (λ j n. rw (as_before j n))
