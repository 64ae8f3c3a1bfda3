-- A packet comes to the end of its lane: the queues stay in order. Assumes nothing.
use Prim.Native.Nat.{ℕ, suc, ◌+◌, ◌≤◌, ◌<◌}
use native.Mathlib.Omega.{arith}
use mathlib.Core.Path.{◌≡◌, sym, ap, ◌∙◌}
use mathlib.Core.Logic.{◌⊎◌, inl, inr}
use mathlib.Core.List.{List}
use lib.Dec.{ltb}
use lib.ListN.{length, get_or, set, length-set}
use lib.Seq.{get_or-set_same, get_or-set_other}
use borrow.Author.Tests.{ltb-true, ltb-false}
use Rattle.model.specs.Limits.{ends_most}
use Rattle.model.proofs.Below.{look}
use Rattle.queues.specs.Queue.{room, no_lane, Next, InOrder}
use Rattle.queues.proofs.Standing.{same}

-- the last slot of a lane that has one is in use
pub last_below : {lane first last after : List ℕ} {k : ℕ} → InOrder lane first last after k
    → (x : ℕ) → x < ends_most → (get_or first x 0 ≡ room → ⊥) → get_or last x 0 < k
last_below q x l n = (q.ends x l (omega (arith, (q.begins x l).most, n))).0

module _ (lane first last after : List ℕ) (k : ℕ) (q : InOrder lane first last after k)
    (x : ℕ) (l : x < ends_most) (b : k < room) (long : length lane ≡ room) where
  abbrev lanes : List ℕ
  lanes = set lane k x

  abbrev lasts : List ℕ
  lasts = set last x k

  new_here : get_or lanes k 0 ≡ x
  new_here = get_or-set_same lane k x 0 (omega arith)

  as_before : (j : ℕ) → j < k → get_or lanes j 0 ≡ get_or lane j 0
  as_before j m = get_or-set_other lane k j x 0 (λ z. omega arith)

  -- another lane's slot was there before
  on_before : (j y : ℕ) → j < k + 1 → (y ≡ x → ⊥) → get_or lanes j 0 ≡ y → (j < k) × (get_or lane j 0 ≡ y)
  on_before j y u n h = elim (same j k) [
    | inl z ↦ absurd (n (sym h ∙ ap (λ i. get_or lanes i 0) z ∙ new_here))
    | inr z ↦ let m : j < k = omega (arith, z) in (m, sym (as_before j m) ∙ h)
  ]

  next_other : (y a f : ℕ) → (y ≡ x → ⊥) → Next lane k y a f → Next lanes (k + 1) y a f
  next_other y a f d n =
      record {
        most = n.most;
        before = λ j c u v h. let w = on_before j y u d h in n.before j c w.0 v w.1;
        here = λ r. let w = n.here r in (w.0, omega (arith, w.1), as_before f w.1 ∙ w.2);
      }

  -- where a next one is, it stays the next
  next_stays : (y a f : ℕ) → f < room → Next lane k y a f → Next lanes (k + 1) y a f
  next_stays y a f r n =
      let w = n.here r in
      record {
        most = n.most;
        before = λ j c u v h. n.before j c (omega (arith, w.1)) v (sym (as_before j (omega (arith, w.1))) ∙ h);
        here = λ s. (w.0, omega (arith, w.1), as_before f w.1 ∙ w.2);
      }

  -- and where none is, the new one
  next_new : (a : ℕ) → a ≤ k → ((j : ℕ) → a ≤ j → j < k → get_or lane j 0 ≡ x → ⊥) → Next lanes (k + 1) x a k
  next_new a m n =
      record {
        most = omega arith;
        before = λ j c u v h. n j c v (sym (as_before j v) ∙ h);
        here = λ r. (m, omega arith, new_here);
      }

  next_none : (y : ℕ) → Next lanes (k + 1) y (suc k) room
  next_none y = record { most = omega arith; before = λ j c u v h. omega arith; here = λ r. absurd (omega arith) }

  named_more : (j : ℕ) → j < k + 1 → (j ≡ k) ⊎ (j ≡ k → ⊥) → get_or lanes j 0 ≤ no_lane
  named_more j u (inl z) = rw (z, new_here) (omega arith)
  named_more j u (inr z) = rw (as_before j (omega (arith, z))) (q.named j (omega (arith, z)))

  ends_more : (y : ℕ) → y < ends_most → ((y ≡ x → ⊥) → get_or first y 0 < room) → (y ≡ x) ⊎ (y ≡ x → ⊥)
      → (get_or lasts y 0 < k + 1) × (get_or lanes (get_or lasts y 0) 0 ≡ y)
  ends_more y m r (inl z) = rw (z, get_or-set_same last x k 0 (omega (arith, q.last_long))) (omega arith, new_here)
  ends_more y m r (inr z) =
      let w = q.ends y m (r z) in
      rw (get_or-set_other last x y k 0 z) (omega (arith, w.0), as_before (get_or last y 0) w.0 ∙ w.1)

  done_more : (y j : ℕ) → y < ends_most → ((y ≡ x → ⊥) → get_or first y 0 < room) → (y ≡ x) ⊎ (y ≡ x → ⊥)
      → get_or lasts y 0 < j → j < k + 1 → get_or lanes j 0 ≡ y → ⊥
  done_more y j m r (inl z) s u h =
      let e : get_or lasts y 0 ≡ k = rw z (get_or-set_same last x k 0 (omega (arith, q.last_long))) in
      omega (arith, e)
  done_more y j m r (inr z) s u h =
      let w = on_before j y u z h in
      q.done y j m (r z) (rw (get_or-set_other last x y k 0 z) at s) w.0 w.1

  -- the lane was empty
  module _ (none : get_or first x 0 ≡ room) where
    abbrev firsts : List ℕ
    firsts = set first x k

    abbrev afters : List ℕ
    afters = set after k room

    empty_lane : (j : ℕ) → j < k → get_or lane j 0 ≡ x → ⊥
    empty_lane j u = (q.begins x l).before j (omega arith) u (omega (arith, none))

    first_other : (y : ℕ) → get_or firsts y 0 < room → (y ≡ x → ⊥) → get_or first y 0 < room
    first_other y r z = rw (get_or-set_other first x y k 0 z) at r

    begins_first : (y : ℕ) → y < ends_most → (y ≡ x) ⊎ (y ≡ x → ⊥) → Next lanes (k + 1) y 0 (get_or firsts y 0)
    begins_first y m (inl z) =
        rw (z, get_or-set_same first x k 0 (omega (arith, q.first_long))) (next_new 0 (omega arith) (λ j c. empty_lane j))
    begins_first y m (inr z) = rw (get_or-set_other first x y k 0 z) (next_other y 0 (get_or first y 0) z (q.begins y m))

    goes_first : (j : ℕ) → j < k + 1 → get_or lanes j 0 < ends_most → (j ≡ k) ⊎ (j ≡ k → ⊥)
        → Next lanes (k + 1) (get_or lanes j 0) (suc j) (get_or afters j 0)
    goes_first j u m (inl z) = rw (z, get_or-set_same after k room 0 (omega (arith, q.after_long))) (next_none (get_or lanes k 0))
    goes_first j u m (inr z) =
        let v : j < k = omega (arith, z) in
        let e = as_before j v in
        rw (e, get_or-set_other after k j room 0 z)
        (next_other (get_or lane j 0) (suc j) (get_or after j 0) (empty_lane j v) (q.goes j v (rw e at m)))

    -- the lane was empty: the slot is its first and its last
    pub queued_first : (f a : List ℕ) → f ≡ firsts → a ≡ afters → InOrder lanes f lasts a (k + 1)
    queued_first f a f_is a_is =
        rw (f_is, a_is) (record {
          within = omega arith;
          named = λ j u. named_more j u (same j k);
          begins = λ y m. begins_first y m (same y x);
          goes = λ j u m. goes_first j u m (same j k);
          ends = λ y m r. ends_more y m (first_other y r) (same y x);
          done = λ y j m r. done_more y j m (first_other y r) (same y x);
          first_long = length-set first x k ∙ q.first_long;
          last_long = length-set last x k ∙ q.last_long;
          after_long = length-set after k room ∙ q.after_long;
        })

  -- the lane had a last packet
  module _ (some : get_or first x 0 < room) where
    abbrev t : ℕ
    t = get_or last x 0

    abbrev linked : List ℕ
    linked = set (set after k room) t k

    begins_last : (y : ℕ) → y < ends_most → (y ≡ x) ⊎ (y ≡ x → ⊥) → Next lanes (k + 1) y 0 (get_or first y 0)
    begins_last y m (inl z) = rw z (next_stays x 0 (get_or first x 0) some (q.begins x l))
    begins_last y m (inr z) = next_other y 0 (get_or first y 0) z (q.begins y m)

    -- a packet of the lane other than its last has one after it
    followed : (j : ℕ) → j < k → (m : get_or lane j 0 < ends_most) → (j ≡ t → ⊥) → get_or lane j 0 ≡ x → get_or after j 0 < room
    followed j u m d h = elim (look (ltb j t)) [
      | inl s ↦ elim (look (ltb t (get_or after j 0))) [
        | inl r ↦
            absurd
            ((q.goes j u m).before t (omega (arith, ltb-true j t s)) (q.ends x l some).0 (ltb-true t (get_or after j 0) r) ((q.ends x l some).1 ∙ sym h))
        | inr r ↦ omega (arith, ltb-false t (get_or after j 0) r, (q.ends x l some).0)
      ]
      | inr s ↦ absurd (q.done x j l some (omega (arith, ltb-false j t s, d)) u h)
    ]

    after_old : (j : ℕ) → (j ≡ k → ⊥) → (j ≡ t → ⊥) → get_or linked j 0 ≡ get_or after j 0
    after_old j n d = get_or-set_other (set after k room) t j k 0 d ∙ get_or-set_other after k j room 0 n

    after_last : get_or linked t 0 ≡ k
    after_last =
        get_or-set_same (set after k room) t k 0 (omega (arith, (q.ends x l some).0, length-set after k room, q.after_long))

    after_new : get_or linked k 0 ≡ room
    after_new =
        get_or-set_other (set after k room) t k k 0 (λ z. omega (arith, z, (q.ends x l some).0))
        ∙ get_or-set_same after k room 0 (omega (arith, q.after_long))

    goes_last : (j : ℕ) → j < k + 1 → get_or lanes j 0 < ends_most → (j ≡ k) ⊎ (j ≡ k → ⊥) → (j ≡ t) ⊎ (j ≡ t → ⊥)
        → Next lanes (k + 1) (get_or lanes j 0) (suc j) (get_or linked j 0)
    goes_last j u m (inl z) d = rw (z, after_new) (next_none (get_or lanes k 0))
    goes_last j u m (inr z) (inl d) =
        let w = q.ends x l some in
        rw (d, after_last, as_before t w.0, w.1)
        (next_new (suc t) (omega (arith, w.0)) (λ i c v. q.done x i l some (omega arith) v))
    goes_last j u m (inr z) (inr d) =
        let v : j < k = omega (arith, z) in
        let e = as_before j v in
        let o : get_or lane j 0 < ends_most = rw e at m in
        rw (e, after_old j z d) (elim (same (get_or lane j 0) x) [
          | inl h ↦ next_stays (get_or lane j 0) (suc j) (get_or after j 0) (followed j v o d h) (q.goes j v o)
          | inr h ↦ next_other (get_or lane j 0) (suc j) (get_or after j 0) h (q.goes j v o)
        ])

    -- it was not: the slot comes after its last
    pub queued_last : (s : ℕ) (f a : List ℕ) → s ≡ t → f ≡ first → a ≡ set (set after k room) s k → InOrder lanes f lasts a (k + 1)
    queued_last s f a s_is f_is a_is =
        rw (f_is, a_is, s_is) (record {
          within = omega arith;
          named = λ j u. named_more j u (same j k);
          begins = λ y m. begins_last y m (same y x);
          goes = λ j u m. goes_last j u m (same j k) (same j t);
          ends = λ y m r. ends_more y m (λ z. r) (same y x);
          done = λ y j m r. done_more y j m (λ z. r) (same y x);
          first_long = q.first_long;
          last_long = length-set last x k ∙ q.last_long;
          after_long = length-set (set after k room) t k ∙ length-set after k room ∙ q.after_long;
        })
