-- The slots on a link become empty: the queues stay in order, and the others stand. Assumes nothing.
use Prim.Native.Nat.{ℕ, suc, ◌+◌, ◌*◌, ◌/◌, ◌≤◌, ◌<◌}
use native.Mathlib.Omega.{arith}
use mathlib.Core.Path.{◌≡◌, refl, sym, ap, ◌∙◌}
use mathlib.Core.Logic.{◌⊎◌, inl, inr}
use mathlib.Core.Bool.{Bool, cond, ◌&&◌, and-false}
use mathlib.Core.List.{List}
use lib.Dec.{ltb, eqb}
use lib.ListN.{length, get_or, set, length-set}
use lib.Seq.{get_or-set_same, get_or-set_other}
use borrow.Author.Tests.{lt-ltb, le-ltb, ltb-true, ltb-false, eq-eqb, ne_eqb}
use Rattle.model.specs.Limits.{links_most, ends_most}
use Rattle.model.specs.Fail.{off}
use Rattle.model.proofs.Below.{look}
use Rattle.arrays.specs.View.{packet_at}
use Rattle.queues.specs.Queue.{room, no_lane, Next, InOrder, Emptied}
use Rattle.queues.proofs.Standing.{flown_in, same, standing_off}

-- ---- one slot after another
module _ (l : ℕ) (old : List ℕ) where
  pub emptied_none : Emptied l 0 old old
  emptied_none = record { entry = λ j. rw (le-ltb j 0 (omega arith)); long = refl }

  module _ (i : ℕ) (new : List ℕ) (e : Emptied l i old new) where
    -- slot i is as it was
    pub unpassed : get_or new i 0 ≡ get_or old i 0
    unpassed = e.entry i ∙ rw (le-ltb i i (omega arith))

    -- another slot is passed or not, as before
    passed : (j : ℕ) → (j ≡ i → ⊥) → ltb j i ≡ ltb j (i + 1)
    passed j n = elim (look (ltb j i)) [
      | inl a ↦ rw (a, lt-ltb j (i + 1) (omega (arith, ltb-true j i a)))
      | inr a ↦ rw (a, le-ltb j (i + 1) (omega (arith, ltb-false j i a, n)))
    ]

    others : (j : ℕ) → (j ≡ i → ⊥) → get_or new j 0 ≡ cond (ltb j (i + 1) && eqb (get_or old j 0 / 2) l) no_lane (get_or old j 0)
    others j n = rw (← passed j n) (e.entry j)

    pub emptied_on : get_or new i 0 / 2 ≡ l → i < length new → Emptied l (i + 1) old (set new i no_lane)
    emptied_on h b =
        record {
          entry = λ j. elim (same j i) [
            | inl z ↦
                rw (
                  z,
                  get_or-set_same new i no_lane 0 b,
                  lt-ltb i (i + 1) (omega arith),
                  eq-eqb (get_or old i 0 / 2) l (ap (λ n. n / 2) (sym unpassed) ∙ h),
                )
            | inr z ↦ get_or-set_other new i j no_lane 0 z ∙ others j z
          ];
          long = length-set new i no_lane ∙ e.long;
        }

    pub emptied_off : (get_or new i 0 / 2 ≡ l → ⊥) → Emptied l (i + 1) old new
    emptied_off h =
        record {
          entry = λ j. elim (same j i) [
            | inl z ↦ rw (z, unpassed, ne_eqb (get_or old i 0 / 2) l (λ q. h (ap (λ n. n / 2) unpassed ∙ q)), and-false (ltb i (i + 1)))
            | inr z ↦ others j z
          ];
          long = e.long;
        }

-- ---- all of them
module _ (lane lanes : List ℕ) (used l : ℕ) (b : l < links_most) (e : Emptied l used lane lanes) where
  gone : (j : ℕ) → j < used → get_or lane j 0 / 2 ≡ l → get_or lanes j 0 ≡ no_lane
  gone j u h = e.entry j ∙ rw (lt-ltb j used u, eq-eqb (get_or lane j 0 / 2) l h)

  kept : (j : ℕ) → (get_or lane j 0 / 2 ≡ l → ⊥) → get_or lanes j 0 ≡ get_or lane j 0
  kept j n = e.entry j ∙ rw (ne_eqb (get_or lane j 0 / 2) l n, and-false (ltb j used))

  -- the packets are those off the link
  pub flown_off : (number : List ℕ) (bit : List Bool) → flown_in number lanes bit used ≡ off l (flown_in number lane bit used)
  flown_off number bit =
      standing_off l b (packet_at number lane bit) (packet_at number lanes bit) used gone (λ j u n. rw (kept j n))

  -- a slot on a lane was there before, and that lane is not on the link
  on_before : (j y : ℕ) → j < used → y < ends_most → get_or lanes j 0 ≡ y → (get_or lane j 0 ≡ y) × (y / 2 ≡ l → ⊥)
  on_before j y u m h = elim (same (get_or lane j 0 / 2) l) [
    | inl z ↦ absurd (omega (arith, gone j u z))
    | inr z ↦ let w : get_or lane j 0 ≡ y = sym (kept j z) ∙ h in (w, λ q. z (ap (λ n. n / 2) w ∙ q))
  ]

  -- a slot on a lane of another link still is
  still : (j y : ℕ) → (y / 2 ≡ l → ⊥) → get_or lane j 0 ≡ y → get_or lanes j 0 ≡ y
  still j y n h = kept j (λ q. n (ap (λ i. i / 2) (sym h) ∙ q)) ∙ h

  next_kept : (y a f : ℕ) → y < ends_most → (y / 2 ≡ l → ⊥) → Next lane used y a f → Next lanes used y a f
  next_kept y a f m d n =
      record {
        most = n.most;
        before = λ j c u v h. n.before j c u v (on_before j y u m h).0;
        here = λ r. let w = n.here r in (w.0, w.1, still f y d w.2);
      }

  module _ (first last after : List ℕ) (q : InOrder lane first last after used) where
    abbrev one : List ℕ
    one = set first (2 * l) room

    abbrev firsts : List ℕ
    firsts = set one (2 * l + 1) room

    first_none : (y : ℕ) → y / 2 ≡ l → get_or firsts y 0 ≡ room
    first_none y h = elim (same y (2 * l + 1)) [
      | inl z ↦ rw z (get_or-set_same one (2 * l + 1) room 0 (omega (arith, length-set first (2 * l) room, q.first_long)))
      | inr z ↦
          let w : y ≡ 2 * l = omega (arith, z) in
          get_or-set_other one (2 * l + 1) y room 0 z ∙ rw w (get_or-set_same first (2 * l) room 0 (omega (arith, q.first_long)))
    ]

    first_kept : (y : ℕ) → (y / 2 ≡ l → ⊥) → get_or firsts y 0 ≡ get_or first y 0
    first_kept y n =
        get_or-set_other one (2 * l + 1) y room 0 (λ z. n (omega (arith, z))) ∙ get_or-set_other first (2 * l) y room 0 (λ z. n (omega (arith, z)))

    begins_cut : (y : ℕ) → y < ends_most → (y / 2 ≡ l) ⊎ (y / 2 ≡ l → ⊥) → Next lanes used y 0 (get_or firsts y 0)
    begins_cut y m (inl z) =
        rw (first_none y z)
        (record {
          most = omega arith;
          before = λ j c u v h. (on_before j y u m h).1 z;
          here = λ r. absurd (omega arith);
        })
    begins_cut y m (inr z) = rw (first_kept y z) (next_kept y 0 (get_or first y 0) m z (q.begins y m))

    goes_cut : (j : ℕ) → j < used → get_or lanes j 0 < ends_most → Next lanes used (get_or lanes j 0) (suc j) (get_or after j 0)
    goes_cut j u m =
        let w = on_before j (get_or lanes j 0) u m refl in
        next_kept (get_or lanes j 0) (suc j) (get_or after j 0) m w.1 (rw w.0 at (q.goes j u (omega (arith, w.0))))

    -- a lane that has a first packet had one, and is on another link
    other_link : (y : ℕ) → get_or firsts y 0 < room → (y / 2 ≡ l → ⊥) × (get_or first y 0 < room)
    other_link y r =
        let n : y / 2 ≡ l → ⊥ = λ z. omega (arith, first_none y z) in
        (n, omega (arith, first_kept y n))

    named_cut : (j : ℕ) → j < used → get_or lanes j 0 ≤ no_lane
    named_cut j u = elim (same (get_or lane j 0 / 2) l) [
      | inl z ↦ omega (arith, gone j u z)
      | inr z ↦ omega (arith, kept j z, q.named j u)
    ]

    -- and the queues are in order
    pub queued_cut : InOrder lanes firsts last after used
    queued_cut =
        record {
          within = q.within;
          named = named_cut;
          begins = λ y m. begins_cut y m (same (y / 2) l);
          goes = goes_cut;
          ends = λ y m r.
              let o = other_link y r in
              let w = q.ends y m o.1 in
              (w.0, still (get_or last y 0) y o.0 w.1);
          done = λ y j m r s u h. q.done y j m (other_link y r).1 s u (on_before j y u m h).0;
          first_long = length-set one (2 * l + 1) room ∙ length-set first (2 * l) room ∙ q.first_long;
          last_long = q.last_long;
          after_long = q.after_long;
        }
