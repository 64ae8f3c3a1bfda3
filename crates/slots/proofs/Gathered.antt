-- The packets that still stand: gathered from the slots of a burst, and spread over them. Assumes nothing.
use Prim.Native.Nat.{ℕ, zero, suc, ◌+◌, ◌≤◌, ◌<◌}
use native.Mathlib.Omega.{arith}
use native.Mathlib.Numerals.{add-one}
use mathlib.Core.Path.{◌≡◌, refl, sym, ap, ◌∙◌}
use mathlib.Core.Logic.{inl, inr}
use mathlib.Core.Bool.{Bool, false, cond}
use mathlib.Core.List.{List, [], ◌∷◌, ◌++◌}
use lib.Dec.{eqb}
use lib.ListN.{length, get_or, set, length-append}
use borrow.Author.Tests.{eqb-false, eq-eqb, ne_eqb}
use Rattle.model.specs.Limits.{ends_most, flight_most}
use Rattle.model.specs.Below.{tab}
use Rattle.model.specs.State.{Packet}
use Rattle.model.proofs.Below.{look, tab_at}
use Rattle.arrays.specs.View.{packet_at}
use Rattle.arrays.specs.Flight.{packets}
use Rattle.arrays.proofs.Below.{length-tab}
use Rattle.packets.proofs.Packets.{tab_snoc, put_at}
use Rattle.queues.specs.Queue.{no_lane, standing}
use Rattle.queues.proofs.Standing.{flown_in, standing_snoc}

-- ---- those that stand
standing_twice : (ps : List Packet) → standing (standing ps) ≡ standing ps
unfolding standing
standing_twice [] = refl
standing_twice (p ∷ ps) = elim (look (eqb p.lane no_lane)) [
  | inl e ↦ rw e (standing_twice ps)
  | inr e ↦ rw (e, e) (ap (λ l. p ∷ l) (standing_twice ps))
]

-- where each packet is on a lane, all stand
pub standing_all : (p : ℕ → Packet) (k : ℕ) → ((i : ℕ) → i < k → (p i).lane < ends_most) → standing (tab p k) ≡ tab p k
unfolding standing tab
standing_all p zero h = refl
standing_all p (suc k) h =
    rw (ne_eqb (p 0).lane no_lane (λ e. omega (arith, h 0 (omega arith), e)))
    (ap (λ l. p 0 ∷ l) (standing_all (λ i. p (suc i)) k (λ i l. h (suc i) (omega arith))))

standing_grows : (p : ℕ → Packet) (i k : ℕ) → i ≤ k → length (standing (tab p i)) ≤ length (standing (tab p k))
unfolding standing tab
standing_grows p zero k h = omega arith
standing_grows p (suc i) zero h = absurd (omega arith)
standing_grows p (suc i) (suc k) h = elim (look (eqb (p 0).lane no_lane)) [
  | inl e ↦ rw e (standing_grows (λ j. p (suc j)) i k (omega arith))
  | inr e ↦ rw e (omega (arith, standing_grows (λ j. p (suc j)) i k (omega arith)))
]

-- where every lane is a lane or none, each that stands is on a lane
standing_named : (p : ℕ → Packet) (k : ℕ) → ((i : ℕ) → i < k → (p i).lane ≤ no_lane) → (d : Packet) (i : ℕ) → i < length (standing (tab p k))
    → (get_or (standing (tab p k)) i d).lane < ends_most
unfolding standing tab
standing_named p zero h d i l = absurd (omega arith)
standing_named p (suc k) h d zero l = elim (look (eqb (p 0).lane no_lane)) [
  | inl e ↦ rw e (standing_named (λ j. p (suc j)) k (λ j m. h (suc j) (omega arith)) d zero (rw e at l))
  | inr e ↦ rw e (omega (arith, h 0 (omega arith), eqb-false (p 0).lane no_lane e))
]
standing_named p (suc k) h d (suc i) l = elim (look (eqb (p 0).lane no_lane)) [
  | inl e ↦ rw e (standing_named (λ j. p (suc j)) k (λ j m. h (suc j) (omega arith)) d (suc i) (rw e at l))
  | inr e ↦ rw e (standing_named (λ j. p (suc j)) k (λ j m. h (suc j) (omega arith)) d i (omega (arith, rw e at l)))
]

-- ---- gathering
module _ (numbers lanes : List ℕ) (bits : List Bool) where
  -- of the first i slots, those packets that stand are gathered
  pub record Gathered (i w : ℕ) (number lane : List ℕ) (bit : List Bool) : Type 0 where
    pub gathered : packets number lane bit w ≡ flown_in numbers lanes bits i

  pub gathered_none : (number lane : List ℕ) (bit : List Bool) → Gathered 0 0 number lane bit
  unfolding tab standing
  gathered_none number lane bit = record { gathered = refl }

  next : (i : ℕ) → flown_in numbers lanes bits (i + 1)
      ≡ cond (eqb (get_or lanes i 0) no_lane) (flown_in numbers lanes bits i) (flown_in numbers lanes bits i ++ (packet_at numbers lanes bits i ∷ []))
  next i = rw (add-one, tab_snoc (packet_at numbers lanes bits) i) (standing_snoc (packets numbers lanes bits i) (packet_at numbers lanes bits i))

  module _ (i w : ℕ) (number lane : List ℕ) (bit : List Bool) (g : Gathered i w number lane bit) where
    -- so many are gathered as stand
    pub gathered_many : w ≡ length (flown_in numbers lanes bits i)
    gathered_many = sym (length-tab (packet_at number lane bit) w) ∙ ap length g.gathered

    pub gathered_gone : get_or lanes i 0 ≡ no_lane → Gathered (i + 1) w number lane bit
    gathered_gone e = record { gathered = g.gathered ∙ sym (next i ∙ rw (eq-eqb (get_or lanes i 0) no_lane e)) }

    module _ (e : get_or lanes i 0 ≡ no_lane → ⊥) where
      stays : flown_in numbers lanes bits (i + 1) ≡ flown_in numbers lanes bits i ++ (packet_at numbers lanes bits i ∷ [])
      stays = next i ∙ rw (ne_eqb (get_or lanes i 0) no_lane e)

      -- one more that stands is one of those that all the slots hold
      pub gathered_room : (used : ℕ) → i < used → length (flown_in numbers lanes bits used) ≤ flight_most → w < flight_most
      gathered_room used l few =
          omega (
            arith,
            few,
            gathered_many,
            ap length stays ∙ length-append (flown_in numbers lanes bits i) (packet_at numbers lanes bits i ∷ []),
            standing_grows (packet_at numbers lanes bits) (i + 1) used (omega arith),
          )

      pub gathered_stays : w < length number → w < length lane → w < length bit
          → Gathered (i + 1) (w + 1) (set number w (get_or numbers i 0)) (set lane w (get_or lanes i 0)) (set bit w (get_or bits i false))
      gathered_stays hn hl hb =
          record {
            gathered =
                put_at number lane bit w (get_or numbers i 0) (get_or lanes i 0) (get_or bits i false) hn hl hb
                ∙ ap (λ ps. ps ++ (packet_at numbers lanes bits i ∷ [])) g.gathered
                ∙ sym stays;
          }

  -- ---- gathered and spread again
  module _ (number lane : List ℕ) (bit : List Bool) (used r : ℕ) (all : packets number lane bit r ≡ flown_in numbers lanes bits used) where
    -- each of them is on a lane
    pub gathered_named : ((i : ℕ) → i < used → get_or lanes i 0 ≤ no_lane) → (i : ℕ) → i < r → get_or lane i 0 < ends_most
    gathered_named h i l =
        let d : Packet = packet_at number lane bit 0 in
        let many : r ≡ length (flown_in numbers lanes bits used) = sym (length-tab (packet_at number lane bit) r) ∙ ap length all in
        let on : (get_or (packets number lane bit r) i d).lane ≡ get_or lane i 0 = ap (λ p. p.lane) (tab_at d (packet_at number lane bit) r i l) in
        rw (← on, all) (standing_named (packet_at numbers lanes bits) used h d i (omega arith))

    -- spread over the first slots, they are those that stood
    pub spread_again : (numbers' lanes' : List ℕ) (bits' : List Bool) → packets numbers' lanes' bits' r ≡ packets number lane bit r
        → flown_in numbers' lanes' bits' r ≡ flown_in numbers lanes bits used
    spread_again numbers' lanes' bits' e = ap standing (e ∙ all) ∙ standing_twice (packets numbers lanes bits used)
