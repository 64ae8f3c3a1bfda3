-- The packets that still stand: a lane's oldest, one packet more, one less, those off a link. Assumes nothing.
use Prim.Native.Nat.{ℕ, zero, suc, ◌+◌, ◌<◌}
use native.Mathlib.Omega.{arith}
use mathlib.Core.Path.{◌≡◌, refl, ap, ◌∙◌}
use mathlib.Core.Logic.{◌⊎◌, inl, inr}
use mathlib.Core.Bool.{Bool, false, cond}
use mathlib.Core.List.{List, [], ◌∷◌, ◌++◌}
use lib.Dec.{eqb}
use lib.ListN.{length, set}
use borrow.Author.Tests.{eqb-true, eqb-false, eq-eqb, ne_eqb}
use Rattle.model.specs.Limits.{links_most, ends_most}
use Rattle.model.specs.Below.{tab}
use Rattle.model.specs.State.{Packet, link_of}
use Rattle.model.specs.Lanes.{on_lane, less}
use Rattle.model.specs.Fail.{off}
use Rattle.model.proofs.Below.{look}
use Rattle.arrays.specs.Flight.{packets}
use Rattle.arrays.proofs.Below.{tab_same}
use Rattle.packets.proofs.Packets.{put_at}
use Rattle.queues.specs.Queue.{no_lane, standing}

-- one number is another, or it is not
pub same : (a b : ℕ) → (a ≡ b) ⊎ (a ≡ b → ⊥)
same a b = elim (look (eqb a b)) [ inl e ↦ inl (eqb-true a b e) | inr e ↦ inr (eqb-false a b e) ]

-- the packets in flight, of so many slots used
abbrev pub flown_in : List ℕ → List ℕ → List Bool → ℕ → List Packet
flown_in number lane bit used = standing (packets number lane bit used)

abbrev next : (ℕ → Packet) → ℕ → Packet
next p i = p (suc i)

-- ---- the packets of a lane
module _ (x : ℕ) where
  -- what is on the lane does not stand
  pub lane_none : (p : ℕ → Packet) (k : ℕ) → ((j : ℕ) → j < k → (p j).lane ≡ x → (p j).lane ≡ no_lane) → on_lane x (standing (tab p k)) ≡ []
  unfolding tab standing on_lane
  lane_none p zero h = refl
  lane_none p (suc k) h = elim (look (eqb (p 0).lane no_lane)) [
    | inl e ↦ rw e (lane_none (next p) k (λ j l. h (suc j) (omega arith)))
    | inr e ↦
        rw (e, ne_eqb (p 0).lane x (λ q. eqb-false (p 0).lane no_lane e (h 0 (omega arith) q)))
        (lane_none (next p) k (λ j l. h (suc j) (omega arith)))
  ]

  module _ (b : x < ends_most) where
    stands : (n : ℕ) → n ≡ x → eqb n no_lane ≡ false
    stands n e = ne_eqb n no_lane (λ q. omega arith)

    -- the first slot on the lane holds its oldest packet
    pub lane_oldest : (p : ℕ → Packet) (k f : ℕ) → f < k → ((j : ℕ) → j < f → (p j).lane ≡ x → ⊥) → (p f).lane ≡ x
        → (rest : List Packet) × (on_lane x (standing (tab p k)) ≡ p f ∷ rest)
    unfolding tab standing on_lane
    lane_oldest p zero f l h e = absurd (omega arith)
    lane_oldest p (suc k) zero l h e =
        (on_lane x (standing (tab (next p) k)), rw (stands (p 0).lane e, eq-eqb (p 0).lane x e))
    lane_oldest p (suc k) (suc f) l h e = elim (look (eqb (p 0).lane no_lane)) [
      | inl a ↦ rw a (lane_oldest (next p) k f (omega arith) (λ j m. h (suc j) (omega arith)) e)
      | inr a ↦
          rw (a, ne_eqb (p 0).lane x (h 0 (omega arith)))
          (lane_oldest (next p) k f (omega arith) (λ j m. h (suc j) (omega arith)) e)
    ]

    -- and where that slot is empty, the others stand as they did
    pub lane_less : (p q : ℕ → Packet) (k f : ℕ) → f < k → ((j : ℕ) → j < f → (p j).lane ≡ x → ⊥) → (p f).lane ≡ x → (q f).lane ≡ no_lane
        → ((j : ℕ) → (j ≡ f → ⊥) → q j ≡ p j) → standing (tab q k) ≡ less x (standing (tab p k))
    unfolding tab standing less
    lane_less p q zero f l h e g s = absurd (omega arith)
    lane_less p q (suc k) zero l h e g s =
        rw (eq-eqb (q 0).lane no_lane g, stands (p 0).lane e, eq-eqb (p 0).lane x e)
        (ap standing (tab_same (next q) (next p) k (λ j m. s (suc j) (λ z. omega (arith, z)))))
    lane_less p q (suc k) (suc f) l h e g s =
        let on : standing (tab (next q) k) ≡ less x (standing (tab (next p) k)) =
        lane_less (next p) (next q) k f (omega arith) (λ j m. h (suc j) (omega arith)) e g (λ j z. s (suc j) (λ w. z (omega (arith, w)))) in
        rw (s 0 (λ z. omega (arith, z))) (elim (look (eqb (p 0).lane no_lane)) [
          | inl a ↦ rw a on
          | inr a ↦ rw (a, ne_eqb (p 0).lane x (h 0 (omega arith))) (ap (λ ps. p 0 ∷ ps) on)
        ])

-- ---- one packet more
pub standing_snoc : (ps : List Packet) (p : Packet) → standing (ps ++ (p ∷ [])) ≡ cond (eqb p.lane no_lane) (standing ps) (standing ps ++ (p ∷ []))
unfolding standing
standing_snoc [] p = refl
standing_snoc (q ∷ ps) p = elim (look (eqb q.lane no_lane)) [
  | inl e ↦ rw e (standing_snoc ps p)
  | inr e ↦ rw (e, standing_snoc ps p) (elim (look (eqb p.lane no_lane)) [ inl a ↦ rw a | inr a ↦ rw a ])
]

-- ---- off a link
module _ (l : ℕ) where
  -- what is on the link does not stand
  pub off_none : (p : ℕ → Packet) (k : ℕ) → ((j : ℕ) → j < k → link_of (p j).lane ≡ l → (p j).lane ≡ no_lane) → off l (standing (tab p k)) ≡ standing (tab p k)
  unfolding tab standing off
  off_none p zero h = refl
  off_none p (suc k) h = elim (look (eqb (p 0).lane no_lane)) [
    | inl e ↦ rw e (off_none (next p) k (λ j m. h (suc j) (omega arith)))
    | inr e ↦
        rw (e, ne_eqb (link_of (p 0).lane) l (λ q. eqb-false (p 0).lane no_lane e (h 0 (omega arith) q)))
        (ap (λ ps. p 0 ∷ ps) (off_none (next p) k (λ j m. h (suc j) (omega arith))))
  ]

  module _ (b : l < links_most) where
    stands_on : (n : ℕ) → link_of n ≡ l → eqb n no_lane ≡ false
    stands_on n e = ne_eqb n no_lane (λ q. omega arith)

    -- the slots on the link become empty
    pub standing_off : (p q : ℕ → Packet) (k : ℕ) → ((j : ℕ) → j < k → link_of (p j).lane ≡ l → (q j).lane ≡ no_lane)
        → ((j : ℕ) → j < k → (link_of (p j).lane ≡ l → ⊥) → q j ≡ p j) → standing (tab q k) ≡ off l (standing (tab p k))
    unfolding tab standing off
    standing_off p q zero g s = refl
    standing_off p q (suc k) g s =
        let on : standing (tab (next q) k) ≡ off l (standing (tab (next p) k)) =
        standing_off (next p) (next q) k (λ j m. g (suc j) (omega arith)) (λ j m. s (suc j) (omega arith)) in
        elim (look (eqb (link_of (p 0).lane) l)) [
          | inl a ↦
              let e : link_of (p 0).lane ≡ l = eqb-true (link_of (p 0).lane) l a in
              rw (eq-eqb (q 0).lane no_lane (g 0 (omega arith) e), stands_on (p 0).lane e, a) on
          | inr a ↦
              rw (s 0 (omega arith) (eqb-false (link_of (p 0).lane) l a)) (elim (look (eqb (p 0).lane no_lane)) [
                | inl c ↦ rw c on
                | inr c ↦ rw (c, a) (ap (λ ps. p 0 ∷ ps) on)
              ])
        ]

    -- empty slots are on no link
    pub standing_less : (ps : List Packet) → length (off l (standing ps)) + length ps ≡ length (standing ps) + length (off l ps)
    unfolding standing off
    standing_less [] = refl
    standing_less (p ∷ ps) = elim (look (eqb p.lane no_lane)) [
      | inl a ↦
          let e : p.lane ≡ no_lane = eqb-true p.lane no_lane a in
          rw (a, ne_eqb (link_of p.lane) l (λ z. omega (arith, e, z))) (omega (arith, standing_less ps))
      | inr a ↦ elim (look (eqb (link_of p.lane) l)) [
        | inl z ↦ rw (a, z) (omega (arith, standing_less ps))
        | inr z ↦ rw (a, z) (omega (arith, standing_less ps))
      ]
    ]

-- ---- in the arrays
module _ (number lane : List ℕ) (bit : List Bool) where
  -- a packet put into slot k
  pub flown_more : (k n x : ℕ) (b : Bool) → k < length number → k < length lane → k < length bit → x < ends_most
      → flown_in (set number k n) (set lane k x) (set bit k b) (k + 1) ≡ flown_in number lane bit k ++ (record { number = n; lane = x; bit = b } ∷ [])
  flown_more k n x b hn hl hb l =
      ap standing (put_at number lane bit k n x b hn hl hb)
      ∙ standing_snoc (packets number lane bit k) (record { number = n; lane = x; bit = b })
      ∙ rw (stands x l x refl)
