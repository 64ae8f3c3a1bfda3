-- The packets in flight as a list: put in, taken out, kept. Assumes nothing.
use Prim.Native.Nat.{ℕ, zero, suc, ◌+◌, ◌≤◌, ◌<◌}
use native.Mathlib.Omega.{arith}
use native.Mathlib.Numerals.{add-one}
use mathlib.Core.Path.{◌≡◌, refl, sym, ap, ap₂, ◌∙◌}
use mathlib.Core.Logic.{inl, inr}
use mathlib.Core.Bool.{Bool, true, false, cond}
use mathlib.Core.List.{List, [], ◌∷◌, ◌++◌}
use lib.Dec.{ltb, eqb, leb-suc-suc}
use lib.ListN.{length, get_or, set, length-set}
use lib.Seq.{get_or-set_same, get_or-set_other}
use borrow.Author.Tests.{lt-ltb, le-ltb, eq-eqb, ne_eqb}
use Rattle.model.specs.Below.{first, tab}
use Rattle.model.specs.State.{Packet, link_of}
use Rattle.model.specs.Lanes.{on_lane, less}
use Rattle.model.specs.Fail.{off}
use Rattle.model.proofs.Below.{look}
use Rattle.arrays.proofs.Searches.{first_least}
use Rattle.arrays.specs.View.{packet_at}
use Rattle.arrays.specs.Flight.{packets}
use Rattle.arrays.proofs.Below.{tab_same}
use Rattle.packets.specs.Moves.{Removed}

-- ---- lists of a function's values
module _ {A : Type 0} where
  pub tab_snoc : (f : ℕ → A) (k : ℕ) → tab f (suc k) ≡ tab f k ++ (f k ∷ [])
  unfolding tab
  tab_snoc f zero = refl
  tab_snoc f (suc k) = ap (λ l. f 0 ∷ l) (tab_snoc (λ i. f (suc i)) k)

first_shift : (p : ℕ → Bool) (i k : ℕ) → first p (suc i) k ≡ suc (first (λ j. p (suc j)) i k)
unfolding first
first_shift p i zero = refl
first_shift p i (suc k) = elim (look (p (suc i))) [
  | inl e ↦ rw e
  | inr e ↦ rw e (first_shift p (suc i) k)
]

first_here : (p : ℕ → Bool) (k : ℕ) → p 0 ≡ true → first p 0 (suc k) ≡ 0
unfolding first
first_here p k e = rw e

first_after : (p : ℕ → Bool) (k : ℕ) → p 0 ≡ false → first p 0 (suc k) ≡ suc (first (λ j. p (suc j)) 0 k)
unfolding first
first_after p k e = rw e (first_shift p 0 k)

-- ---- the packets of a lane
module _ (x : ℕ) where
  abbrev on : (ℕ → Packet) → ℕ → Bool
  on f i = eqb (f i).lane x

  pub lane_bare : (f : ℕ → Packet) (k : ℕ) → first (on f) 0 k ≡ k → on_lane x (tab f k) ≡ []
  unfolding tab on_lane
  lane_bare f zero e = refl
  lane_bare f (suc k) e = elim (look (on f 0)) [
    | inl a ↦ absurd (omega (arith, first_here (on f) k a))
    | inr a ↦ rw a (lane_bare (λ i. f (suc i)) k (omega (arith, first_after (on f) k a)))
  ]

  -- the first packet found is the oldest
  pub lane_oldest : (f : ℕ → Packet) (k : ℕ) → first (on f) 0 k < k → (rest : List Packet) × (on_lane x (tab f k) ≡ f (first (on f) 0 k) ∷ rest)
  unfolding tab on_lane
  lane_oldest f zero h = absurd (omega arith)
  lane_oldest f (suc k) h = elim (look (on f 0)) [
    | inl a ↦ rw (a, first_here (on f) k a) (on_lane x (tab (λ i. f (suc i)) k), refl)
    | inr a ↦ rw (a, first_after (on f) k a) (lane_oldest (λ i. f (suc i)) k (omega (arith, first_after (on f) k a)))
  ]

  -- without the oldest, those before it stay and those after it move up
  abbrev up : (ℕ → Packet) → ℕ → ℕ → Packet
  up f i j = cond (ltb j i) (f j) (f (suc j))

  pub lane_less : (f : ℕ → Packet) (k : ℕ) → first (on f) 0 (suc k) < suc k → less x (tab f (suc k)) ≡ tab (up f (first (on f) 0 (suc k))) k
  unfolding tab less
  lane_less f zero h = elim (look (on f 0)) [
    | inl a ↦ rw a
    | inr a ↦ absurd (omega (arith, first_after (on f) 0 a, first_least (λ j. on f (suc j)) 0 0))
  ]
  lane_less f (suc k) h = elim (look (on f 0)) [
    | inl a ↦
        rw (a, first_here (on f) (suc k) a)
        (ap (λ l. f 1 ∷ l) (tab_same (λ j. f (suc (suc j))) (λ j. up f 0 (suc j)) k (λ j l. rw (le-ltb (suc j) 0 (omega arith)))))
    | inr a ↦
        let i = first (λ j. on f (suc j)) 0 (suc k) in
        rw (a, first_after (on f) (suc k) a, lt-ltb 0 (suc i) (omega arith))
        (ap (λ l. f 0 ∷ l)
        (lane_less (λ j. f (suc j)) k (omega (arith, first_after (on f) (suc k) a))
        ∙ tab_same (up (λ j. f (suc j)) i) (λ j. up f (suc i) (suc j)) k (λ j l. rw (leb-suc-suc (suc j) i))))
  ]

-- ---- in the arrays
module _ (number lane : List ℕ) (bit : List Bool) where
  abbrev at : ℕ → Packet
  at = packet_at number lane bit

  -- a packet put into slot k
  pub put_at : (k n x : ℕ) (b : Bool) → k < length number → k < length lane → k < length bit
      → packets (set number k n) (set lane k x) (set bit k b) (k + 1) ≡ packets number lane bit k ++ (record { number = n; lane = x; bit = b } ∷ [])
  put_at k n x b hn hl hb =
      rw (
        add-one,
        tab_snoc (packet_at (set number k n) (set lane k x) (set bit k b)) k,
        get_or-set_same number k n 0 hn,
        get_or-set_same lane k x 0 hl,
        get_or-set_same bit k b false hb,
      )
      (ap (λ l. l ++ (record { number = n; lane = x; bit = b } ∷ [])) (tab_same (packet_at (set number k n) (set lane k x) (set bit k b)) at k other))
    where
      other : (i : ℕ) → i < k → packet_at (set number k n) (set lane k x) (set bit k b) i ≡ at i
      other i l =
          let ne : i ≡ k → ⊥ = λ e. omega arith in
          rw (get_or-set_other number k i n 0 ne, get_or-set_other lane k i x 0 ne, get_or-set_other bit k i b false ne)

  -- the oldest packet of a lane taken out
  pub taken_out : (number' lane' : List ℕ) (bit' : List Bool) (x i last : ℕ) → i ≡ first (λ j. eqb (get_or lane j 0) x) 0 (suc last) → i < suc last
      → Removed 0 i last number number' → Removed 0 i last lane lane' → Removed false i last bit bit'
      → packets number' lane' bit' last ≡ less x (packets number lane bit (suc last))
  taken_out number' lane' bit' x i last e h rn rl rb =
      sym (lane_less x at last (omega (arith, e)) ∙ rw (← e) (tab_same (up x at i) (packet_at number' lane' bit') last same))
    where
      same : (j : ℕ) → j < last → up x at i j ≡ packet_at number' lane' bit' j
      same j l = rw (rn.entry j l, rl.entry j l, rb.entry j l) (elim (look (ltb j i)) [ inl a ↦ rw a | inr a ↦ rw a ])

-- ---- keeping those off a link
pub off_snoc : (l : ℕ) (ps : List Packet) (p : Packet) → off l (ps ++ (p ∷ [])) ≡ cond (eqb (link_of p.lane) l) (off l ps) (off l ps ++ (p ∷ []))
unfolding off
off_snoc l [] p = refl
off_snoc l (q ∷ ps) p = elim (look (eqb (link_of q.lane) l)) [
  | inl e ↦ rw e (off_snoc l ps p)
  | inr e ↦ rw (e, off_snoc l ps p) (elim (look (eqb (link_of p.lane) l)) [ inl a ↦ rw a | inr a ↦ rw a ])
]

module _ (number lane : List ℕ) (bit : List Bool) (l : ℕ) where
  -- of the first i packets, those off the link stand in the first w slots; from there on nothing has changed
  pub record Kept (i w : ℕ) (numbers lanes : List ℕ) (bits : List Bool) : Type 0 where
    pub kept : packets numbers lanes bits w ≡ off l (packets number lane bit i)
    pub number_ahead : (m : ℕ) → w ≤ m → get_or numbers m 0 ≡ get_or number m 0
    pub lane_ahead : (m : ℕ) → w ≤ m → get_or lanes m 0 ≡ get_or lane m 0
    pub bit_ahead : (m : ℕ) → w ≤ m → get_or bits m false ≡ get_or bit m false
    pub number_long : length numbers ≡ length number
    pub lane_long : length lanes ≡ length lane
    pub bit_long : length bits ≡ length bit

  pub kept_none : Kept 0 0 number lane bit
  unfolding tab off
  kept_none = record { kept = refl; number_ahead = λ m h. refl; lane_ahead = λ m h. refl; bit_ahead = λ m h. refl; number_long = refl; lane_long = refl; bit_long = refl }

  module _ (i w : ℕ) (numbers lanes : List ℕ) (bits : List Bool) (k : Kept i w numbers lanes bits) (h : w ≤ i) where
    here : packet_at numbers lanes bits i ≡ packet_at number lane bit i
    here = rw (k.number_ahead i h, k.lane_ahead i h, k.bit_ahead i h)

    next : off l (packets number lane bit (i + 1))
        ≡ cond (eqb (link_of (get_or lane i 0)) l) (off l (packets number lane bit i)) (off l (packets number lane bit i) ++ (packet_at number lane bit i ∷ []))
    next = rw (add-one, tab_snoc (packet_at number lane bit) i) (off_snoc l (packets number lane bit i) (packet_at number lane bit i))

    lane_here : link_of (get_or lanes i 0) ≡ link_of (get_or lane i 0)
    lane_here = rw (k.lane_ahead i h)

    pub kept_gone : link_of (get_or lanes i 0) ≡ l → Kept (i + 1) w numbers lanes bits
    kept_gone e =
        record {
          kept = k.kept ∙ sym (next ∙ rw (eq-eqb (link_of (get_or lane i 0)) l (sym lane_here ∙ e)));
          number_ahead = k.number_ahead;
          lane_ahead = k.lane_ahead;
          bit_ahead = k.bit_ahead;
          number_long = k.number_long;
          lane_long = k.lane_long;
          bit_long = k.bit_long;
        }

    pub kept_stays : (link_of (get_or lanes i 0) ≡ l → ⊥) → w < length numbers → w < length lanes → w < length bits
        → Kept (i + 1) (w + 1) (set numbers w (get_or numbers i 0)) (set lanes w (get_or lanes i 0)) (set bits w (get_or bits i false))
    kept_stays e hn hl hb =
        record {
          kept =
              put_at numbers lanes bits w (get_or numbers i 0) (get_or lanes i 0) (get_or bits i false) hn hl hb
              ∙ ap₂ (λ ps p. ps ++ (p ∷ [])) k.kept here
              ∙ sym (next ∙ rw (ne_eqb (link_of (get_or lane i 0)) l (λ q. e (lane_here ∙ q))));
          number_ahead = λ m q. get_or-set_other numbers w m (get_or numbers i 0) 0 (λ z. omega arith) ∙ k.number_ahead m (omega arith);
          lane_ahead = λ m q. get_or-set_other lanes w m (get_or lanes i 0) 0 (λ z. omega arith) ∙ k.lane_ahead m (omega arith);
          bit_ahead = λ m q. get_or-set_other bits w m (get_or bits i false) false (λ z. omega arith) ∙ k.bit_ahead m (omega arith);
          number_long = length-set numbers w (get_or numbers i 0) ∙ k.number_long;
          lane_long = length-set lanes w (get_or lanes i 0) ∙ k.lane_long;
          bit_long = length-set bits w (get_or bits i false) ∙ k.bit_long;
        }
