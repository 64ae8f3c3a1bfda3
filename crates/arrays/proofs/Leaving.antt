-- What packets tell an event by its kind, what it leaves of them, and which pass on. Assumes nothing.
use Prim.Native.Nat.{ℕ, ◌+◌}
use native.Mathlib.Omega.{arith}
use mathlib.Core.Path.{◌≡◌, refl, sym, ap, ◌∙◌}
use mathlib.Core.Logic.{inl, inr}
use mathlib.Core.Bool.{Bool, false}
use mathlib.Core.List.{List, [], ◌∷◌, ◌++◌}
use lib.Dec.{eqb}
use lib.ListN.{length, get_or}
use borrow.Author.Tests.{eq-eqb, ne_eqb}
use Rattle.model.specs.declared.Handled.{Handled}
use Rattle.model.specs.declared.Handled.TheVariants as handled
use Rattle.model.specs.declared.Went.{Went}
use Rattle.model.specs.declared.Went.TheVariants as went
use Rattle.std.specs.Prelude.{None}
use Rattle.model.specs.State.{Packet}
use Rattle.model.specs.Lanes.{on_lane, less}
use Rattle.model.specs.Fail.{off}
use Rattle.model.proofs.Below.{look}
use Rattle.arrays.specs.declared.Told.{Told}
use Rattle.arrays.specs.Told.{oldest_in, tells, left, passed, flies}

-- ---- what they tell: of no packet, and so many on the link
abbrev pub absent : ℕ → Told
absent gone = record { oldest = None; gone = gone }

module _ (flight : List Packet) (kind a : ℕ) where
  pub tells_send : kind ≡ 1 → absent 0 ≡ tells flight kind a
  unfolding tells
  tells_send e = rw e

  pub tells_link : (gone : ℕ) → kind ≡ 4 → gone + length (off a flight) ≡ length flight → absent gone ≡ tells flight kind a
  unfolding tells
  tells_link gone e h = rw e (ap absent (omega arith))

  module _ (n : kind ≡ 1 → ⊥) (m : kind ≡ 4 → ⊥) where
    pub tells_lane : {ps : List Packet} → on_lane a flight ≡ ps → oldest_in ps ≡ tells flight kind a
    unfolding tells
    tells_lane e = rw (ne_eqb kind 1 n, ne_eqb kind 4 m, e)

    -- told of none, the lane has none
    tells_empty : (tells flight kind a).oldest ≡ None → on_lane a flight ≡ []
    unfolding tells
    tells_empty h = go (on_lane a flight) (rw (ne_eqb kind 1 n, ne_eqb kind 4 m) at h)
      where
        go : (ps : List Packet) → (oldest_in ps).oldest ≡ None → ps ≡ []
        go [] e = refl
        go (p ∷ ps) e = cc

-- ---- what an event leaves of them
-- taking the oldest off a lane that has none changes nothing
less_none : (x : ℕ) (ps : List Packet) → on_lane x ps ≡ [] → less x ps ≡ ps
unfolding on_lane less
less_none x [] e = refl
less_none x (p ∷ ps) e = elim (look (eqb p.lane x)) [
  | inl d ↦ absurd (omega (arith, ap length (rw d at e)))
  | inr d ↦ rw d (ap (λ l. p ∷ l) (less_none x ps (rw d at e)))
]

module _ (kind a : ℕ) (flight : List Packet) where
  pub left_send : kind ≡ 1 → flight ≡ left kind a 0 flight
  left_send e = rw (eq-eqb kind 1 e)

  pub left_refused : (answer : ℕ) → (answer ≡ 0 → ⊥) → flight ≡ left kind a answer flight
  left_refused answer n = rw (ne_eqb answer 0 n) (elim (look (eqb kind 1)) [
    | inl s ↦ rw s
    | inr s ↦ rw s (elim (look (eqb kind 4)) [ inl f ↦ rw f | inr f ↦ rw f ])
  ])

  module _ (n : kind ≡ 1 → ⊥) where
    pub left_off : kind ≡ 4 → off a flight ≡ left kind a 0 flight
    left_off e = rw (ne_eqb kind 1 n, eq-eqb kind 4 e)

    module _ (m : kind ≡ 4 → ⊥) where
      pub left_less : less a flight ≡ left kind a 0 flight
      left_less = rw (ne_eqb kind 1 n, ne_eqb kind 4 m)

      pub left_none : (told : Told) → told ≡ tells flight kind a → told.oldest ≡ None → flight ≡ left kind a 0 flight
      left_none told e h = sym (less_none a flight (tells_empty flight kind a n m (ap (λ (t : Told). t.oldest) (sym e) ∙ h))) ∙ left_less

-- ---- a packet passes on where it left by a lane, and else none does
module _ (local : List Bool) (flight : List Packet) where
  pub passed_lane : (n x : ℕ) (h : Handled) (w : Went) → h ≡ handled.Packet n → w ≡ went.Lane x
      → flight ++ (record { number = n; lane = x; bit = get_or local x false } ∷ []) ≡ passed local flight h w
  passed_lane n x h w e f = rw (e, f)

  pub passed_none : (h : Handled) (w : Went) → ((x : ℕ) → w ≡ went.Lane x → ⊥) → flight ≡ passed local flight h w
  passed_none handled.Nothing w k = refl
  passed_none (handled.Packet n) (went.Lane x) k = absurd (k x refl)
  passed_none (handled.Packet n) went.Delivered k = refl
  passed_none (handled.Packet n) went.Lost k = refl
  passed_none (handled.Packet n) went.Stranded k = refl
  passed_none (handled.Packet n) went.Nowhere k = refl

  pub passed_nothing : (h : Handled) (w : Went) → h ≡ handled.Nothing → flight ≡ passed local flight h w
  passed_nothing h w e = rw e

-- so the packets that stayed pass on
pub flies_on : (kind a : ℕ) (local : List Bool) (flight : List Packet) (answer : ℕ) (h : Handled) (w : Went) (stays : List Packet)
    → stays ≡ left kind a answer flight → passed local stays h w ≡ flies kind a local flight answer h w
unfolding flies
flies_on kind a local flight answer h w stays e = rw e
