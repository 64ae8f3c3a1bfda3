-- The packets of a lane after each change of the packets in flight, and what each packet keeps. Assumes nothing.
use Prim.Native.Nat.{ℕ, ◌+◌, ◌≤◌}
use native.Mathlib.Omega.{arith}
use mathlib.Core.Path.{◌≡◌, refl, sym, ◌∙◌, ap, subst}
use mathlib.Core.Logic.{inl, inr}
use mathlib.Core.Bool.{true, false}
use mathlib.Core.List.{List, [], ◌∷◌, ◌++◌, tail}
use lib.Dec.{eqb}
use lib.ListN.{length}
use borrow.Author.Tests.{eqb-true, eqb-false, ne_eqb}
use Rattle.model.specs.State.{link_of, Packet}
use Rattle.model.specs.Lanes.{on_lane, less}
use Rattle.model.specs.Fail.{off}
use Rattle.model.proofs.Below.{look}

module _ (x : ℕ) where
  pub lane_push : (ps : List Packet) (p : Packet) → eqb p.lane x ≡ true → on_lane x (ps ++ (p ∷ [])) ≡ on_lane x ps ++ (p ∷ [])
  unfolding on_lane
  lane_push [] p e = rw e
  lane_push (q ∷ ps) p e = elim (look (eqb q.lane x)) [
    | inl d ↦ rw d (ap (λ l. q ∷ l) (lane_push ps p e))
    | inr d ↦ rw d (lane_push ps p e)
  ]

  pub lane_push_other : (ps : List Packet) (p : Packet) → eqb p.lane x ≡ false → on_lane x (ps ++ (p ∷ [])) ≡ on_lane x ps
  unfolding on_lane
  lane_push_other [] p e = rw e
  lane_push_other (q ∷ ps) p e = elim (look (eqb q.lane x)) [
    | inl d ↦ rw d (ap (λ l. q ∷ l) (lane_push_other ps p e))
    | inr d ↦ rw d (lane_push_other ps p e)
  ]

  pub lane_less : (ps : List Packet) → on_lane x (less x ps) ≡ tail (on_lane x ps)
  unfolding on_lane less
  lane_less [] = refl
  lane_less (q ∷ ps) = elim (look (eqb q.lane x)) [ inl d ↦ rw d | inr d ↦ rw (d, d) (lane_less ps) ]

  pub lane_less_other : (z : ℕ) (ps : List Packet) → eqb x z ≡ false → on_lane x (less z ps) ≡ on_lane x ps
  unfolding on_lane less
  lane_less_other z [] e = refl
  lane_less_other z (q ∷ ps) e = elim (look (eqb q.lane z)) [
    | inl d ↦
        let n : eqb q.lane x ≡ false = ne_eqb q.lane x (λ k. eqb-false x z e (sym k ∙ eqb-true q.lane z d)) in
        rw (d, n)
    | inr d ↦ elim (look (eqb q.lane x)) [
      | inl n ↦ rw (d, n) (ap (λ l. q ∷ l) (lane_less_other z ps e))
      | inr n ↦ rw (d, n) (lane_less_other z ps e)
    ]
  ]

  pub lane_off : (l : ℕ) (ps : List Packet) → eqb (link_of x) l ≡ false → on_lane x (off l ps) ≡ on_lane x ps
  unfolding on_lane off
  lane_off l [] e = refl
  lane_off l (q ∷ ps) e = elim (look (eqb (link_of q.lane) l)) [
    | inl d ↦
        let n : eqb q.lane x ≡ false =
        ne_eqb q.lane x (λ k. eqb-false (link_of x) l e (ap link_of (sym k) ∙ eqb-true (link_of q.lane) l d)) in
        rw (d, n) (lane_off l ps e)
    | inr d ↦ elim (look (eqb q.lane x)) [
      | inl n ↦ rw (d, n) (ap (λ k. q ∷ k) (lane_off l ps e))
      | inr n ↦ rw (d, n) (lane_off l ps e)
    ]
  ]

  -- taking the oldest off a lane that has one leaves one packet less
  pub less_length : (ps : List Packet) {p : Packet} {qs : List Packet} → on_lane x ps ≡ p ∷ qs → length ps ≡ length (less x ps) + 1
  unfolding on_lane less
  less_length [] e = let z : ◌≡◌ {A = ℕ} 0 1 = cc in absurd (omega arith)
  less_length (q ∷ ps) e = elim (look (eqb q.lane x)) [
    | inl d ↦ rw d (omega arith)
    | inr d ↦ rw d (omega (arith, less_length ps (rw d at e)))
  ]

pub off_length : (l : ℕ) (ps : List Packet) → length (off l ps) ≤ length ps
unfolding off
off_length l [] = omega arith
off_length l (q ∷ ps) = elim (look (eqb (link_of q.lane) l)) [
  | inl d ↦ rw d (omega (arith, off_length l ps))
  | inr d ↦ rw d (omega (arith, off_length l ps))
]

-- every packet of a list has a property
abbrev pub Each : (Packet → Type 0) → List Packet → Type 0
Each P [] = Unit {0}
Each P (p ∷ ps) = P p × Each P ps

module _ (P : Packet → Type 0) where
  pub each_push : (ps : List Packet) (p : Packet) → P p → Each P ps → Each P (ps ++ (p ∷ []))
  each_push [] p h f = (h, tt)
  each_push (q ∷ ps) p h f = (f.0, each_push ps p h f.1)

  pub each_less : (x : ℕ) (ps : List Packet) → Each P ps → Each P (less x ps)
  unfolding less
  each_less x [] f = tt
  each_less x (q ∷ ps) f = elim (look (eqb q.lane x)) [ inl e ↦ rw e f.1 | inr e ↦ rw e (f.0, each_less x ps f.1) ]

  pub each_oldest : (x : ℕ) (ps : List Packet) {p : Packet} {qs : List Packet} → on_lane x ps ≡ p ∷ qs → Each P ps → P p
  unfolding on_lane
  each_oldest x [] e f = let z : ◌≡◌ {A = ℕ} 0 1 = cc in absurd (omega arith)
  each_oldest x (q ∷ ps) {p} e f = elim (look (eqb q.lane x)) [
    | inl d ↦ let same : q ≡ p = cc (rw d at e) in subst P same f.0
    | inr d ↦ each_oldest x ps (rw d at e) f.1
  ]

  -- the packets off a link, where the property changes for these alone
  pub each_off : (Q : Packet → Type 0) (l : ℕ) → ((p : Packet) → eqb (link_of p.lane) l ≡ false → P p → Q p)
      → (ps : List Packet) → Each P ps → Each Q (off l ps)
  unfolding off
  each_off Q l h [] f = tt
  each_off Q l h (q ∷ ps) f = elim (look (eqb (link_of q.lane) l)) [
    | inl e ↦ rw e (each_off Q l h ps f.1)
    | inr e ↦ rw e (h q e f.0, each_off Q l h ps f.1)
  ]

  pub each_map : (Q : Packet → Type 0) → ((p : Packet) → P p → Q p) → (ps : List Packet) → Each P ps → Each Q ps
  each_map Q h [] f = tt
  each_map Q h (q ∷ ps) f = (h q f.0, each_map Q h ps f.1)
