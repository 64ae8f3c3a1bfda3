-- How many of the first i packets are on link l; the packets by the part of the lanes that is in use. Assumes nothing.
use Prim.Native.Nat.{ℕ, ◌+◌, ◌≤◌}
use native.Mathlib.Omega.{arith}
use native.Mathlib.Numerals.{add-one}
use mathlib.Core.Path.{◌≡◌, refl}
use mathlib.Core.Bool.{Bool}
use mathlib.Core.List.{List, [], ◌∷◌}
use lib.ListN.{length, take, length-append}
use borrow.Author.Tests.{eq-eqb, ne_eqb}
use Rattle.model.specs.Below.{tab}
use Rattle.model.specs.State.{Packet, link_of}
use Rattle.model.specs.Fail.{off}
use Rattle.arrays.specs.View.{packet_at}
use Rattle.arrays.specs.Flight.{packets}
use Rattle.std.proofs.lemmas.List.{get_or-take, length-take}
use Rattle.arrays.proofs.Below.{tab_same}
use Rattle.packets.proofs.Packets.{tab_snoc, off_snoc}

module _ (l : ℕ) where
  abbrev pub Counted : (ℕ → Packet) → ℕ → ℕ → Type 0
  Counted p gone i = gone + length (off l (tab p i)) ≡ i

  pub counted_none : (p : ℕ → Packet) → Counted p 0 0
  unfolding tab off
  counted_none p = refl

  module _ (p : ℕ → Packet) (gone i : ℕ) (c : Counted p gone i) where
    pub counted_on : link_of (p i).lane ≡ l → Counted p (gone + 1) (i + 1)
    counted_on e = rw (add-one i, tab_snoc p i, off_snoc l (tab p i) (p i), eq-eqb (link_of (p i).lane) l e) (omega (arith, c))

    pub counted_off : (link_of (p i).lane ≡ l → ⊥) → Counted p gone (i + 1)
    counted_off n =
        rw (add-one i, tab_snoc p i, off_snoc l (tab p i) (p i), ne_eqb (link_of (p i).lane) l n, length-append (off l (tab p i)) (p i ∷ []))
        (omega (arith, c))

-- the first k lanes, as a part
pub counted_part : (number lane : List ℕ) (bit : List Bool) (k l gone : ℕ) → k ≤ length lane
    → gone + length (off l (packets number (take k lane) bit (length (take k lane)))) ≡ length (take k lane)
    → gone + length (off l (packets number lane bit k)) ≡ k
counted_part number lane bit k l gone h c =
    let long : length (take k lane) ≡ k = omega (arith, length-take k lane) in
    let same : packets number (take k lane) bit k ≡ packets number lane bit k =
    tab_same (packet_at number (take k lane) bit) (packet_at number lane bit) k (λ i b. rw (get_or-take k lane i 0 b)) in
    rw (long, same) at c
