-- The slots past those in use stay as they were. Assumes nothing.
use Prim.Native.Nat.{ℕ, ◌+◌}
use native.Mathlib.Omega.{arith}
use mathlib.Core.Path.{refl, ◌∙◌}
use mathlib.Core.Bool.{Bool, false}
use mathlib.Core.List.{List}
use lib.ListN.{set}
use lib.Seq.{get_or-set_other}
use Rattle.packets.specs.Moves.{Stay}

pub stay_all : (k : ℕ) (number lane : List ℕ) (bit : List Bool) → Stay k number lane bit number lane bit
stay_all k number lane bit = record { numbers = λ j h. refl; lanes = λ j h. refl; bits = λ j h. refl }

-- the slot before them is stored to
pub stay_more : (k : ℕ) {number lane : List ℕ} {bit : List Bool} (number' lane' : List ℕ) (bit' : List Bool) (n x : ℕ) (b : Bool)
    → Stay k number lane bit number' lane' bit' → Stay (k + 1) number lane bit (set number' k n) (set lane' k x) (set bit' k b)
stay_more k number' lane' bit' n x b s =
    record {
      numbers = λ j h. get_or-set_other number' k j n 0 (λ e. omega arith) ∙ s.numbers j (omega arith);
      lanes = λ j h. get_or-set_other lane' k j x 0 (λ e. omega arith) ∙ s.lanes j (omega arith);
      bits = λ j h. get_or-set_other bit' k j b false (λ e. omega arith) ∙ s.bits j (omega arith);
    }
