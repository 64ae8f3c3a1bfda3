-- Every opening's record is well formed. Assumes nothing.
use Prim.Native.Nat.{ℕ, ◌*◌, ◌<◌}
use native.Mathlib.Omega.{arith}
use mathlib.Core.Path.{◌≡◌, refl}
use mathlib.Core.Logic.{inl, inr}
use mathlib.Core.Bool.{true}
use mathlib.Core.List.{List, []}
use lib.Dec.{ltb, eqb}
use borrow.Author.Tests.{lt-ltb, eqb-true, ne_eqb}
use Rattle.model.specs.State.{end, link_of, side}
use Rattle.model.specs.Formed.{sized, joins, well_formed}
use Rattle.model.specs.Opening.{node_in, links_in, opened, open_from}
use Rattle.model.proofs.Below.{and_both}
use Rattle.model.proofs.Opening.{opens_as, opens, right_sizes, joined}
use Rattle.model.proofs.Formed.{Marked, Formed, if_formed}

module _ (nodes destination : ℕ) (list : List ℕ) where
  first_marks : Marked (opened nodes destination list)
  unfolding opened
  first_marks x h e =
      let b = and_both (ltb x (2 * links_in list)) (eqb (side x) 1) e in
      let one : side x ≡ 1 = eqb-true (side x) 1 b.1 in
      (rw b.0 (ne_eqb (side x) 0 (λ q. omega arith)), lt-ltb (link_of x) (links_in list) (omega arith))

  pub formed_opened : sized nodes destination (links_in list) ≡ true
      → ((l : ℕ) → l < links_in list → joins nodes (node_in list (end l 0)) (node_in list (end l 1)) ≡ true)
      → Formed 0 0 (opened nodes destination list)
  unfolding opened
  formed_opened sizes links =
      record {
        net = record { sizes = sizes; links = links };
        within = omega arith;
        room = omega arith;
        marked = first_marks;
        flies = tt;
        turned = λ v h. omega arith;
        fewer = omega arith;
        sum = omega arith;
      }

none_formed : Formed 0 0 (opened 1 0 [])
unfolding sized
none_formed = formed_opened 1 0 [] refl (λ l h. absurd (omega arith))

pub opening_formed : (nodes destination : ℕ) (list : List ℕ) → well_formed (open_from nodes destination list).state ≡ true
opening_formed nodes destination list = elim (opens nodes destination list) [
  | inl t ↦
      rw (opens_as nodes destination list t)
      (if_formed (opened nodes destination list)
      (formed_opened nodes destination list (right_sizes nodes destination list t.sizes) (joined nodes destination list t.links)))
  | inr e ↦ rw e (if_formed (opened 1 0 []) none_formed)
]
