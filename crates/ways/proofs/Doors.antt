-- The lowest link that leads out, and the way out. Assumes nothing.
use Prim.Native.Nat.{ℕ, ◌≤◌, ◌<◌}
use native.Mathlib.Omega.{arith}
use mathlib.Core.Path.{◌≡◌, ap, subst, sym}
use mathlib.Core.Logic.{inl, inr}
use mathlib.Core.Bool.{true, false}
use Rattle.std.specs.Prelude.{Some, None}
use Rattle.model.specs.State.{end, link_of, State, lanes}
use Rattle.model.specs.Below.{first}
use Rattle.model.specs.Departure.{out_at, out_link, out_end, has_out, door}
use Rattle.model.proofs.Below.{look, or_neither, or_either, any_here, first_none}
use Rattle.model.proofs.Ends.{which_end}
use Rattle.arrays.specs.View.{link_out_of, way_out_of}
use Rattle.arrays.proofs.Below.{any_never}
use Rattle.arrays.proofs.Searches.{first_hit}

module _ (s : State) (v l : ℕ) (q : l ≡ first (out_link s v) 0 s.net.links) where
  module _ (h : l < s.net.links) where
    pub leads : out_link s v l ≡ true
    leads = rw q (first_hit (out_link s v) s.net.links 0 (omega arith))

    some_out : has_out s v ≡ true
    unfolding has_out
    some_out = elim (or_either (out_at s v (end l 0)) (out_at s v (end l 1)) leads) [
      | inl e ↦ any_here (out_at s v) (lanes s) (end l 0) (omega arith) e
      | inr e ↦ any_here (out_at s v) (lanes s) (end l 1) (omega arith) e
    ]

    pub link_found : Some l ≡ link_out_of s v
    link_found = rw some_out (ap (λ m. Some m) q)

    pub way_found : {x : ℕ} → x ≡ out_end s v l → Some x ≡ way_out_of s v
    unfolding door
    way_found e = rw (some_out, e) (ap (λ m. Some (out_end s v m)) q)

  module _ (h : s.net.links ≤ l) where
    none_out : has_out s v ≡ false
    unfolding has_out
    none_out = any_never (out_at s v) (lanes s) (λ x k.
        let n = or_neither (out_at s v (end (link_of x) 0)) (out_at s v (end (link_of x) 1)) (first_none (out_link s v) s.net.links 0 (link_of x) (omega arith) (omega arith) (omega arith)) in
        elim (which_end x) [
          | inl e ↦ subst (λ y. out_at s v y ≡ false) (sym e) n.0
          | inr e ↦ subst (λ y. out_at s v y ≡ false) (sym e) n.1
        ])

    pub link_none : None ≡ link_out_of s v
    link_none = rw none_out

    pub way_none : None ≡ way_out_of s v
    way_none = rw none_out

-- from the link, if there is one, to the way
module _ (s : State) (v : ℕ) where
  pub link_first : {l : ℕ} → Some l ≡ link_out_of s v → l ≡ first (out_link s v) 0 s.net.links
  link_first q = elim (look (has_out s v)) [
    | inl e ↦ let d = rw e at q in cc
    | inr e ↦ let d = rw e at q in cc
  ]
