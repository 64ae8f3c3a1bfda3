-- A departure update leaves a linked node a live Out end, and the way out finds one. Assumes nothing.
use Prim.Native.Nat.{ℕ, ◌<◌}
use native.Mathlib.Omega.{arith}
use mathlib.Core.Path.{◌≡◌, subst}
use mathlib.Core.Logic.{◌⊎◌, inl, inr}
use mathlib.Core.Bool.{Bool, true, false, ◌&&◌, ◌||◌}
use Rattle.model.specs.Below.{first}
use Rattle.model.specs.State.{end, link_of, State, lanes, live}
use Rattle.model.specs.Departure.{live_at, out_at, mark_at, has_live, has_out, has_mark, reverses, turn, update, out_link, out_end, door}
use lib.Dec.{eqb}
use Rattle.model.proofs.Below.{look, and_both, or_right, any_here, any_found, first_found}
use Rattle.model.proofs.Ends.{which_end}

both : (a b c : Bool) → a ≡ true → b ≡ true → (a && (b || c)) ≡ true
both a b c p q = rw (p, q)

module _ (s : State) (v : ℕ) where
  end_out : (l : ℕ) → l < s.net.links → out_link s v l ≡ true → (out_end s v l < lanes s) × (out_at s v (out_end s v l) ≡ true)
  end_out l h e = elim (look (out_at s v (end l 0))) [
    | inl a ↦ rw a (omega arith, a)
    | inr a ↦ rw a (omega arith, rw a at e)
  ]

  out_link_lem : (x : ℕ) → out_at s v x ≡ true → out_link s v (link_of x) ≡ true
  out_link_lem x e = elim (which_end x) [
    | inl q ↦ rw (subst (λ y. out_at s v y ≡ true) q e)
    | inr q ↦ or_right (out_at s v (end (link_of x) 0)) (subst (λ y. out_at s v y ≡ true) q e)
  ]

  -- where v has a live Out end, the way out is one
  pub door_out : has_out s v ≡ true → (door s v < lanes s) × (out_at s v (door s v) ≡ true)
  unfolding has_out door
  door_out e =
      let f = any_found (out_at s v) (lanes s) e in
      let h : link_of f.0 < s.net.links = omega (arith, f.1) in
      let g = first_found (out_link s v) s.net.links 0 (link_of f.0) (omega arith) (omega arith) (out_link_lem f.0 f.2) in
      end_out (first (out_link s v) 0 s.net.links) (omega (arith, g.0)) g.1

  -- a turn of v reverses no other node's end
  pub reverse_here : (x : ℕ) → eqb (s.net.node x) v ≡ false → reverses s v x ≡ false
  reverse_here x e = elim (look (has_mark s v)) [ inl m ↦ rw (m, e) | inr m ↦ rw (m, e) ]

  -- an end that a turn reverses is Out after it
  turned_out : (x : ℕ) → x < lanes s → live_at s v x ≡ true → reverses s v x ≡ true → has_out (turn s v) v ≡ true
  unfolding has_out turn
  turned_out x h l r = any_here (out_at (turn s v) v) (lanes s) x h (both (live_at s v x) (reverses s v x) (s.ends.out x) l r)

  -- a turn reverses a live end, where marks are on live ends
  turn_out : ((x : ℕ) → x < lanes s → s.ends.mark x ≡ true → live s x ≡ true) → has_live s v ≡ true
      → (has_mark s v ≡ true) ⊎ (has_mark s v ≡ false) → has_out (turn s v) v ≡ true
  unfolding has_mark has_live
  turn_out marked e (inl m) =
      let f = any_found (mark_at s v) (lanes s) m in
      let b = and_both (eqb (s.net.node f.0) v) (s.ends.mark f.0) f.2 in
      turned_out f.0 f.1 (rw b.0 (marked f.0 f.1 b.1)) (rw (m, b.0) b.1)
  turn_out marked e (inr m) =
      let f = any_found (live_at s v) (lanes s) e in
      turned_out f.0 f.1 f.2 (rw m f.2)

  pub update_out : ((x : ℕ) → x < lanes s → s.ends.mark x ≡ true → live s x ≡ true) → has_live s v ≡ true → has_out (update s v) v ≡ true
  unfolding update
  update_out marked e = elim (look (has_out s v)) [
    | inl o ↦ rw o o
    | inr o ↦ rw o (turn_out marked e (look (has_mark s v)))
  ]

  pub update_counts : (update s v).counts ≡ s.counts
  unfolding update turn
  update_counts = elim (look (has_out s v)) [ inl e ↦ rw e | inr e ↦ rw e ]

  pub update_flight : (update s v).flight ≡ s.flight
  unfolding update turn
  update_flight = elim (look (has_out s v)) [ inl e ↦ rw e | inr e ↦ rw e ]

  pub update_net : (update s v).net ≡ s.net
  unfolding update turn
  update_net = elim (look (has_out s v)) [ inl e ↦ rw e | inr e ↦ rw e ]
