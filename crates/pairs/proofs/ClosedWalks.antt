-- The rounds of a search for a closed walk: by node, does a walk of k arrows set out? Assumes nothing.
use Prim.Native.Nat.{ℕ, ◌+◌, ◌*◌, ◌≤◌, ◌<◌}
use native.Mathlib.Omega.{arith}
use native.Mathlib.Nat.{add-zero}
use native.Mathlib.Numerals.{add-one}
use mathlib.Core.Path.{◌≡◌, refl, sym, ap, ◌∙◌}
use mathlib.Core.Bool.{Bool, true, false, ◌&&◌, ◌||◌}
use mathlib.Core.List.{List}
use lib.Dec.{eqb}
use lib.ListN.{get_or, take, set, replicate}
use lib.Seq.{get_or-take}
use borrow.Author.Tests.{eq-eqb, ne_eqb}
use Rattle.model.specs.Limits.{nodes_most}
use Rattle.model.specs.Below.{any, tab}
use Rattle.model.specs.State.{end}
use Rattle.model.specs.Opening.{node_in, links_in, sets_out, holds_closed_walk}
use Rattle.model.proofs.Below.{tab_at}
use Rattle.arrays.proofs.Below.{any_same, tab_replicate, tab_same, take_tab, set_tab}

module _ (list : List ℕ) (shorter : List Bool) where
  -- by node, after l links: some of them leads from it to where a shorter walk sets out
  abbrev pub leads : ℕ → ℕ → Bool
  leads l v = any (λ k. eqb (node_in list (end k 0)) v && get_or shorter (node_in list (end k 1)) false) l

  pub leads_none : replicate nodes_most false ≡ tab (leads 0) nodes_most
  unfolding any
  leads_none = tab_replicate false nodes_most

  or_else : (a b : Bool) → a ≡ (a || (false && b))
  or_else true b = refl
  or_else false b = refl

  module _ (l tail head : ℕ) (sets : List Bool) (t : tail ≡ node_in list (2 * l)) (h : head ≡ node_in list (2 * l + 1)) (b : tail < nodes_most)
      (e : sets ≡ tab (leads l) nodes_most) where
    abbrev last : ℕ → Bool
    last v = eqb tail v && get_or shorter head false

    next_is : (v : ℕ) → (leads l v || last v) ≡ leads (l + 1) v
    unfolding any
    next_is v = rw (add-one l, add-zero (2 * l), t, h)

    pub leads_more : set sets tail (get_or sets tail false || get_or shorter head false) ≡ tab (leads (l + 1)) nodes_most
    leads_more =
        rw (e, tab_at false (leads l) nodes_most tail b)
        (set_tab (leads l) (leads (l + 1)) nodes_most tail (leads l tail || get_or shorter head false) b
        (rw (← next_is tail, eq-eqb tail tail refl))
        (λ v n. rw (← next_is v, ne_eqb tail v (λ q. n (sym q))) (or_else (leads l v) (get_or shorter head false))))

module _ (nodes : ℕ) (list : List ℕ) (most : nodes ≤ nodes_most) where
  pub round_none : take nodes (replicate nodes_most true) ≡ sets_out nodes list 0
  unfolding sets_out
  round_none = rw (tab_replicate true nodes_most, take_tab (λ v. true) nodes nodes_most most)

  pub round_more : (named : (x : ℕ) → node_in list x < nodes) (k : ℕ) (sets next : List Bool) → take nodes sets ≡ sets_out nodes list k
      → next ≡ tab (leads list sets (links_in list)) nodes_most → take nodes next ≡ sets_out nodes list (k + 1)
  unfolding sets_out
  round_more named k sets next e f =
      rw (f, add-one k, ← e, take_tab (leads list sets (links_in list)) nodes nodes_most most)
      (tab_same (leads list sets (links_in list)) (leads list (take nodes sets) (links_in list)) nodes
      (λ v h.
      any_same (λ l. eqb (node_in list (end l 0)) v && get_or sets (node_in list (end l 1)) false)
      (λ l. eqb (node_in list (end l 0)) v && get_or (take nodes sets) (node_in list (end l 1)) false) (links_in list)
      (λ l i. rw (get_or-take nodes sets (node_in list (end l 1)) false (named (end l 1))))))

  pub round_end : (k : ℕ) (sets : List Bool) (r : Bool) → take nodes sets ≡ sets_out nodes list k → k ≤ nodes → nodes ≤ k
      → r ≡ any (λ v. get_or sets v false) nodes → r ≡ holds_closed_walk nodes list
  unfolding holds_closed_walk
  round_end k sets r e a b f =
      let q : k ≡ nodes = omega arith in
      f
      ∙ any_same (λ v. get_or sets v false) (λ v. get_or (sets_out nodes list nodes) v false) nodes
      (λ v h. sym (get_or-take nodes sets v false h) ∙ ap (λ l. get_or l v false) (e ∙ ap (sets_out nodes list) q))
