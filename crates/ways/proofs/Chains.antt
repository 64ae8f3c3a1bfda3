-- The chains of the nodes' links, threaded from the last link to the first, and the first link along one that leads out. Assumes nothing.
use Prim.Native.Nat.{ℕ, zero, suc, ◌+◌, ◌-◌, ◌*◌, ◌/◌, ◌≤◌, ◌<◌}
use native.Mathlib.Omega.{arith}
use mathlib.Core.Path.{◌≡◌, sym, ap, ◌∙◌}
use mathlib.Core.Logic.{◌⊎◌, inl, inr}
use mathlib.Core.Bool.{Bool, true, false, ◌&&◌, or-false}
use mathlib.Core.List.{List}
use lib.Dec.{eqb}
use lib.ListN.{length, get_or, set, length-set}
use lib.Seq.{get_or-set_same, get_or-set_other}
use borrow.Author.Tests.{eqb-true, eqb-false, ne_eqb}
use Rattle.model.specs.Limits.{nodes_most, links_most, ends_most}
use Rattle.model.specs.State.{State}
use Rattle.model.specs.Below.{first}
use Rattle.model.specs.Departure.{out_link, out_end}
use Rattle.model.proofs.Below.{look, or_neither, or_right}
use Rattle.arrays.specs.declared.record.Plan.{Plan}
use Rattle.arrays.specs.declared.record.Arrows.{Arrows}
use Rattle.arrays.specs.View.{ends_seen, link_at, end_at, link_from}
use Rattle.ways.specs.declared.chain.Threads.{Threads}
use Rattle.ways.specs.Chains.{Threaded, Chain}
use Rattle.arrays.proofs.Searches.{first_start, first_yes, first_no, first_end, first_most, first_least, first_hit}
use Rattle.arrays.proofs.Ends.{link_is, first_is, second_is}

-- ---- a search within another
-- where p needs q, a search for p may go on from the first that has q
first_within : (p q : ℕ → Bool) (k i : ℕ) → ((y : ℕ) → y < i + k → q y ≡ false → p y ≡ false)
    → first p i k ≡ first p (first q i k) (i + k - first q i k)
unfolding first
first_within p q zero i h = let e : i + 0 - i ≡ 0 = omega arith in rw e
first_within p q (suc k) i h = elim (look (q i)) [
  | inl e ↦ let all : i + suc k - i ≡ suc k = omega arith in rw (e, all)
  | inr e ↦
      let on : i + suc k ≡ suc i + k = omega arith in
      rw (e, h i (omega arith) e, on) (first_within p q k (suc i) (λ y l. h y (omega arith)))
]

-- ---- threading
module _ (p : Plan) where
  pub threaded_none : (heads next : List ℕ) → length heads ≡ nodes_most → length next ≡ ends_most
      → ((v : ℕ) → v < nodes_most → get_or heads v 0 ≡ p.links) → ((x : ℕ) → x < ends_most → get_or next x 0 ≡ 0) → Threaded p (record { heads = heads; next = next }) p.links
  threaded_none heads next hs ns h z =
      record {
        heads_long = hs;
        next_long = ns;
        begins = λ v b. h v b ∙ sym (first_end (link_at p.node v) p.links p.links (omega arith) (omega arith));
        goes = λ x a b. absurd (omega arith);
        rest = λ x a b. z x b;
      }

  module _ (heads next : List ℕ) (l : ℕ) (t : Threaded p (record { heads = heads; next = next }) (l + 1)) (h : l < p.links) (small : p.links ≤ links_most) where
    abbrev v : ℕ
    v = get_or p.node (2 * l) 0

    abbrev w : ℕ
    w = get_or p.node (2 * l + 1) 0

    heads_more : (u : ℕ) → u < nodes_most → (eqb v u ≡ true) ⊎ (eqb v u ≡ false) → (eqb w u ≡ true) ⊎ (eqb w u ≡ false)
        → get_or (set (set heads v l) w l) u 0 ≡ link_from p u l
    heads_more u k a (inl b) =
        ap (λ i. get_or (set (set heads v l) i l) u 0) (eqb-true w u b)
        ∙ get_or-set_same (set heads v l) u l 0 (omega (arith, length-set heads v l, t.heads_long))
        ∙ sym (first_yes (link_at p.node u) l p.links h (or_right (eqb v u) b))
    heads_more u k (inl a) (inr b) =
        get_or-set_other (set heads v l) w u l 0 (λ q. eqb-false w u b (sym q))
        ∙ ap (λ i. get_or (set heads i l) u 0) (eqb-true v u a)
        ∙ get_or-set_same heads u l 0 (omega (arith, t.heads_long))
        ∙ sym (first_yes (link_at p.node u) l p.links h (rw a))
    heads_more u k (inr a) (inr b) =
        get_or-set_other (set heads v l) w u l 0 (λ q. eqb-false w u b (sym q))
        ∙ get_or-set_other heads v u l 0 (λ q. eqb-false v u a (sym q))
        ∙ t.begins u k
        ∙ sym (first_no (link_at p.node u) l p.links h (rw (a, b)))

    abbrev next' : List ℕ
    next' = set (set next (2 * l) (get_or heads v 0)) (2 * l + 1) (get_or heads w 0)

    next_else : (x : ℕ) → (x ≡ 2 * l → ⊥) → (x ≡ 2 * l + 1 → ⊥) → get_or next' x 0 ≡ get_or next x 0
    next_else x a b =
        get_or-set_other (set next (2 * l) (get_or heads v 0)) (2 * l + 1) x (get_or heads w 0) 0 b ∙ get_or-set_other next (2 * l) x (get_or heads v 0) 0 a

    module _ (named : (x : ℕ) → x < 2 * p.links → get_or p.node x 0 < nodes_most) where
      next_more : (x : ℕ) → 2 * l ≤ x → x < 2 * p.links → (eqb x (2 * l) ≡ true) ⊎ (eqb x (2 * l) ≡ false)
          → (eqb x (2 * l + 1) ≡ true) ⊎ (eqb x (2 * l + 1) ≡ false) → get_or next' x 0 ≡ link_from p (get_or p.node x 0) (x / 2 + 1)
      next_more x a k c (inl e) =
          let same : x ≡ 2 * l + 1 = eqb-true x (2 * l + 1) e in
          let half : (2 * l + 1) / 2 ≡ l = omega arith in
          rw (same, half)
          (get_or-set_same (set next (2 * l) (get_or heads v 0)) (2 * l + 1) (get_or heads w 0) 0 (omega (arith, length-set next (2 * l) (get_or heads v 0), t.next_long))
          ∙ t.begins w (named (2 * l + 1) (omega arith)))
      next_more x a k (inl c) (inr e) =
          let same : x ≡ 2 * l = eqb-true x (2 * l) c in
          let half : 2 * l / 2 ≡ l = omega arith in
          rw (same, half)
          (get_or-set_other (set next (2 * l) (get_or heads v 0)) (2 * l + 1) (2 * l) (get_or heads w 0) 0 (λ q. omega (arith, q))
          ∙ get_or-set_same next (2 * l) (get_or heads v 0) 0 (omega (arith, t.next_long))
          ∙ t.begins v (named (2 * l) (omega arith)))
      next_more x a k (inr c) (inr e) =
          next_else x (eqb-false x (2 * l) c) (eqb-false x (2 * l + 1) e)
          ∙ t.goes x (omega (arith, eqb-false x (2 * l) c, eqb-false x (2 * l + 1) e)) k

      pub threaded_more : Threaded p (record { heads = set (set heads v l) w l; next = next' }) l
      threaded_more =
          record {
            heads_long = simp length-set t.heads_long;
            next_long = simp length-set t.next_long;
            begins = λ u k. heads_more u k (look (eqb v u)) (look (eqb w u));
            goes = λ x a k. next_more x a k (look (eqb x (2 * l))) (look (eqb x (2 * l + 1)));
            rest = λ x a k. next_else x (λ q. omega (arith, q)) (λ q. omega (arith, q)) ∙ t.rest x a k;
          }

  -- where no link joins a node to itself
  pub chain_of : (s : Threads) → Threaded p s 0
      → ((l : ℕ) → l < p.links → get_or p.node (2 * l) 0 ≡ get_or p.node (2 * l + 1) 0 → ⊥) → (v : ℕ) → v < nodes_most → Chain p s v
  chain_of s t two v b = record { begins = t.begins v b; goes = λ l h. on l h (look (eqb (get_or p.node (2 * l) 0) v)); apart = apart }
    where
      on : (l : ℕ) → l < p.links → (eqb (get_or p.node (2 * l) 0) v ≡ true) ⊎ (eqb (get_or p.node (2 * l) 0) v ≡ false) → link_at p.node v l ≡ true
          → get_or s.next (end_at p.node v l) 0 ≡ link_from p v (l + 1)
      on l h (inl a) e =
          let half : 2 * l / 2 ≡ l = omega arith in
          rw a (rw (half, eqb-true (get_or p.node (2 * l) 0) v a) at (t.goes (2 * l) (omega arith) (omega arith)))
      on l h (inr a) e =
          let half : (2 * l + 1) / 2 ≡ l = omega arith in
          rw a (rw (half, eqb-true (get_or p.node (2 * l + 1) 0) v (rw a at e)) at (t.goes (2 * l + 1) (omega arith) (omega arith)))

      apart : (l : ℕ) → l < p.links → eqb (get_or p.node (2 * l) 0) v ≡ true → eqb (get_or p.node (2 * l + 1) 0) v ≡ false
      apart l h a = ne_eqb (get_or p.node (2 * l + 1) 0) v (λ q. two l h (eqb-true (get_or p.node (2 * l) 0) v a ∙ sym q))

-- ---- along a chain
module _ (p : Plan) (r : Arrows) (v : ℕ) where
  abbrev S : State
  S = ends_seen p r

  -- no link before l leads out, and l is a link of v
  pub record Walked (l : ℕ) : Type 0 where
    pub most : l ≤ p.links
    pub here : l < p.links → link_at p.node v l ≡ true
    pub rest : first (out_link S v) 0 p.links ≡ first (out_link S v) l (p.links - l)

  away : (l : ℕ) → l < p.links → link_at p.node v l ≡ false → out_link S v l ≡ false
  away l h e =
      let n = or_neither (eqb (get_or p.node (2 * l) 0) v) (eqb (get_or p.node (2 * l + 1) 0) v) e in
      sym (link_is p r v l h) ∙ rw (n.0, n.1)

  jump : (i : ℕ) → i ≤ p.links → first (out_link S v) 0 p.links ≡ first (out_link S v) i (p.links - i) → Walked (link_from p v i)
  jump i h e =
      let all : i + (p.links - i) ≡ p.links = omega arith in
      record {
        most = omega (arith, first_most (link_at p.node v) (p.links - i) i);
        here = λ l. first_hit (link_at p.node v) (p.links - i) i (omega arith);
        rest = e ∙ rw all at (first_within (out_link S v) (link_at p.node v) (p.links - i) i (λ y l. away y (omega arith)));
      }

  module _ (t : Threads) (chain : Chain p t v) where
    -- the end of a link that leads out
    pub leads_by : (l : ℕ) → l < p.links → out_link S v l ≡ true → end_at p.node v l ≡ out_end S v l
    leads_by l h e = elim (look (eqb (get_or p.node (2 * l) 0) v)) [
      | inl a ↦ rw a (sym (first_is p r v l h (rw (chain.apart l h a, or-false) at (link_is p r v l h ∙ e))))
      | inr a ↦ rw a (sym (second_is p r v l h (rw a)))
    ]

    pub walked_start : Walked (get_or t.heads v 0)
    walked_start = rw chain.begins (jump 0 (omega arith) (first_start (out_link S v) p.links))

    module _ (l : ℕ) (w : Walked l) (h : l < p.links) {x : ℕ} (q : x ≡ end_at p.node v l) where
      found : (get_or r.live l false && get_or r.out x false) ≡ out_link S v l
      found = rw q (elim (look (eqb (get_or p.node (2 * l) 0) v)) [
        | inl a ↦
            let half : 2 * l / 2 ≡ l = omega arith in
            rw a (rw (a, chain.apart l h a, half, or-false) at (link_is p r v l h))
        | inr a ↦
            let half : (2 * l + 1) / 2 ≡ l = omega arith in
            rw (a, half) (rw (a, rw a at (w.here h), half) at (link_is p r v l h))
      ])

      after : get_or t.next x 0 ≡ link_from p v (l + 1)
      after = rw q (chain.goes l h (w.here h))

      pub walked_next : (get_or r.live l false && get_or r.out x false) ≡ false → Walked (get_or t.next x 0)
      walked_next e = rw after (jump (l + 1) (omega arith) (w.rest ∙ first_no (out_link S v) l p.links h (sym found ∙ e)))

      pub walked_on : l < get_or t.next x 0
      walked_on = omega (arith, after, first_least (link_at p.node v) (p.links - (l + 1)) (l + 1))

      pub walked_found : (get_or r.live l false && get_or r.out x false) ≡ true → l ≡ first (out_link S v) 0 p.links
      walked_found e = sym (w.rest ∙ first_yes (out_link S v) l p.links h (sym found ∙ e))

  pub walked_end : (l : ℕ) → Walked l → p.links ≤ l → p.links ≡ first (out_link S v) 0 p.links
  walked_end l w h = sym (w.rest ∙ first_end (out_link S v) l p.links w.most h)
