-- A turn, part by part. Assumes nothing.
use Prim.Native.Nat.{ℕ, ◌+◌, ◌-◌, ◌*◌, ◌/◌, ◌≤◌, ◌<◌}
use native.Mathlib.Omega.{arith}
use mathlib.Core.Path.{◌≡◌, refl, sym, ◌∙◌, subst}
use mathlib.Core.Logic.{◌⊎◌, inl, inr}
use mathlib.Core.Bool.{Bool, true, false, not, beq, cond, ◌&&◌, ◌||◌, or-false, and-false}
use mathlib.Core.List.{List}
use lib.Dec.{leb, ltb, eqb}
use lib.ListN.{length, get_or, set, length-set}
use lib.Seq.{get_or-set_same, get_or-set_other}
use borrow.Author.Tests.{eq-eqb, ne_eqb, eqb-true, eqb-false, lt-ltb, ltb-true, ltb-false, le-leb, lt-leb, leb-true}
use Rattle.model.specs.Limits.{ends_most}
use Rattle.model.specs.Below.{any}
use Rattle.model.specs.Departure.{has_mark, reverses, turn}
use Rattle.model.proofs.Below.{look, clash, any_false}
use Rattle.arrays.specs.declared.record.Plan.{Plan}
use Rattle.arrays.specs.declared.record.Arrows.{Arrows}
use Rattle.arrays.specs.View.{used, ends_seen}
use Rattle.arrays.proofs.Below.{used_in, used_is, used_out}
use Rattle.turning.specs.Turned.{turned_end, Long, ours, turns, Part, Turned}

-- a bit joined with a flag turns where the flag is
pub turned_is : (b t : Bool) → not (beq b t) ≡ cond t (not b) b
turned_is true true = refl
turned_is true false = refl
turned_is false true = refl
turned_is false false = refl

-- ---- an end that is passed twice, and has its part at most once
module _ (full a o b m : Bool) where
  abbrev part_out : Bool → Bool → Bool → Bool
  part_out own out mark = turns own full a mark || out

  abbrev part_local : Bool → Bool → Bool → Bool
  part_local own local mark = cond (turns own full a mark) (not local) local

  abbrev part_mark : Bool → Bool → Bool → Bool
  part_mark own out mark = cond own (a && not (turns own full a mark || out)) mark

  twice_out : (g h : Bool) → (g && h) ≡ false → part_out h (part_out g o m) (part_mark g o m) ≡ part_out (g || h) o m
  twice_out true true e = absurd (clash refl e)
  twice_out true false e = refl
  twice_out false h e = refl

  twice_local : (g h : Bool) → (g && h) ≡ false → part_local h (part_local g b m) (part_mark g o m) ≡ part_local (g || h) b m
  twice_local true true e = absurd (clash refl e)
  twice_local true false e = refl
  twice_local false h e = refl

  twice_mark : (g h : Bool) → (g && h) ≡ false → part_mark h (part_out g o m) (part_mark g o m) ≡ part_mark (g || h) o m
  twice_mark true true e = absurd (clash refl e)
  twice_mark true false e = refl
  twice_mark false h e = refl

-- an array with one entry new, against what each entry should be
at_set : (a : List Bool) (y : ℕ) (n : Bool) (f : ℕ → Bool) → y < length a → n ≡ f y
    → ((x : ℕ) → (x ≡ y → ⊥) → get_or a x false ≡ f x) → (x : ℕ) → get_or (set a y n) x false ≡ f x
at_set a y n f l e h x = elim (look (eqb x y)) [
  | inl q ↦ rw (eqb-true x y q) (get_or-set_same a y n false l ∙ e)
  | inr q ↦ get_or-set_other a y x n false (eqb-false x y q) ∙ h x (eqb-false x y q)
]

module _ (p : Plan) (v : ℕ) (full : Bool) where
  abbrev here : ℕ → Bool
  here x = eqb (get_or p.node x 0) v

  abbrev alive : Arrows → ℕ → Bool
  alive a x = get_or a.live (x / 2) false

  -- as the code has it
  abbrev turned : Arrows → ℕ → Bool
  turned a x = cond full (alive a x) (get_or a.mark x false)

  -- ---- which ends a part has
  join_ours : (a b c x : ℕ) → a ≤ b → b ≤ c → ours p.node v a c x ≡ (ours p.node v a b x || ours p.node v b c x)
  unfolding ours
  join_ours a b c x h k = elim (look (ltb x b)) [
    | inl e ↦ let l = ltb-true x b e in rw (e, lt-ltb x c (omega arith), lt-leb b x l) (sym (or-false (leb a x && true && here x)))
    | inr e ↦ let l = ltb-false x b e in rw (e, le-leb a x (omega arith), le-leb b x l)
  ]

  ours_apart : (a b c x : ℕ) → (ours p.node v a b x && ours p.node v b c x) ≡ false
  unfolding ours
  ours_apart a b c x = elim (look (ltb x b)) [
    | inl e ↦ rw (lt-leb b x (ltb-true x b e), and-false (leb a x && ltb x b && here x))
    | inr e ↦ rw (e, and-false (leb a x))
  ]

  none_ours : (a b x : ℕ) → (a ≤ x → x < b → here x ≡ false) → ours p.node v a b x ≡ false
  unfolding ours
  none_ours a b x h = go (look (leb a x)) (look (ltb x b))
    where
      go : (leb a x ≡ true) ⊎ (leb a x ≡ false) → (ltb x b ≡ true) ⊎ (ltb x b ≡ false) → (leb a x && ltb x b && here x) ≡ false
      go (inr e) f = rw e
      go (inl e) (inr f) = rw (e, f)
      go (inl e) (inl f) = rw (e, f) (h (leb-true a x e) (ltb-true x b f))

  one_ours : (y : ℕ) → get_or p.node y 0 ≡ v → ours p.node v y (y + 1) y ≡ true
  unfolding ours
  one_ours y e = rw (le-leb y y (omega arith), lt-ltb y (y + 1) (omega arith)) (eq-eqb (get_or p.node y 0) v e)

  -- ---- no end of v
  part_none : (a : Arrows) (from to : ℕ) → Long a → ((x : ℕ) → from ≤ x → x < to → here x ≡ false) → Part p v full from to a a
  part_none a from to long h =
      record {
        out_at = λ x. rw (none_ours from to x (h x));
        local_at = λ x. rw (none_ours from to x (h x));
        mark_at = λ x. rw (none_ours from to x (h x));
        live = refl;
        remote = refl;
        turned = refl;
        long = long;
      }

  pub part_start : (a : Arrows) (from : ℕ) → Long a → Part p v full from from a a
  part_start a from long = part_none a from from long (λ x h l. absurd (omega arith))

  -- ---- what the code puts at an end of v
  module _ (a : Arrows) (y : ℕ) (e : get_or p.node y 0 ≡ v) (l : y < ends_most) (long : Long (turned_end full a y)) where
    else_ours : (x : ℕ) → (x ≡ y → ⊥) → ours p.node v y (y + 1) x ≡ false
    else_ours x h = none_ours y (y + 1) x (λ m n. absurd (h (omega arith)))

    part_one : Part p v full y (y + 1) a (turned_end full a y)
    part_one =
        record {
          out_at = at_set a.out y _ _ (omega (arith, simp length-set at long.out)) (rw (one_ours y e)) (λ x h. rw (else_ours x h));
          local_at = at_set a.local y _ _ (omega (arith, simp length-set at long.local)) (rw (one_ours y e)) (λ x h. rw (else_ours x h));
          mark_at = at_set a.mark y _ _ (omega (arith, simp length-set at long.mark)) (rw (one_ours y e)) (λ x h. rw (else_ours x h));
          live = refl;
          remote = refl;
          turned = refl;
          long = long;
        }

  -- ---- one part, then another
  module _ (a b : Arrows) (from to : ℕ) (q : Part p v full from to a b) (h : from ≤ to) where
    pub part_join : (c : Arrows) (end : ℕ) → Part p v full to end b c → to ≤ end → Part p v full from end a c
    part_join c end r k =
        record {
          out_at = λ x. r.out_at x
              ∙ rw (q.live, q.out_at x, q.mark_at x, join_ours from to end x h k)
              (twice_out full (alive a x) (get_or a.out x false) (get_or a.local x false) (get_or a.mark x false) (ours p.node v from to x) (ours p.node v to end x) (ours_apart from to end x));
          local_at = λ x. r.local_at x
              ∙ rw (q.live, q.local_at x, q.mark_at x, join_ours from to end x h k)
              (twice_local full (alive a x) (get_or a.out x false) (get_or a.local x false) (get_or a.mark x false) (ours p.node v from to x) (ours p.node v to end x) (ours_apart from to end x));
          mark_at = λ x. r.mark_at x
              ∙ rw (q.live, q.out_at x, q.mark_at x, join_ours from to end x h k)
              (twice_mark full (alive a x) (get_or a.out x false) (get_or a.local x false) (get_or a.mark x false) (ours p.node v from to x) (ours p.node v to end x) (ours_apart from to end x));
          live = r.live ∙ q.live;
          remote = r.remote ∙ q.remote;
          turned = r.turned ∙ q.turned;
          long = r.long;
        }

    -- the next end is one of v, or of another node; the next ends are none of v's
    pub part_more : Long (turned_end full b to) → get_or p.node to 0 ≡ v → to < ends_most → Part p v full from (to + 1) a (turned_end full b to)
    part_more k e l = part_join _ _ (part_one b to e l k) (omega arith)

    pub part_pass : (end : ℕ) → to ≤ end → ((x : ℕ) → to ≤ x → x < end → here x ≡ false) → Part p v full from end a b
    part_pass end k e = part_join b end (part_none b to end q.long e) k

    pub part_on : (get_or p.node to 0 ≡ v → ⊥) → Part p v full from (to + 1) a b
    part_on e = part_pass (to + 1) (omega arith) (λ x k l. subst (λ n. here n ≡ false) (omega arith) (ne_eqb (get_or p.node to 0) v e))

    pub part_block : any (λ j. here (to + j)) 16 ≡ false → Part p v full from (to + 16) a b
    part_block e =
        part_pass (to + 16) (omega arith)
        (λ x k l. subst (λ n. here n ≡ false) (omega arith) (any_false (λ j. here (to + j)) 16 (x - to) e (omega arith)))

  -- ---- all ends in use have had their part: this is the turn
  module _ (a : Arrows) (to : ℕ) (inside : 2 * p.links ≤ to) (marked : full ≡ not (has_mark (ends_seen p a) v)) where
    abbrev K : ℕ
    K = 2 * p.links

    all_ours : (x : ℕ) → x < K → ours p.node v 0 to x ≡ here x
    unfolding ours
    all_ours x h = rw (le-leb 0 x (omega arith), lt-ltb x to (omega arith))

    turns_inside : (x : ℕ) → x < K → turns (ours p.node v 0 to x) full (alive a x) (get_or a.mark x false) ≡ reverses (ends_seen p a) v x
    turns_inside x h =
        rw (all_ours x h, marked, used_in K 0 p.node x h, used_in K false a.mark x h, used_in p.links false a.live (x / 2) (omega arith)) (go (has_mark (ends_seen p a) v))
      where
        go : (b : Bool) → (here x && cond (not b) (alive a x) (get_or a.mark x false))
            ≡ cond b (here x && get_or a.mark x false) (here x && alive a x)
        go true = refl
        go false = refl

    cond_same : (b : Bool) → cond b false false ≡ false
    cond_same true = refl
    cond_same false = refl

    turns_out : (x : ℕ) → K ≤ x → reverses (ends_seen p a) v x ≡ false
    turns_out x h =
        rw (used_out K false a.mark x h, used_out p.links false a.live (x / 2) (omega arith), and-false (eqb (used K 0 p.node x) v)) (cond_same (has_mark (ends_seen p a) v))

    pub part_all : {b : Arrows} → Part p v full 0 to a b → Turned p v a b
    unfolding turn
    part_all {b} q =
        record {
          out = used_is K false b.out (turn (ends_seen p a) v).ends.out
              (λ x h. q.out_at x ∙ rw (turns_inside x h, used_in K false a.out x h))
              (λ x h. rw (turns_out x h, used_out K false a.out x h));
          local = used_is K false b.local (turn (ends_seen p a) v).ends.local
              (λ x h. q.local_at x ∙ rw (turns_inside x h, used_in K false a.local x h))
              (λ x h. rw (turns_out x h, used_out K false a.local x h));
          mark = used_is K false b.mark (turn (ends_seen p a) v).ends.mark
              (λ x h. q.mark_at x ∙ rw (turns_inside x h, all_ours x h, used_in K 0 p.node x h, used_in K false a.out x h, used_in K false a.mark x h, used_in p.links false a.live (x / 2) (omega arith)))
              (λ x h. rw (used_out p.links false a.live (x / 2) (omega arith), used_out K false a.mark x h) (sym (cond_same (eqb (used K 0 p.node x) v))));
          live = q.live;
          remote = q.remote;
          long = q.long;
        }
