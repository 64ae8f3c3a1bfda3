-- Laws of the packets' arrays: moving down, taking out, putting in, keeping. Assumes nothing.
use Prim.Native.Nat.{ℕ, suc, ◌+◌, ◌≤◌, ◌<◌}
use native.Mathlib.Omega.{arith}
use native.Mathlib.Numerals.{add-one}
use mathlib.Core.Path.{◌≡◌, refl, sym, ap, ◌∙◌}
use mathlib.Core.Logic.{◌⊎◌, inl, inr}
use mathlib.Core.Bool.{true, false, cond, ◌||◌, or-true}
use mathlib.Core.List.{List}
use lib.Dec.{ltb, leb, eqb}
use lib.ListN.{length, get_or, set, length-set}
use lib.Seq.{get_or-set_same, get_or-set_other}
use borrow.Author.Tests.{lt-ltb, le-ltb, le-leb, lt-leb, ltb-true, ltb-false, leb-true, leb-false, eqb-true, eqb-false}
use Rattle.model.proofs.Below.{look}
use Rattle.packets.specs.Moves.{Moved, Removed}

module _ {A : Type 0} (d : A) where
  -- where an entry of a moved array comes from
  abbrev source : ℕ → ℕ → List A → ℕ → A
  source from to old k = cond (ltb k from || leb to k) (get_or old k d) (get_or old (suc k) d)

  source_low : (from to : ℕ) (old : List A) (k : ℕ) → k < from → source from to old k ≡ get_or old k d
  source_low from to old k h = rw (lt-ltb k from h)

  source_mid : (from to : ℕ) (old : List A) (k : ℕ) → from ≤ k → k < to → source from to old k ≡ get_or old (suc k) d
  source_mid from to old k h l = rw (le-ltb k from h, lt-leb to k l)

  source_high : (from to : ℕ) (old : List A) (k : ℕ) → to ≤ k → source from to old k ≡ get_or old k d
  source_high from to old k h = rw (le-leb to k h, or-true (ltb k from))

  pub moved_none : (i : ℕ) (old : List A) → Moved d i i old old
  moved_none i old = record { entry = λ k. go k (look (ltb k i)); long = refl }
    where
      go : (k : ℕ) → (ltb k i ≡ true) ⊎ (ltb k i ≡ false) → get_or old k d ≡ source i i old k
      go k (inl e) = sym (source_low i i old k (ltb-true k i e))
      go k (inr e) = sym (source_high i i old k (ltb-false k i e))

  -- one entry more
  one_more : (i j : ℕ) (old a : List A) → i ≤ j → j < length old → Moved d i j old a → Moved d i (j + 1) old (set a j (get_or a (j + 1) d))
  one_more i j old a h l m = record { entry = λ k. go k (look (eqb k j)); long = length-set a j (get_or a (j + 1) d) ∙ m.long }
    where
      next : get_or a (j + 1) d ≡ get_or old (suc j) d
      next = m.entry (j + 1) ∙ source_high i j old (j + 1) (omega arith) ∙ ap (λ n. get_or old n d) (add-one j)

      go : (k : ℕ) → (eqb k j ≡ true) ⊎ (eqb k j ≡ false) → get_or (set a j (get_or a (j + 1) d)) k d ≡ source i (j + 1) old k
      go k (inl e) =
          rw (eqb-true k j e)
          (get_or-set_same a j (get_or a (j + 1) d) d (omega (arith, m.long)) ∙ next ∙ sym (source_mid i (j + 1) old j h (omega arith)))
      go k (inr e) = get_or-set_other a j k (get_or a (j + 1) d) d (eqb-false k j e) ∙ m.entry k ∙ same (look (ltb k i)) (look (leb j k))
        where
          same : (ltb k i ≡ true) ⊎ (ltb k i ≡ false) → (leb j k ≡ true) ⊎ (leb j k ≡ false) → source i j old k ≡ source i (j + 1) old k
          same (inl a) b = source_low i j old k (ltb-true k i a) ∙ sym (source_low i (j + 1) old k (ltb-true k i a))
          same (inr a) (inl b) =
              source_high i j old k (leb-true j k b)
              ∙ sym (source_high i (j + 1) old k (omega (arith, leb-true j k b, eqb-false k j e)))
          same (inr a) (inr b) =
              source_mid i j old k (ltb-false k i a) (leb-false j k b)
              ∙ sym (source_mid i (j + 1) old k (ltb-false k i a) (omega (arith, leb-false j k b)))

  pub moved_more : (i j to : ℕ) (old a : List A) (v : A) → v ≡ get_or a (j + 1) d → to ≡ j + 1 → i ≤ j → j < length old → Moved d i j old a
      → Moved d i to old (set a j v)
  moved_more i j to old a v r e h l m = rw (e, r) (one_more i j old a h l m)

  -- one block more
  pub moved_on : (i j n : ℕ) (old a b : List A) → i ≤ j → Moved d i j old a → Moved d j (j + n) a b → Moved d i (j + n) old b
  moved_on i j n old a b h m s = record { entry = λ k. s.entry k ∙ go k (look (ltb k j)) (look (leb (j + n) k)); long = s.long ∙ m.long }
    where
      go : (k : ℕ) → (ltb k j ≡ true) ⊎ (ltb k j ≡ false) → (leb (j + n) k ≡ true) ⊎ (leb (j + n) k ≡ false)
          → source j (j + n) a k ≡ source i (j + n) old k
      go k (inl p) q = source_low j (j + n) a k (ltb-true k j p) ∙ m.entry k ∙ low (look (ltb k i))
        where
          low : (ltb k i ≡ true) ⊎ (ltb k i ≡ false) → source i j old k ≡ source i (j + n) old k
          low (inl r) = source_low i j old k (ltb-true k i r) ∙ sym (source_low i (j + n) old k (ltb-true k i r))
          low (inr r) =
              source_mid i j old k (ltb-false k i r) (ltb-true k j p)
              ∙ sym (source_mid i (j + n) old k (ltb-false k i r) (omega (arith, ltb-true k j p)))
      go k (inr p) (inl q) =
          source_high j (j + n) a k (leb-true (j + n) k q) ∙ m.entry k ∙ source_high i j old k (omega (arith, leb-true (j + n) k q))
          ∙ sym (source_high i (j + n) old k (leb-true (j + n) k q))
      go k (inr p) (inr q) =
          source_mid j (j + n) a k (ltb-false k j p) (leb-false (j + n) k q) ∙ m.entry (suc k)
          ∙ source_high i j old (suc k) (omega (arith, ltb-false k j p))
          ∙ sym (source_mid i (j + n) old k (omega (arith, ltb-false k j p)) (leb-false (j + n) k q))

  pub removed_all : (i j last : ℕ) (old a : List A) → last ≤ j → Moved d i j old a → Removed d i last old a
  removed_all i j last old a h m = record { entry = λ k l. m.entry k ∙ go k l (look (ltb k i)); long = m.long }
    where
      go : (k : ℕ) → k < last → (ltb k i ≡ true) ⊎ (ltb k i ≡ false) → source i j old k ≡ cond (ltb k i) (get_or old k d) (get_or old (suc k) d)
      go k l (inl e) = source_low i j old k (ltb-true k i e) ∙ rw e
      go k l (inr e) = source_mid i j old k (ltb-false k i e) (omega arith) ∙ rw e
