-- Laws of the tests below a bound, of a function's first values, and of the entries in use. Assumes nothing.
use Prim.Native.Nat.{ℕ, zero, suc, ◌+◌, ◌*◌, ◌≤◌, ◌<◌}
use native.Mathlib.Omega.{arith}
use native.Mathlib.Numerals.{add-one}
use mathlib.Core.Path.{◌≡◌, refl, sym, ap, ap₂, ◌∙◌, fun_ext}
use mathlib.Core.Logic.{inl, inr}
use mathlib.Core.Bool.{Bool, true, false, not, ◌&&◌, ◌||◌, and-true, and_assoc, or_assoc}
use mathlib.Core.List.{List, ◌∷◌}
use lib.Dec.{leb, ltb}
use lib.ListN.{length, get_or, take, set, replicate}
use borrow.Author.Tests.{lt-ltb, le-ltb, le-leb, lt-leb, ltb-true, ltb-false, leb-true, leb-false}
use Rattle.model.specs.Below.{any, all, tab}
use Rattle.model.proofs.Below.{look}
use Rattle.arrays.specs.View.{used}

pub not_or : (a b : Bool) → not (a || b) ≡ (not a && not b)
not_or true b = refl
not_or false b = refl

pub not_not : (b : Bool) → not (not b) ≡ b
not_not true = refl
not_not false = refl

pub not_leb : (a b : ℕ) → ltb a b ≡ not (leb b a)
not_leb a b = elim (look (leb b a)) [
  | inl e ↦ rw (e, le-ltb a b (leb-true b a e))
  | inr e ↦ rw (e, lt-ltb a b (leb-false b a e))
]

pub not_ltb : (a b : ℕ) → leb a b ≡ not (ltb b a)
not_ltb a b = elim (look (ltb b a)) [
  | inl e ↦ rw (e, lt-leb a b (ltb-true b a e))
  | inr e ↦ rw (e, le-leb a b (ltb-false b a e))
]

-- all pass exactly if none fails
pub all_not_any : (p q : ℕ → Bool) (n : ℕ) → ((i : ℕ) → i < n → p i ≡ not (q i)) → all p n ≡ not (any q n)
unfolding all any
all_not_any p q zero h = refl
all_not_any p q (suc n) h = rw (all_not_any p q n (λ i l. h i (omega arith)), h n (omega arith), not_or)

pub any_same : (p q : ℕ → Bool) (n : ℕ) → ((i : ℕ) → i < n → p i ≡ q i) → any p n ≡ any q n
unfolding any
any_same p q zero h = refl
any_same p q (suc n) h = rw (any_same p q n (λ i l. h i (omega arith)), h n (omega arith))

pub any_never : (p : ℕ → Bool) (n : ℕ) → ((i : ℕ) → i < n → p i ≡ false) → any p n ≡ false
unfolding any
any_never p zero h = refl
any_never p (suc n) h = rw (any_never p n (λ i l. h i (omega arith)), h n (omega arith))

or_swap : (a b c d : Bool) → ((a || b) || (c || d)) ≡ ((a || c) || (b || d))
or_swap true b c d = refl
or_swap false true true d = refl
or_swap false true false d = refl
or_swap false false c d = refl

pub any_or : (p q : ℕ → Bool) (n : ℕ) → any (λ i. p i || q i) n ≡ (any p n || any q n)
unfolding any
any_or p q zero = refl
any_or p q (suc n) = rw (any_or p q n) (or_swap (any p n) (any q n) (p n) (q n))

-- the ends of the links, two by two
pub any_pairs : (q : ℕ → Bool) (n : ℕ) → any q (2 * n) ≡ any (λ l. q (2 * l) || q (2 * l + 1)) n
unfolding any
any_pairs q zero = refl
any_pairs q (suc n) =
    let e : 2 * suc n ≡ suc (suc (2 * n)) = omega arith in
    rw (e, add-one (2 * n), any_pairs q n) (or_assoc (any (λ l. q (2 * l) || q (2 * l + 1)) n) (q (2 * n)) (q (suc (2 * n))))

-- the first number apart
pub all_head : (p : ℕ → Bool) (n : ℕ) → all p (suc n) ≡ (p 0 && all (λ i. p (suc i)) n)
unfolding all
all_head p zero = sym (and-true (p 0))
all_head p (suc n) = ap (λ b. b && p (suc n)) (all_head p n) ∙ and_assoc (p 0) (all (λ i. p (suc i)) n) (p (suc n))

pub length-tab {ℓ} : {A : Type ℓ} (f : ℕ → A) (n : ℕ) → length (tab f n) ≡ n
unfolding tab
length-tab f zero = refl
length-tab f (suc n) = ap suc (length-tab (λ i. f (suc i)) n)

-- entries in use, and past them
pub used_in {ℓ} : {A : Type ℓ} (k : ℕ) (d : A) (xs : List A) (i : ℕ) → i < k → used k d xs i ≡ get_or xs i d
unfolding used
used_in k d xs i h = rw (lt-ltb i k h)

pub used_out {ℓ} : {A : Type ℓ} (k : ℕ) (d : A) (xs : List A) (i : ℕ) → k ≤ i → used k d xs i ≡ d
unfolding used
used_out k d xs i h = rw (le-ltb i k h)

pub used_is {ℓ} : {A : Type ℓ} (k : ℕ) (d : A) (xs : List A) (f : ℕ → A) → ((i : ℕ) → i < k → get_or xs i d ≡ f i) → ((i : ℕ) → k ≤ i → d ≡ f i)
    → used k d xs ≡ f
used_is k d xs f p q = fun_ext (λ i. elim (look (ltb i k)) [
  | inl e ↦ used_in k d xs i (ltb-true i k e) ∙ p i (ltb-true i k e)
  | inr e ↦ used_out k d xs i (ltb-false i k e) ∙ q i (ltb-false i k e)
])

-- a function's first values as a list
module _ {ℓ} {A : Type ℓ} where
  pub tab_replicate : (a : A) (n : ℕ) → replicate n a ≡ tab (λ i. a) n
  unfolding tab
  tab_replicate a zero = refl
  tab_replicate a (suc n) = ap (λ l. a ∷ l) (tab_replicate a n)

  pub tab_same : (f g : ℕ → A) (n : ℕ) → ((i : ℕ) → i < n → f i ≡ g i) → tab f n ≡ tab g n
  unfolding tab
  tab_same f g zero h = refl
  tab_same f g (suc n) h = ap₂ (λ a l. a ∷ l) (h 0 (omega arith)) (tab_same (λ i. f (suc i)) (λ i. g (suc i)) n (λ i l. h (suc i) (omega arith)))

  pub take_tab : (f : ℕ → A) (k n : ℕ) → k ≤ n → take k (tab f n) ≡ tab f k
  unfolding tab
  take_tab f zero n h = refl
  take_tab f (suc k) zero h = absurd (omega arith)
  take_tab f (suc k) (suc n) h = ap (λ l. f 0 ∷ l) (take_tab (λ i. f (suc i)) k n (omega arith))

  -- a store at i, where the two functions differ at i alone
  pub set_tab : (f g : ℕ → A) (n i : ℕ) (a : A) → i < n → a ≡ g i → ((j : ℕ) → (j ≡ i → ⊥) → f j ≡ g j) → set (tab f n) i a ≡ tab g n
  unfolding tab
  set_tab f g zero i a h e k = absurd (omega arith)
  set_tab f g (suc n) zero a h e k = ap₂ (λ b l. b ∷ l) e (tab_same (λ j. f (suc j)) (λ j. g (suc j)) n (λ j l. k (suc j) (λ q. omega (arith, q))))
  set_tab f g (suc n) (suc i) a h e k =
      ap₂ (λ b l. b ∷ l) (k 0 (λ q. omega (arith, q)))
      (set_tab (λ j. f (suc j)) (λ j. g (suc j)) n i a (omega arith) e (λ j q. k (suc j) (λ r. q (omega (arith, r)))))
