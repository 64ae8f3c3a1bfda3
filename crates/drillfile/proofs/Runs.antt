-- Several numbers, one behind the other: how many bytes they take, and their stores. Assumes nothing.
use Prim.Native.Nat.{ℕ, ◌+◌, ◌*◌, ◌≤◌, ◌<◌}
use native.Mathlib.Nat.{zero-add}
use native.Mathlib.Numerals.{add-one}
use native.Mathlib.Omega.{arith}
use mathlib.Core.Path.{◌≡◌, refl, sym, ap, ◌∙◌}
use mathlib.Core.List.{List, [], ◌∷◌, ◌++◌}
use lib.ListN.{length, get_or, drop, drop_of_length-le}
use lib.Seq.{drop-cons, sets, length-sets}
use Rattle.model.specs.Limits.{groups_most}
use Rattle.model.specs.Number.{number_bytes}
use Rattle.model.specs.Writing.{numbers_bytes}
use Rattle.model.proofs.Numbers.{number_short}
use Rattle.model.proofs.Format.{numbers_cons, numbers_nil, numbers_length}
use Rattle.groups.proofs.Stores.{sets_append}

pub numbers_short : (ns : List ℕ) → length (numbers_bytes ns) ≤ groups_most * length ns
numbers_short [] = omega (arith, ap length numbers_nil)
numbers_short (n ∷ ns) = omega (arith, numbers_length n ns, number_short n, numbers_short ns)

module _ (list : List ℕ) (i : ℕ) where
  -- the numbers from one on
  here : i < length list → drop i list ≡ get_or list i 0 ∷ drop (i + 1) list
  here h = rw (add-one, drop-cons list i 0)

  over : length list ≤ i → numbers_bytes (drop i list) ≡ []
  over h = rw (drop_of_length-le list h, numbers_nil)

  next_is : i < length list → numbers_bytes (drop i list) ≡ number_bytes (get_or list i 0) ++ numbers_bytes (drop (i + 1) list)
  next_is h = rw (here h, numbers_cons)

  next_long : i < length list
      → length (numbers_bytes (drop i list)) ≡ length (number_bytes (get_or list i 0)) + length (numbers_bytes (drop (i + 1) list))
  next_long h = rw (here h, numbers_length)

-- ---- the width of those passed
pub record Summed (list : List ℕ) (sum i : ℕ) : Type 0 where
  pub within : i ≤ length list
  pub left : sum + length (numbers_bytes (drop i list)) ≡ length (numbers_bytes list)

pub summed_none : (list : List ℕ) → Summed list 0 0
summed_none list = record { within = omega arith; left = zero-add (length (numbers_bytes list)) }

module _ (list : List ℕ) (sum i : ℕ) (s : Summed list sum i) where
  pub summed_more : {w : ℕ} → i < length list → w ≡ length (number_bytes (get_or list i 0)) → Summed list (sum + w) (i + 1)
  summed_more h e = record { within = omega arith; left = omega (arith, s.left, next_long list i h) }

  pub summed_fits : {w : ℕ} → i < length list → w ≡ length (number_bytes (get_or list i 0)) → sum + w ≤ groups_most * length list
  summed_fits h e = omega (arith, s.left, next_long list i h, numbers_short list)

  pub summed_all : length list ≤ i → sum ≡ length (numbers_bytes list)
  summed_all h = omega (arith, s.left, ap length (over list i h))

-- ---- the stores of those passed
pub record Stored (part : List ℕ) (at : ℕ) (list out : List ℕ) (next i : ℕ) : Type 0 where
  pub within : i ≤ length list
  pub size : length out ≡ length part
  pub ends : next + length (numbers_bytes (drop i list)) ≡ at + length (numbers_bytes list)
  pub stores : sets out next (numbers_bytes (drop i list)) ≡ sets part at (numbers_bytes list)

pub stored_none : (part : List ℕ) (at : ℕ) (list : List ℕ) → Stored part at list part at 0
stored_none part at list = record { within = omega arith; size = refl; ends = refl; stores = refl }

module _ (part : List ℕ) (at : ℕ) (list out : List ℕ) (next i : ℕ) (s : Stored part at list out next i) where
  pub has_room : i < length list → at + length (numbers_bytes list) ≤ length part → next + length (number_bytes (get_or list i 0)) ≤ length out
  has_room h r = omega (arith, s.size, s.ends, next_long list i h)

  pub stored_more : (after : ℕ) (left : List ℕ) → i < length list → after ≡ next + length (number_bytes (get_or list i 0))
      → left ≡ sets out next (number_bytes (get_or list i 0)) → Stored part at list left after (i + 1)
  stored_more after left h e f =
      let n = number_bytes (get_or list i 0) in
      let more = numbers_bytes (drop (i + 1) list) in
      record {
        within = omega arith;
        size = ap length f ∙ length-sets out next n ∙ s.size;
        ends = omega (arith, s.ends, next_long list i h);
        stores = rw (f, e) (sets_append n more out next) ∙ ap (λ (l : List ℕ). sets out next l) (sym (next_is list i h)) ∙ s.stores;
      }

  pub stored_all : length list ≤ i → (next ≡ at + length (numbers_bytes list)) × (out ≡ sets part at (numbers_bytes list))
  stored_all h =
      let none = over list i h in
      (omega (arith, s.ends, ap length none), ap (λ (l : List ℕ). sets out next l) (sym none) ∙ s.stores)
