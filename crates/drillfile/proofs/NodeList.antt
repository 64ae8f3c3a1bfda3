-- The node numbers of a header's links, read one by one into an array. Assumes nothing.
use Prim.Native.Nat.{ℕ, suc, ◌+◌, ◌-◌, ◌≤◌, ◌<◌}
use native.Mathlib.Nat.{sub-zero}
use native.Mathlib.Numerals.{add-one}
use native.Mathlib.Omega.{arith}
use mathlib.Core.Path.{◌≡◌, refl, sym, ap, ◌∙◌}
use mathlib.Core.List.{List, [], ◌∷◌, ◌++◌, append_assoc, append-nil}
use lib.ListN.{length, take, set, length-set}
use lib.Seq.{take-suc-set}
use Rattle.model.specs.Limits.{ends_most}
use Rattle.model.specs.Answers as answers
use Rattle.model.specs.Number.{Read, had, refused, read_number}
use Rattle.model.specs.File.{and_then, read_numbers}
use Rattle.model.proofs.Numbers.{number_moves}

-- with those that were had before
abbrev behind : List ℕ → Read (List ℕ) → Read (List ℕ)
behind before x = and_then x λ ns q. had (before ++ ns) q

behind_none : (x : Read (List ℕ)) → x ≡ behind [] x
behind_none (had ns q) = refl
behind_none (refused a p) = refl

behind_more : (before : List ℕ) (n : ℕ) (x : Read (List ℕ)) → behind before (and_then x λ ns q. had (n ∷ ns) q) ≡ behind (before ++ (n ∷ [])) x
behind_more before n (had ns q) = ap (λ (l : List ℕ). had l q) (sym (append_assoc before (n ∷ []) ns))
behind_more before n (refused a p) = refl

numbers_zero : (file : List ℕ) (at : ℕ) → read_numbers 0 file at ≡ had [] at
unfolding read_numbers
numbers_zero file at = refl

module _ (k : ℕ) (file : List ℕ) (at : ℕ) where
  numbers_had : (n next : ℕ) → read_number file at ≡ had n next
      → read_numbers (suc k) file at ≡ and_then (read_numbers k file next) λ ns q. had (n ∷ ns) q
  unfolding read_numbers
  numbers_had n next e = rw e

  numbers_refused : (answer place : ℕ) → read_number file at ≡ refused answer place → read_numbers (suc k) file at ≡ refused answer place
  unfolding read_numbers
  numbers_refused answer place e = rw e

pub record SoFar (file : List ℕ) (at count : ℕ) (list : List ℕ) (place i : ℕ) : Type 0 where
  pub within : i ≤ count
  pub size : length list ≡ ends_most
  pub inside : place ≤ length file
  pub left : read_numbers count file at ≡ behind (take i list) (read_numbers (count - i) file place)

pub begun : (file : List ℕ) (at count : ℕ) (list : List ℕ) → at ≤ length file → length list ≡ ends_most → SoFar file at count list at 0
begun file at count list h e =
    record {
      within = omega arith;
      size = e;
      inside = h;
      left = ap (λ (k : ℕ). read_numbers k file at) (sym (sub-zero count)) ∙ behind_none (read_numbers (count - 0) file at);
    }

module _ (file : List ℕ) (at count : ℕ) (list : List ℕ) (place i : ℕ) (s : SoFar file at count list place i) where
  module _ (h : i < count) where
    fewer : count - i ≡ suc (count - (i + 1))
    fewer = omega arith

    pub one_more : (n next : ℕ) → count ≤ ends_most → read_number file place ≡ had n next → SoFar file at count (set list i n) next (i + 1)
    one_more n next m e =
        let longer : take (i + 1) (set list i n) ≡ take i list ++ (n ∷ []) =
        ap (λ (k : ℕ). take k (set list i n)) (add-one i) ∙ take-suc-set list i n (omega (arith, s.size)) in
        record {
          within = omega arith;
          size = length-set list i n ∙ s.size;
          inside = (number_moves file place n next e).1;
          left = s.left
              ∙ ap (λ (k : ℕ). behind (take i list) (read_numbers k file place)) fewer
              ∙ ap (behind (take i list)) (numbers_had (count - (i + 1)) file place n next e)
              ∙ behind_more (take i list) n (read_numbers (count - (i + 1)) file next)
              ∙ ap (λ (l : List ℕ). behind l (read_numbers (count - (i + 1)) file next)) (sym longer);
        }

    pub cut_off : read_number file place ≡ refused answers.spoilt place → read_numbers count file at ≡ refused answers.spoilt place
    cut_off e =
        s.left
        ∙ ap (λ (k : ℕ). behind (take i list) (read_numbers k file place)) fewer
        ∙ ap (behind (take i list)) (numbers_refused (count - (i + 1)) file place answers.spoilt place e)

  pub all_read : count ≤ i → read_numbers count file at ≡ had (take count list) place
  all_read h =
      let none : count - i ≡ 0 = omega arith in
      let same : i ≡ count = omega (arith, s.within) in
      s.left
      ∙ ap (λ (k : ℕ). behind (take i list) (read_numbers k file place)) none
      ∙ ap (behind (take i list)) (numbers_zero file place)
      ∙ ap (λ (l : List ℕ). had l place) (append-nil (take i list) ∙ ap (λ (k : ℕ). take k list) same)
