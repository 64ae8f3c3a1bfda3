-- Bursts whose calls are refused: those on a record that is not well formed, with 1, and any others. Assumes nothing.
use Prim.Native.Nat.{ℕ, zero, suc, ◌+◌, ◌≤◌, ◌<◌}
use native.Mathlib.Omega.{arith}
use mathlib.Core.Path.{◌≡◌, refl, sym, ap, ◌∙◌}
use mathlib.Core.Bool.{false}
use mathlib.Core.List.{List, ◌++◌}
use lib.Dec.{eqb}
use lib.ListN.{length, get_or, take, drop, replicate}
use lib.Seq.{length-take-le}
use borrow.Author.Tests.{eq-eqb, ne_eqb}
use Rattle.model.specs.Limits.{ends_most, events_most}
use Rattle.model.specs.Below.{any}
use Rattle.model.specs.State.{State}
use Rattle.model.specs.Formed.{well_formed}
use Rattle.model.specs.Outcome.{Outcome, refuse}
use Rattle.model.specs.Answers as answers
use Rattle.model.proofs.Below.{clash, any_false}
use Rattle.arrays.proofs.Below.{tab_same, tab_replicate, any_never}
use Rattle.steps.proofs.Calls.{call_not_formed, call_refused}
use Rattle.notes.specs.Bursts.{calls, call_at, packet_code, way_code, filled, Lists}
use Rattle.notes.proofs.Bursts.{filled_at, calls_keep}

-- the first k entries of a list become one value, the others stay
pub filled_one : (v k : ℕ) (xs ys : List ℕ) → k ≤ length xs → ys ≡ replicate (length (take k xs)) v → ys ++ drop k xs ≡ filled (λ i. v) k xs
filled_one v k xs ys h e =
    let n : length (take k xs) ≡ k = length-take-le k xs h in
    ap (λ l. l ++ drop k xs) (e ∙ ap (λ m. replicate m v) n ∙ tab_replicate v k)

filled_same : (f g : ℕ → ℕ) (k : ℕ) (xs : List ℕ) → ((i : ℕ) → f i ≡ g i) → filled f k xs ≡ filled g k xs
filled_same f g k xs h = ap (λ l. l ++ drop k xs) (tab_same f g k (λ i l. h i))

module _ (s : State) (kinds arguments : List ℕ) (h : well_formed s ≡ false) where
  refused : (i : ℕ) → refuse (calls s kinds arguments i) answers.not_formed ≡ call_at s kinds arguments i
  refused i = call_not_formed (calls s kinds arguments i) (get_or kinds i 0) (get_or arguments i 0) (calls_keep s kinds arguments i ∙ h)

  pub all_refused : (k : ℕ) (an ps ws an' ps' ws' : List ℕ) → an' ≡ filled (λ i. 1) k an → ps' ≡ filled (λ i. events_most) k ps
      → ws' ≡ filled (λ i. ends_most + 3) k ws → Lists s kinds arguments k an ps ws an' ps' ws'
  all_refused k an ps ws an' ps' ws' a p w =
      record {
        answered = a ∙ filled_same (λ i. 1) (λ i. (call_at s kinds arguments i).answer) k an (λ i. ap (λ (o : Outcome). o.answer) (refused i));
        handled = p ∙ filled_same (λ i. events_most) (λ i. packet_code (call_at s kinds arguments i).handled) k ps (λ i. ap (λ (o : Outcome). packet_code o.handled) (refused i));
        went = w ∙ filled_same (λ i. ends_most + 3) (λ i. way_code (call_at s kinds arguments i).went) k ws (λ i. ap (λ (o : Outcome). way_code o.went) (refused i));
      }

-- ---- every call refused, for whatever reason
module _ (s : State) (kinds arguments : List ℕ) where
  pub calls_refused : (k : ℕ) → ((i : ℕ) → i < k → (call_at s kinds arguments i).answer ≡ answers.done → ⊥) → s ≡ calls s kinds arguments k
  unfolding calls
  calls_refused zero h = refl
  calls_refused (suc k) h =
      calls_refused k (λ i l. h i (omega arith))
      ∙ sym (call_refused (calls s kinds arguments k) (get_or kinds k 0) (get_or arguments k 0) (h k (omega arith)))

  -- the answers tell it
  module _ (k : ℕ) (an : List ℕ) {an' : List ℕ} (e : an' ≡ filled (λ i. (call_at s kinds arguments i).answer) k an) where
    answer_at : (i : ℕ) → i < k → get_or an' i 0 ≡ (call_at s kinds arguments i).answer
    answer_at i h = ap (λ l. get_or l i 0) e ∙ filled_at (λ j. (call_at s kinds arguments j).answer) k an i h

    pub none_done : any (λ i. eqb (get_or an' i 0) 0) k ≡ false → (i : ℕ) → i < k → (call_at s kinds arguments i).answer ≡ answers.done → ⊥
    none_done n i h z = clash (eq-eqb (get_or an' i 0) 0 (answer_at i h ∙ z)) (any_false (λ j. eqb (get_or an' j 0) 0) k i n h)

    pub done_none : ((i : ℕ) → i < k → (call_at s kinds arguments i).answer ≡ answers.done → ⊥) → any (λ i. eqb (get_or an' i 0) 0) k ≡ false
    done_none r = any_never (λ j. eqb (get_or an' j 0) 0) k (λ i h. ne_eqb (get_or an' i 0) 0 (λ z. r i h (sym (answer_at i h) ∙ z)))
