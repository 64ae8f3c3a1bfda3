-- Calls one after the other: the state, and what each gave, after the first i. Assumes nothing.
use Prim.Native.Nat.{ℕ, zero, suc, ◌+◌, ◌≤◌, ◌<◌}
use native.Mathlib.Omega.{arith}
use native.Mathlib.Numerals.{add-one}
use mathlib.Core.Path.{◌≡◌, refl, sym, ap, ◌∙◌, subst}
use mathlib.Core.Logic.{inl, inr}
use mathlib.Core.Bool.{false}
use mathlib.Core.List.{List, [], ◌∷◌}
use lib.Dec.{ltb}
use lib.ListN.{length, get_or, set, drop, length-set, get_or-append}
use borrow.Author.Tests.{ltb-true, ltb-false}
use Rattle.model.specs.declared.Handled.{Handled}
use Rattle.model.specs.declared.Went.{Went}
use Rattle.model.specs.Below.{tab}
use Rattle.model.specs.State.{State}
use Rattle.model.specs.Formed.{well_formed}
use Rattle.model.specs.Outcome.{Outcome}
use Rattle.model.proofs.Below.{look, tab_at}
use Rattle.arrays.proofs.Below.{length-tab}
use Rattle.steps.specs.Call.{call}
use Rattle.notes.specs.Bursts.{calls, call_at, packet_code, way_code, least, filled, Lists}
use Rattle.steps.proofs.Calls.{call_keeps, call_not_formed}

-- one entry more
pub fills : (f : ℕ → ℕ) (k : ℕ) (xs : List ℕ) → k < length xs → set (filled f k xs) k (f k) ≡ filled f (suc k) xs
unfolding tab
fills f k [] h = absurd (omega arith)
fills f zero (x ∷ xs) h = refl
fills f (suc k) (x ∷ xs) h = ap (λ l. f 0 ∷ l) (fills (λ j. f (suc j)) k xs (omega arith))

-- an entry that was filled
pub filled_at : (f : ℕ → ℕ) (k : ℕ) (xs : List ℕ) (i : ℕ) → i < k → get_or (filled f k xs) i 0 ≡ f i
filled_at f k xs i h =
    let long = length-tab f k in
    get_or-append (tab f k) (drop k xs) 0 i (omega arith) ∙ tab_at 0 f k i h

module _ (s : State) (kinds arguments : List ℕ) where
  -- a record that is well formed stays so, and any other stays as it is
  pub calls_keep : (k : ℕ) → well_formed (calls s kinds arguments k) ≡ well_formed s
  unfolding calls
  calls_keep zero = refl
  calls_keep (suc k) = call_keeps (calls s kinds arguments k) (get_or kinds k 0) (get_or arguments k 0) ∙ calls_keep k

  pub calls_same : well_formed s ≡ false → (k : ℕ) → s ≡ calls s kinds arguments k
  unfolding calls
  calls_same h zero = refl
  calls_same h (suc k) =
      calls_same h k ∙ ap (λ o. o.state) (call_not_formed (calls s kinds arguments k) (get_or kinds k 0) (get_or arguments k 0) (calls_keep k ∙ h))

  module _ (answers₀ packets₀ ways₀ : List ℕ) where
    pub record Ran (i : ℕ) (left : State) (answers packets ways : List ℕ) : Type 0 where
      pub state : left ≡ calls s kinds arguments i
      pub lists : Lists s kinds arguments i answers₀ packets₀ ways₀ answers packets ways
      pub answers_long : length answers ≡ length answers₀
      pub packets_long : length packets ≡ length packets₀
      pub ways_long : length ways ≡ length ways₀

    pub ran_none : Ran 0 s answers₀ packets₀ ways₀
    unfolding calls tab
    ran_none = record {
      state = refl;
      lists = record { answered = refl; handled = refl; went = refl };
      answers_long = refl;
      packets_long = refl;
      ways_long = refl;
    }

    pub ran_more : (i : ℕ) (left next : State) (answers packets ways answers' packets' ways' : List ℕ) (answer : ℕ) (h : Handled) (w : Went)
        → Ran i left answers packets ways
        → record { state = next; answer = answer; handled = h; went = w } ≡ call left (get_or kinds i 0) (get_or arguments i 0)
        → answers' ≡ set answers i answer → packets' ≡ set packets i (packet_code h) → ways' ≡ set ways i (way_code w)
        → i < length answers₀ → i < length packets₀ → i < length ways₀ → Ran (i + 1) next answers' packets' ways'
    unfolding calls
    ran_more i left next answers packets ways answers' packets' ways' answer h w r e a p q la lp lw =
        let o = e ∙ ap (λ (z : State). call z (get_or kinds i 0) (get_or arguments i 0)) r.state in
        record {
          state = ap (λ (z : Outcome). z.state) o ∙ ap (calls s kinds arguments) (sym (add-one i));
          lists = record {
            answered = a ∙ stored (λ j. (call_at s kinds arguments j).answer) i answers₀ answers answer la r.lists.answered (ap (λ (z : Outcome). z.answer) o);
            handled = p ∙ stored (λ j. packet_code (call_at s kinds arguments j).handled) i packets₀ packets (packet_code h) lp r.lists.handled (ap (λ (z : Outcome). packet_code z.handled) o);
            went = q ∙ stored (λ j. way_code (call_at s kinds arguments j).went) i ways₀ ways (way_code w) lw r.lists.went (ap (λ (z : Outcome). way_code z.went) o);
          };
          answers_long = ap length a ∙ length-set answers i answer ∙ r.answers_long;
          packets_long = ap length p ∙ length-set packets i (packet_code h) ∙ r.packets_long;
          ways_long = ap length q ∙ length-set ways i (way_code w) ∙ r.ways_long;
        }
      where
        stored : (f : ℕ → ℕ) (k : ℕ) (xs ys : List ℕ) (v : ℕ) → k < length xs → ys ≡ filled f k xs → v ≡ f k → set ys k v ≡ filled f (k + 1) xs
        stored f k xs ys v l a b = rw (a, b, add-one) (fills f k xs l)

least_le : (a b : ℕ) → (least a b ≤ a) × (least a b ≤ b)
least_le a b = elim (look (ltb a b)) [
  | inl e ↦ rw e (omega arith, omega (arith, ltb-true a b e))
  | inr e ↦ rw e (ltb-false a b e, omega arith)
]

pub record Shortest (n a b c d e : ℕ) : Type 0 where
  pub first : n ≤ a
  pub second : n ≤ b
  pub third : n ≤ c
  pub fourth : n ≤ d
  pub fifth : n ≤ e

pub shortest_is : (n a b c d e : ℕ) → n ≡ least a (least b (least c (least d e))) → Shortest n a b c d e
shortest_is n a b c d e h =
    let x = least_le d e in
    let y = least_le c (least d e) in
    let z = least_le b (least c (least d e)) in
    let w = least_le a (least b (least c (least d e))) in
    record {
      first = omega (arith, h, w.0);
      second = omega (arith, h, w.1, z.0);
      third = omega (arith, h, w.1, z.1, y.0);
      fourth = omega (arith, h, w.1, z.1, y.1, x.0);
      fifth = omega (arith, h, w.1, z.1, y.1, x.1);
    }

-- what was given, said of an equal state
pub given_by : {s s' : State} {kinds arguments : List ℕ} {k : ℕ} {an ps ws an' ps' ws' : List ℕ} → s ≡ s'
    → Lists s kinds arguments k an ps ws an' ps' ws' → Lists s' kinds arguments k an ps ws an' ps' ws'
given_by {kinds = kinds} {arguments = arguments} {k = k} {an = an} {ps = ps} {ws = ws} {an' = an'} {ps' = ps'} {ws' = ws'} e l =
    subst (λ (s : State). Lists s kinds arguments k an ps ws an' ps' ws') e l
