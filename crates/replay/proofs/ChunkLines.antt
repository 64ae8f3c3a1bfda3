-- The lines of a chunk: by codes, by calls, by events. Assumes nothing.
use Prim.Native.Nat.{ℕ, zero, suc, ◌+◌, ◌-◌, ◌≤◌, ◌<◌}
use native.Mathlib.Omega.{arith}
use mathlib.Core.Path.{◌≡◌, refl, sym, ap, ap₂, ◌∙◌}
use mathlib.Core.Logic.{inl, inr}
use mathlib.Core.Bool.{true}
use mathlib.Core.List.{List, [], ◌∷◌, ◌++◌}
use mathlib.Core.Option.{Option, none, some}
use lib.Dec.{ltb, leb}
use lib.ListN.{get_or}
use borrow.Author.Tests.{lt-ltb, ltb-false, ne_eqb}
use Rattle.model.specs.declared.Handled.{Handled}
use Rattle.model.specs.declared.Handled.TheVariants as handled
use Rattle.model.specs.declared.Went.{Went}
use Rattle.model.specs.declared.Went.TheVariants as went
use Rattle.model.specs.Limits.{ends_most, events_most}
use Rattle.model.specs.State.{State}
use Rattle.model.specs.Formed.{well_formed}
use Rattle.model.specs.Outcome.{Outcome, accepting}
use Rattle.model.specs.Events.{Event}
use Rattle.model.specs.File.{of_kind}
use Rattle.model.specs.Text.{digits, handled_word, went_word, line, event_line}
use Rattle.model.specs.Promises.{InRange}
use Rattle.model.proofs.Below.{look}
use Rattle.model.proofs.Numbers.{never}
use Rattle.model.proofs.Named.{few_lanes, named}
use Rattle.steps.specs.Call.{made, call}
use Rattle.notes.specs.Bursts.{calls, call_at, packet_code, way_code, least, Lists}
use Rattle.notes.proofs.Bursts.{filled_at, calls_keep}
use Rattle.letters.specs.declared.page.Page.{Page}
use Rattle.letters.specs.Puts.{Room, Put}
use Rattle.letters.specs.Digits.{joined}
use Rattle.lines.specs.Codes.{packet_word, way_word, code_line}
use Rattle.replay.specs.ChunkLines.{code_lines, call_lines}
use Rattle.letters.proofs.Pending.{Pending, say, room, step}

-- ---- what a code says
packet_said : (h : Handled) → ((n : ℕ) → h ≡ handled.Packet n → n < events_most) → packet_word (packet_code h) ≡ handled_word h
unfolding packet_word
packet_said (handled.Packet n) below = rw (ne_eqb n events_most (λ e. omega (arith, below n refl, e)))
packet_said handled.Nothing below = refl

way_said : (w : Went) → ((x : ℕ) → w ≡ went.Lane x → x < ends_most) → way_word (way_code w) ≡ went_word w
unfolding way_word
way_said (went.Lane x) below = rw (lt-ltb x ends_most (below x refl))
way_said went.Delivered below = refl
way_said went.Lost below = refl
way_said went.Stranded below = refl
way_said went.Nowhere below = refl

line_said : (s : State) (ordinal : ℕ) (o : Outcome) → InRange s o
    → code_line ordinal o.answer (packet_code o.handled) (way_code o.went) ≡ event_line ordinal o
line_said s ordinal o r =
    ap₂ (λ p w. line (digits ordinal) (digits o.answer ∷ p ∷ w ∷ [])) (packet_said o.handled r.packet)
    (way_said o.went (λ x e. omega (arith, r.lane x e, r.few_lanes)))

-- ---- a call's numbers are in range
kind_in_range : (s : State) → well_formed s ≡ true → (m : Option (ℕ → Event)) (a : ℕ) → InRange s (made s m a)
unfolding accepting
kind_in_range s w none a = elim (look (leb events_most s.counts.events)) [
  | inl e ↦ rw (w, e) (record { answer = omega arith; packet = λ n q. never cc; lane = λ x q. never cc; few_lanes = few_lanes s w })
  | inr e ↦ rw (w, e) (record { answer = omega arith; packet = λ n q. never cc; lane = λ x q. never cc; few_lanes = few_lanes s w })
]
kind_in_range s w (some make) a = named.one s (make a) w

call_in_range : (s : State) (k a : ℕ) → well_formed s ≡ true → InRange s (call s k a)
unfolding call
call_in_range s k a w = kind_in_range s w (of_kind k) a

-- ---- the burst's lists
same_line : (ordinal : ℕ) {a b p q w v : ℕ} → a ≡ b → p ≡ q → w ≡ v → code_line ordinal a p w ≡ code_line ordinal b q v
same_line ordinal x y z = rw (x, y, z)

module _ (s : State) (kinds arguments : List ℕ) where
  module _ (w : well_formed s ≡ true) (count : ℕ) (answers packets ways answers' packets' ways' : List ℕ)
      (g : Lists s kinds arguments count answers packets ways answers' packets' ways') where
    line_is : (ordinal i : ℕ) → i < count
        → code_line ordinal (get_or answers' i 0) (get_or packets' i 0) (get_or ways' i 0) ≡ event_line ordinal (call_at s kinds arguments i)
    line_is ordinal i h =
        let o = call_at s kinds arguments i in
        let t = calls s kinds arguments i in
        same_line ordinal
        (ap (λ l. get_or l i 0) g.answered ∙ filled_at (λ j. (call_at s kinds arguments j).answer) count answers i h)
        (ap (λ l. get_or l i 0) g.handled ∙ filled_at (λ j. packet_code (call_at s kinds arguments j).handled) count packets i h)
        (ap (λ l. get_or l i 0) g.went ∙ filled_at (λ j. way_code (call_at s kinds arguments j).went) count ways i h)
        ∙ line_said t ordinal o (call_in_range t (get_or kinds i 0) (get_or arguments i 0) (calls_keep s kinds arguments i ∙ w))

    pub lines_are : (k ordinal i : ℕ) → i + k ≤ count
        → call_lines s kinds arguments ordinal i k ≡ code_lines answers' packets' ways' ordinal i k
    unfolding code_lines call_lines
    lines_are zero ordinal i h = refl
    lines_are (suc k) ordinal i h =
        ap₂ (λ x y. x ++ y) (sym (line_is ordinal i (omega arith))) (lines_are k (suc ordinal) (suc i) (omega arith))

-- as many calls as there are kinds
least_left : (a b : ℕ) → a ≤ b → least a b ≡ a
least_left a b h = elim (look (ltb a b)) [
  | inl e ↦ rw e
  | inr e ↦ rw e (omega (arith, ltb-false a b e))
]

least_over : (k a b : ℕ) → k ≤ a → k ≤ b → k ≤ least a b
least_over k a b p q = elim (look (ltb a b)) [
  | inl e ↦ rw e p
  | inr e ↦ rw e q
]

pub shortest_first : (k b c d e : ℕ) → k ≤ b → k ≤ c → k ≤ d → k ≤ e → least k (least b (least c (least d e))) ≡ k
shortest_first k b c d e p q r s =
    least_left k (least b (least c (least d e)))
    (least_over k b (least c (least d e)) p (least_over k c (least d e) q (least_over k d e r s)))

-- ---- lines one after the other
module _ (answers packets ways : List ℕ) where
  lines_more : (thousands rest i n : ℕ) → i < n
      → code_lines answers packets ways (joined thousands rest + i) i (n - i)
      ≡ code_line (joined thousands (rest + i)) (get_or answers i 0) (get_or packets i 0) (get_or ways i 0)
      ++ code_lines answers packets ways (joined thousands rest + (i + 1)) (i + 1) (n - (i + 1))
  unfolding code_lines
  lines_more thousands rest i n h =
      let ordinal = joined thousands rest in
      let e : n - i ≡ suc (n - (i + 1)) = omega arith in
      let o : ordinal + i ≡ joined thousands (rest + i) = omega arith in
      let p : suc (ordinal + i) ≡ ordinal + (i + 1) = omega arith in
      let q : suc i ≡ i + 1 = omega arith in
      ap (code_lines answers packets ways (ordinal + i) i) e
      ∙ ap₂ (λ x y. code_line (ordinal + i) (get_or answers i 0) (get_or packets i 0) (get_or ways i 0) ++ code_lines answers packets ways x y (n - (i + 1))) p q
      ∙ ap (λ x. code_line x (get_or answers i 0) (get_or packets i 0) (get_or ways i 0) ++ code_lines answers packets ways (ordinal + (i + 1)) (i + 1) (n - (i + 1))) o

  pub lines_none : (ordinal i n : ℕ) → n ≤ i → code_lines answers packets ways (ordinal + i) i (n - i) ≡ []
  unfolding code_lines
  lines_none ordinal i n h =
      let e : n - i ≡ 0 = omega arith in
      ap (code_lines answers packets ways (ordinal + i) i) e

  pub lines_all : (ordinal n : ℕ) → code_lines answers packets ways ordinal 0 n ≡ code_lines answers packets ways (ordinal + 0) 0 (n - 0)
  lines_all ordinal n =
      let p : ordinal ≡ ordinal + 0 = omega arith in
      let q : n ≡ n - 0 = omega arith in
      ap₂ (λ x y. code_lines answers packets ways x 0 y) p q

-- ---- a line written, the others left
module _ (answers packets ways : List ℕ) (thousands rest i n : ℕ) (h : i < n) {l out : Page} {whole : List ℕ}
    (p : Pending l whole out (code_lines answers packets ways (joined thousands rest + i) i (n - i))) where
  abbrev this : List ℕ
  this = code_line (joined thousands (rest + i)) (get_or answers i 0) (get_or packets i 0) (get_or ways i 0)

  abbrev others : List ℕ
  others = code_lines answers packets ways (joined thousands rest + (i + 1)) (i + 1) (n - (i + 1))

  pub room_line : Room out this
  room_line = room this others (say (lines_more answers packets ways thousands rest i n h) p)

  pub step_line : {r : Page} → Put out this r → Pending l whole r others
  step_line q = step this others (say (lines_more answers packets ways thousands rest i n h) p) q
