-- How long each line of the program's text can be. Assumes nothing.
use Prim.Native.Nat.{ℕ, zero, suc, ◌+◌, ◌*◌, ◌≤◌, ◌<◌}
use native.Mathlib.Omega.{arith}
use mathlib.Core.Path.{◌≡◌, refl}
use mathlib.Core.Bool.{true}
use mathlib.Core.List.{List, [], ◌∷◌}
use mathlib.Core.Option.{Option, none, some}
use lib.ListN.{length, length-append}
use Rattle.model.specs.declared.Handled.{Handled}
use Rattle.model.specs.declared.Handled.TheVariants.{Packet, Nothing}
use Rattle.model.specs.declared.Went.{Went}
use Rattle.model.specs.declared.Went.TheVariants.{Lane, Delivered, Lost, Stranded, Nowhere}
use Rattle.model.specs.Limits.{ends_most, events_most, file_most, line_most}
use Rattle.model.specs.Answers as answers
use Rattle.model.specs.Below.{tab}
use Rattle.model.specs.State.{State}
use Rattle.model.specs.Formed.{well_formed}
use Rattle.model.specs.Outcome.{Outcome}
use Rattle.model.specs.Text.{ascii, digits, spaced, line, handled_word, went_word, event_line, spoilt_line, total_line, turns_line, refused_line}
use Rattle.model.specs.Promises.{InRange}
use Rattle.model.proofs.Format.{sizes_small}
use Rattle.model.proofs.Formed.{Formed, formed_if}
use Rattle.model.proofs.Digits.{tens, digits_length}

-- ---- words in a line
spaced_nil : length (spaced []) ≡ 1
unfolding spaced ascii
spaced_nil = refl

spaced_cons : (w : List ℕ) (ws : List (List ℕ)) → length (spaced (w ∷ ws)) ≡ 1 + length w + length (spaced ws)
unfolding spaced ascii
spaced_cons w ws = omega (arith, length-append w (spaced ws))

line_length : (word : List ℕ) (words : List (List ℕ)) → length (line word words) ≡ length word + length (spaced words)
unfolding line
line_length word words = length-append word (spaced words)

-- as many words of so many letters at most
spaced_tab : (f : ℕ → List ℕ) (n k : ℕ) → ((i : ℕ) → i < n → length (f i) ≤ k) → length (spaced (tab f n)) ≤ n * suc k + 1
unfolding tab
spaced_tab f zero k h = omega (arith, spaced_nil)
spaced_tab f (suc n) k h =
    omega (arith, spaced_cons (f 0) (tab (λ i. f (suc i)) n), h 0 (omega arith), spaced_tab (λ i. f (suc i)) n k (λ i l. h (suc i) (omega arith)))

line_two : (word a b : List ℕ) → length (line word (a ∷ b ∷ [])) ≡ length word + length a + length b + 3
line_two word a b = omega (arith, line_length word (a ∷ b ∷ []), spaced_cons a (b ∷ []), spaced_cons b [], spaced_nil)

-- ---- an event's line
handled_length : (h : Handled) → ((n : ℕ) → h ≡ Packet n → n < events_most) → length (handled_word h) ≤ 6
unfolding ascii
handled_length (Packet n) below = digits_length 5 n (omega (arith, below n refl))
handled_length Nothing below = omega arith

went_length : (w : Went) → ((x : ℕ) → w ≡ Lane x → x < ends_most) → length (went_word w) ≤ 4
unfolding ascii
went_length (Lane x) below = omega (arith, digits_length 2 x (omega (arith, below x refl)))
went_length Delivered below = omega arith
went_length Lost below = omega arith
went_length Stranded below = omega arith
went_length Nowhere below = omega arith

pub event_line_lem : (s : State) (ordinal : ℕ) (o : Outcome) → InRange s o → ordinal < tens 5 → length (event_line ordinal o) ≤ line_most
event_line_lem s ordinal o r h =
    let answer = digits o.answer in
    let handled = handled_word o.handled in
    let went = went_word o.went in
    omega (
      arith,
      line_length (digits ordinal) (answer ∷ handled ∷ went ∷ []),
      spaced_cons answer (handled ∷ went ∷ []),
      spaced_cons handled (went ∷ []),
      spaced_cons went [],
      spaced_nil,
      digits_length 4 ordinal h,
      digits_length 1 o.answer (omega (arith, r.answer)),
      handled_length o.handled r.packet,
      went_length o.went (λ x e. omega (arith, r.lane x e, r.few_lanes)),
    )

-- ---- the lines behind the events, and the one for a refused header
placed_line : (word : List ℕ) (answer place : ℕ) → answer ≤ answers.spoilt → place ≤ file_most
    → length (line word (digits answer ∷ digits place ∷ [])) ≤ length word + 10
placed_line word answer place a p =
    omega (arith, line_two word (digits answer) (digits place), digits_length 1 answer (omega arith), digits_length 4 place (omega arith))

pub spoilt_line_lem : (o : Option ℕ) → ((n : ℕ) → o ≡ some n → n ≤ file_most) → length (spoilt_line o) ≤ 16
unfolding ascii
spoilt_line_lem none h = omega arith
spoilt_line_lem (some n) h = omega (arith, placed_line (ascii "spoilt") answers.spoilt n (omega arith) (h n refl))

pub refused_line_lem : (answer place : ℕ) → answer ≤ answers.spoilt → place ≤ file_most → length (refused_line answer place) ≤ 17
unfolding ascii
refused_line_lem answer place a p = placed_line (ascii "refused") answer place a p

module _ (s : State) (w : well_formed s ≡ true) where
  abbrev formed : Formed 0 0 s
  formed = formed_if s w

  -- a number that events count has seven digits at most
  counted_length : (n : ℕ) → n ≤ s.counts.events → length (digits n) ≤ 7
  counted_length n h = digits_length 6 n (omega (arith, formed.within))

  pub total_line_lem : length (total_line s) ≤ 46
  unfolding ascii
  total_line_lem =
      let c = s.counts in
      let admitted = digits c.admitted in
      let delivered = digits c.delivered in
      let lost = digits c.lost in
      let stranded = digits c.stranded in
      let flying = digits (length s.flight) in
      omega (
        arith,
        line_length (ascii "total") (admitted ∷ delivered ∷ lost ∷ stranded ∷ flying ∷ []),
        spaced_cons admitted (delivered ∷ lost ∷ stranded ∷ flying ∷ []),
        spaced_cons delivered (lost ∷ stranded ∷ flying ∷ []),
        spaced_cons lost (stranded ∷ flying ∷ []),
        spaced_cons stranded (flying ∷ []),
        spaced_cons flying [],
        spaced_nil,
        counted_length c.admitted formed.fewer,
        counted_length c.delivered (omega (arith, formed.fewer, formed.sum)),
        counted_length c.lost (omega (arith, formed.fewer, formed.sum)),
        counted_length c.stranded (omega (arith, formed.fewer, formed.sum)),
        counted_length (length s.flight) (omega (arith, formed.fewer, formed.sum)),
      )

  pub turns_line_lem : length (turns_line s) ≤ 518
  unfolding ascii
  turns_line_lem =
      let sizes = sizes_small s.net.nodes s.net.destination s.net.links formed.net.sizes in
      let words = spaced_tab (λ v. digits (s.turns v)) s.net.nodes 7 (λ v i. counted_length (s.turns v) (omega (arith, formed.turned v i))) in
      omega (arith, line_length (ascii "turns") (tab (λ v. digits (s.turns v)) s.net.nodes), words, sizes.0)
