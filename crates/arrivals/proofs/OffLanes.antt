-- The oldest packet of a lane: the refusals, what the packets tell of it, and what it is to have taken it. Assumes nothing.
use Prim.Native.Nat.{ℕ, ◌+◌, ◌*◌, ◌/◌, ◌≤◌, ◌<◌}
use native.Mathlib.Omega.{arith}
use mathlib.Core.Path.{◌≡◌, refl, sym, ap, ◌∙◌}
use mathlib.Core.Bool.{Bool, true, false}
use mathlib.Core.Logic.{inl, inr}
use mathlib.Core.List.{List, [], ◌∷◌}
use lib.Dec.{leb}
use lib.ListN.{length, get_or}
use borrow.Author.Tests.{le-leb, lt-leb, leb-true, leb-false, ne_eqb}
use Rattle.model.specs.declared.Handled.TheVariants as handled
use Rattle.model.specs.declared.Went.TheVariants as went
use Rattle.model.specs.Limits.{events_most}
use Rattle.model.specs.Answers as answers
use Rattle.model.specs.State.{State, Packet, lanes, live, whole}
use Rattle.model.specs.Formed.{well_formed}
use Rattle.model.specs.Outcome.{Outcome, refuse, accepting, gives}
use Rattle.model.specs.Lanes.{on_lane, less, taken, off_lane}
use Rattle.model.proofs.Below.{look}
use Rattle.model.proofs.Ends.{live_whole}
use Rattle.model.proofs.Lanes.{less_length}
use Rattle.std.specs.Prelude.{Option, None, Some, Ok, Err}
use Rattle.arrays.specs.declared.record.Plan.{Plan}
use Rattle.arrays.specs.declared.record.Arrows.{Arrows}
use Rattle.arrays.specs.declared.record.Tally.{Tally}
use Rattle.arrays.specs.declared.Oldest.{Oldest}
use Rattle.arrays.specs.declared.Told.{Told}
use Rattle.arrays.specs.View.{used, shown}
use Rattle.arrays.specs.Told.{oldest_in, without, passed}
use Rattle.arrays.proofs.Below.{used_in}
use Rattle.departs.specs.declared.tally.Step.{Step}
use Rattle.arrivals.specs.Lanes.{or_empty, first_on}
use Rattle.departs.specs.Steps.{outcome_of}

module _ (s : State) (x : ℕ) (f : Packet → Outcome) (formed : well_formed s ≡ true) (room : s.counts.events < events_most) where
  off_no_such : lanes s ≤ x → refuse s answers.no_such ≡ off_lane s x f
  unfolding off_lane accepting
  off_no_such h = rw (formed, lt-leb events_most s.counts.events room, le-leb (lanes s) x h)

  module _ (inside : x < lanes s) where
    pub off_down : live s x ≡ false → refuse s answers.link_down ≡ off_lane s x f
    unfolding off_lane accepting whole
    off_down e = rw (formed, lt-leb events_most s.counts.events room, lt-leb (lanes s) x inside, e)

    module _ (up : live s x ≡ true) where
      pub off_empty : on_lane x s.flight ≡ [] → refuse s answers.lane_empty ≡ off_lane s x f
      unfolding off_lane accepting
      off_empty e = rw (formed, lt-leb events_most s.counts.events room, lt-leb (lanes s) x inside, live_whole s x up, e)

      pub off_oldest : {p : Packet} {ps : List Packet} → on_lane x s.flight ≡ p ∷ ps → f p ≡ off_lane s x f
      unfolding off_lane accepting
      off_oldest e = rw (formed, lt-leb events_most s.counts.events room, lt-leb (lanes s) x inside, live_whole s x up, e)

-- ---- what the packets of a lane tell
-- told of none, there is none
pub told_none : (ps : List Packet) {t : Told} → t ≡ oldest_in ps → t.oldest ≡ None → ps ≡ []
told_none [] e h = refl
told_none (p ∷ ps) e h = let z = ap (λ (t : Told). t.oldest) e in cc

-- what is told is true of the oldest
pub record First (ps : List Packet) (o : Oldest) : Type 0 where
  pub packet : Packet
  pub rest : List Packet
  pub first : ps ≡ packet ∷ rest
  pub number : o.number ≡ packet.number
  pub bit : o.bit ≡ packet.bit

pub told_first : (ps : List Packet) {t : Told} {o : Oldest} → t ≡ oldest_in ps → t.oldest ≡ Some o → First ps o
told_first [] e h = let z = ap (λ (t : Told). t.oldest) e in cc
told_first (p ∷ ps) {t} {o} e h =
    let z : Some o ≡ Some (record { number = p.number; bit = p.bit }) = sym h ∙ ap (λ (t : Told). t.oldest) e in
    let q : o ≡ record { number = p.number; bit = p.bit } = cc in
    record { packet = p; rest = ps; first = refl; number = ap (λ (o : Oldest). o.number) q; bit = ap (λ (o : Oldest). o.bit) q }

or_empty_ok : (m : Option Oldest) {o : Oldest} → or_empty m ≡ Ok o → m ≡ Some o
or_empty_ok (Some m) e = cc
or_empty_ok None e = cc

or_empty_err : (m : Option Oldest) {answer : ℕ} → or_empty m ≡ Err answer → (m ≡ None) × (answers.lane_empty ≡ answer)
or_empty_err (Some m) e = cc
or_empty_err None e = (refl, cc)

-- ---- the refusals
module _ (p : Plan) (a : Arrows) (x : ℕ) (told : Told) where
  -- the lane is there, its link is live, and it has this packet
  pub record There (o : Oldest) : Type 0 where
    pub inside : x < 2 * p.links
    pub up : get_or a.live (x / 2) false ≡ true
    pub one : told.oldest ≡ Some o

  -- so it is where nothing is refused
  pub is_there : {o : Oldest} → first_on p a x told ≡ Ok o → There o
  unfolding first_on
  is_there {o} e = elim (look (leb (2 * p.links) x)) [
    | inl h ↦ let z = rw h at e in cc
    | inr h ↦ elim (look (get_or a.live (x / 2) false)) [
      | inl u ↦ record { inside = leb-false (2 * p.links) x h; up = u; one = or_empty_ok told.oldest (rw (h, u) at e) }
      | inr d ↦ let z = rw (h, d) at e in cc
    ]
  ]

module _ (p : Plan) (a : Arrows) (x : ℕ) (told : Told) (flight : List Packet) (t : Tally) where
  abbrev S : State
  S = shown p a flight t

  module _ (tells : told ≡ oldest_in (on_lane x flight)) (formed : well_formed S ≡ true) (room : t.events < events_most) (f : Packet → Outcome) where
    is_live : (b : Bool) → x < 2 * p.links → get_or a.live (x / 2) false ≡ b → used p.links false a.live (x / 2) ≡ b
    is_live b h u = used_in p.links false a.live (x / 2) (omega arith) ∙ u

    -- refused for the reason that the search gave
    pub off_refused : {answer : ℕ} → first_on p a x told ≡ Err answer → refuse S answer ≡ off_lane S x f
    unfolding first_on
    off_refused {answer} e = elim (look (leb (2 * p.links) x)) [
      | inl h ↦
          let z = rw h at e in
          let q : answer ≡ answers.no_such = cc in
          ap (refuse S) q ∙ off_no_such S x f formed room (leb-true (2 * p.links) x h)
      | inr h ↦ let inside = leb-false (2 * p.links) x h in elim (look (get_or a.live (x / 2) false)) [
        | inl u ↦
            let z = or_empty_err told.oldest (rw (h, u) at e) in
            ap (refuse S) (sym z.1) ∙ off_empty S x f formed room inside (is_live true inside u) (told_none (on_lane x flight) tells z.0)
        | inr d ↦
            let z = rw (h, d) at e in
            let q : answer ≡ answers.link_down = cc in
            ap (refuse S) q ∙ off_down S x f formed room inside (is_live false inside d)
      ]
    ]

    -- not refused, the oldest packet goes on
    pub off_found : {o : Oldest} → There p a x told o → {q : Packet} {qs : List Packet} → on_lane x flight ≡ q ∷ qs → f q ≡ off_lane S x f
    off_found h e = off_oldest S x f formed room h.inside (is_live true h.inside h.up) e

-- no refusal by the lane is 0
pub refused_not_done : (p : Plan) (a : Arrows) (x : ℕ) (told : Told) {answer : ℕ} → first_on p a x told ≡ Err answer → answer ≡ answers.done → ⊥
unfolding first_on
refused_not_done p a x told {answer} e z = elim (look (leb (2 * p.links) x)) [
  | inl h ↦ let y = rw h at e in let q : answer ≡ answers.no_such = cc in omega (arith, z, q)
  | inr h ↦ elim (look (get_or a.live (x / 2) false)) [
    | inl u ↦ omega (arith, z, (or_empty_err told.oldest (rw (h, u) at e)).1)
    | inr d ↦ let y = rw (h, d) at e in let q : answer ≡ answers.link_down = cc in omega (arith, z, q)
  ]
]

-- a state whose flight has lost the oldest packet of the lane
pub took_is : (p : Plan) (a : Arrows) (flight : List Packet) (t : Tally) (x : ℕ) → shown p a (less x flight) t ≡ taken (shown p a flight t) x
unfolding taken
took_is p a flight t x = refl

-- ---- what an answer takes from the packets
module _ (x : ℕ) (flight : List Packet) {answer : ℕ} where
  without_oldest : answer ≡ answers.done → without answer x flight ≡ less x flight
  without_oldest h = rw h

module _ (p : Plan) (a : Arrows) (flight : List Packet) (x : ℕ) {r : Step} {t : Tally} where
  pub bare_keeps : {answer : ℕ} → r ≡ record { tally = t; answer = answer; handled = handled.Nothing; went = went.Nowhere } → (answer ≡ answers.done → ⊥)
      → outcome_of (shown p a (passed a.local (without r.answer x flight) r.handled r.went) r.tally) r ≡ refuse (shown p a flight t) answer
  bare_keeps {answer} q h = rw (q, ne_eqb answer answers.done h)

  pub done_takes : {n : ℕ} → r ≡ record { tally = t; answer = 0; handled = handled.Packet n; went = went.Lost }
      → outcome_of (shown p a (passed a.local (without r.answer x flight) r.handled r.went) r.tally) r
      ≡ gives (shown p a (less x flight) t) n went.Lost
  done_takes q = rw q

-- ---- how many they are after it
module _ (local : List Bool) (flight : List Packet) {r : Step} {t : Tally} where
  pub bare_long : (x : ℕ) {answer : ℕ} → r ≡ record { tally = t; answer = answer; handled = handled.Nothing; went = went.Nowhere } → (answer ≡ answers.done → ⊥)
      → length flight ≡ t.flying → length (passed local (without r.answer x flight) r.handled r.went) ≡ r.tally.flying
  bare_long x {answer} q h l = rw (q, ne_eqb answer answers.done h) l

  pub lost_long : (x : ℕ) {n : ℕ} {p : Packet} {ps : List Packet} → r ≡ record { tally = t; answer = 0; handled = handled.Packet n; went = went.Lost }
      → on_lane x flight ≡ p ∷ ps → length flight ≡ t.flying + 1 → length (passed local (without r.answer x flight) r.handled r.went) ≡ r.tally.flying
  lost_long x q e l =
      let d : length flight ≡ length (less x flight) + 1 = less_length x flight e in
      let h : length (less x flight) ≡ t.flying = omega (arith, d, l) in
      rw q h

-- an accepted event has taken the oldest packet
module _ (p : Plan) (a : Arrows) (flight : List Packet) (x : ℕ) (r : Step) (h : r.answer ≡ answers.done) where
  pub took_gives : {o : Outcome} → outcome_of (shown p a (passed a.local (less x flight) r.handled r.went) r.tally) r ≡ o
      → outcome_of (shown p a (passed a.local (without r.answer x flight) r.handled r.went) r.tally) r ≡ o
  took_gives e = ap (λ left. outcome_of (shown p a (passed a.local left r.handled r.went) r.tally) r) (without_oldest x flight h) ∙ e

  pub took_long : {k : ℕ} → length (passed a.local (less x flight) r.handled r.went) ≡ k
      → length (passed a.local (without r.answer x flight) r.handled r.went) ≡ k
  took_long e = ap (λ left. length (passed a.local left r.handled r.went)) (without_oldest x flight h) ∙ e

-- what a lane gives rests on the number of links and on the live ones alone
pub first_same : (p q : Plan) (a b : Arrows) (x : ℕ) (t : Told) → p.links ≡ q.links → a.live ≡ b.live → first_on p a x t ≡ first_on q b x t
unfolding first_on
first_same p q a b x t e f = rw (e, f) refl
