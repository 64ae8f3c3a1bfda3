-- Each admitted number stands in exactly one of the four places, the flight is the record's, and the counts are the sizes. Assumes nothing.
use Prim.Native.Nat.{ℕ, ◌+◌, ◌<◌, ◌≤◌}
use native.Mathlib.Omega.{arith}
use native.Mathlib.Nat.{add-zero}
use mathlib.Core.Path.{◌≡◌, refl, sym, ◌∙◌, ap}
use mathlib.Core.Logic.{inl, inr}
use mathlib.Core.Bool.{Bool, true, false, not, cond}
use mathlib.Core.List.{List, [], ◌∷◌, ◌++◌, map, map-append}
use lib.Dec.{ltb, eqb}
use lib.ListN.{length, length-append}
use borrow.Author.Tests.{eqb-true, eqb-false, eq-eqb, ne_eqb, ltb-true, ltb-false, lt-ltb, le-ltb}
use Rattle.model.specs.declared.Went.{Went}
use Rattle.model.specs.declared.Went.TheVariants.{Lane, Delivered, Lost, Stranded, Nowhere}
use Rattle.model.specs.Answers as answers
use Rattle.model.specs.State.{link_of, opp, Packet, State}
use Rattle.model.specs.Departure.{update, door, pass}
use Rattle.model.specs.Outcome.{Outcome, counted, onward}
use Rattle.model.specs.Lanes.{on_lane, less, taken}
use Rattle.model.specs.Fail.{off, cut}
use Rattle.model.specs.Events.{Event, send, deliver, lose, fail}
use Rattle.model.specs.Opening.{opened}
use Rattle.model.specs.History.{History, start, next}
use Rattle.model.specs.Places.{Flying, Places, numbers, those, is_not, is_on, goes, failed_by, placed_by, placed, times, count_in_all, sent_as}
use Rattle.model.specs.Promises.{FourPlaces}
use Rattle.model.proofs.Below.{look}
use Rattle.model.proofs.Opening.{tested, opens_as}
use Rattle.model.proofs.Departure.{update_counts, update_flight}
use Rattle.model.proofs.Steps.{Refused, spoilt, over, none, down, bare, full, astray, Oldest, rest, Step, refused, at_home, strands, sends, comes_home, bounces, goes_on, loses, fails, step}

-- a refused event puts nothing anywhere
refusal : {s : State} {e : Event} {a : ℕ} → Refused s e a → eqb a answers.done ≡ false
refusal (spoilt w) = refl
refusal (over h) = refl
refusal none = refl
refusal down = refl
refusal bare = refl
refusal full = refl
refusal (astray old o n) = refl

none_failed : (p : Places) (e : Event) (a : ℕ) → eqb a answers.done ≡ false → failed_by p e a ≡ p
none_failed p (send v) a q = refl
none_failed p (deliver x) a q = refl
none_failed p (lose x) a q = refl
none_failed p (fail l) a q = rw q

onward_counts : (s : State) (v n : ℕ) → (onward s v n).state.counts ≡ s.counts
unfolding onward pass
onward_counts s v n = update_counts s v

onward_flight : (s : State) (v n : ℕ) → map sent_as (onward s v n).state.flight ≡ map sent_as s.flight ++ (record { number = n; lane = door (update s v) v } ∷ [])
unfolding onward pass
onward_flight s v n =
    map-append sent_as (update s v).flight _
    ∙ ap (λ (ps : List Packet). map sent_as ps ++ (record { number = n; lane = door (update s v) v } ∷ [])) (update_flight s v)

abbrev one : Bool → ℕ
one b = cond b 1 0

one_most : (b : Bool) → one b ≤ 1
one_most true = omega arith
one_most false = omega arith

-- a packet that was handled went somewhere
abbrev Away : Went → Type 0
Away (Lane x) = Unit {0}
Away Delivered = Unit {0}
Away Lost = Unit {0}
Away Stranded = Unit {0}
Away Nowhere = ⊥

-- ---- how often a number stands in flight
module _ (a : ℕ) where
  abbrev held : List Flying → ℕ
  held ps = times a (numbers ps)

  times_append : (xs ys : List ℕ) → times a (xs ++ ys) ≡ times a xs + times a ys
  unfolding times
  times_append [] ys = omega arith
  times_append (x ∷ xs) ys = omega (arith, times_append xs ys)

  times_push : (xs : List ℕ) (n : ℕ) → times a (xs ++ (n ∷ [])) ≡ times a xs + one (eqb n a)
  unfolding times
  times_push xs n = omega (arith, times_append xs (n ∷ []))

  held_push : (ps : List Flying) (p : Flying) → held (ps ++ (p ∷ [])) ≡ held ps + one (eqb p.number a)
  unfolding times
  held_push [] p = omega arith
  held_push (q ∷ ps) p = omega (arith, held_push ps p)

  -- the oldest packet of a lane stands in flight
  held_oldest : (x : ℕ) (ps : List Packet) {p : Packet} {qs : List Packet} → on_lane x ps ≡ p ∷ qs → one (eqb p.number a) ≤ held (map sent_as ps)
  unfolding times on_lane
  held_oldest x [] e = let z : ◌≡◌ {A = ℕ} 0 1 = cc in absurd (omega arith)
  held_oldest x (q ∷ ps) {p} e = elim (look (eqb q.lane x)) [
    | inl d ↦ let same : q ≡ p = cc (rw d at e) in rw same (omega arith)
    | inr d ↦ omega (arith, held_oldest x ps (rw d at e))
  ]

  -- those that pass a test, and those that do not
  held_those : (test : Flying → Bool) (ps : List Flying) → held ps ≡ held (those test ps) + held (those (λ p. not (test p)) ps)
  unfolding times those
  held_those test [] = refl
  held_those test (q ∷ ps) = elim (look (test q)) [
    | inl d ↦ rw d (omega (arith, held_those test ps))
    | inr d ↦ rw d (omega (arith, held_those test ps))
  ]

  -- without number n: where n is a, none is left
  held_not : (n : ℕ) (ps : List Flying) → held (those (is_not n) ps) + cond (eqb n a) (held ps) 0 ≡ held ps
  unfolding times those
  held_not n [] = elim (look (eqb n a)) [ inl d ↦ rw d | inr d ↦ rw d ]
  held_not n (q ∷ ps) = elim (look (eqb n a)) [
    | inl d ↦
        let same : n ≡ a = eqb-true n a d in
        elim (look (eqb q.number n)) [
          | inl k ↦ rw (k, d) (omega (arith, rw d at (held_not n ps)))
          | inr k ↦
              let other : eqb q.number a ≡ false = ne_eqb q.number a (λ r. eqb-false q.number n k (r ∙ sym same)) in
              rw (k, d, other) (omega (arith, rw d at (held_not n ps)))
        ]
    | inr d ↦ elim (look (eqb q.number n)) [
      | inl k ↦
          let other : eqb q.number a ≡ false = rw (eqb-true q.number n k) d in
          rw (k, d, other) (omega (arith, rw d at (held_not n ps)))
      | inr k ↦ rw (k, d) (omega (arith, rw d at (held_not n ps)))
    ]
  ]

  -- one more number is admitted
  one_more : (n : ℕ) → one (ltb a (n + 1)) ≡ one (ltb a n) + one (eqb n a)
  one_more n = elim (look (ltb a n)) [
    | inl e ↦
        let q : a < n = ltb-true a n e in
        rw (e, lt-ltb a (n + 1) (omega arith), ne_eqb n a (λ r. omega arith)) (omega arith)
    | inr e ↦
        let q : n ≤ a = ltb-false a n e in
        elim (look (eqb n a)) [
          | inl d ↦
              let r : n ≡ a = eqb-true n a d in
              rw (e, d, lt-ltb a (n + 1) (omega arith)) (omega arith)
          | inr d ↦ rw (e, d, le-ltb a (n + 1) (omega (arith, eqb-false n a d))) (omega arith)
        ]
  ]

  -- a packet that goes somewhere stands there, and in flight no more than that
  goes_all : (p : Places) (n : ℕ) (w : Went) → Away w
      → count_in_all a (goes p n w) + cond (eqb n a) (held p.flying) 0 ≡ count_in_all a p + one (eqb n a)
  goes_all p n (Lane x) h = omega (arith, held_push (those (is_not n) p.flying) (record { number = n; lane = x }), held_not n p.flying)
  goes_all p n Delivered h = omega (arith, times_push p.delivered n, held_not n p.flying)
  goes_all p n Lost h = omega (arith, times_push p.lost n, held_not n p.flying)
  goes_all p n Stranded h = omega (arith, times_push p.stranded n, held_not n p.flying)
  goes_all p n Nowhere h = absurd h

-- ---- the flight
not_held : (n : ℕ) (ps : List Flying) → held n ps ≡ 0 → those (is_not n) ps ≡ ps
unfolding times those
not_held n [] h = refl
not_held n (q ∷ ps) h = elim (look (eqb q.number n)) [
  | inl d ↦ absurd (omega (arith, rw d at h))
  | inr d ↦ rw d (ap (λ (fs : List Flying). q ∷ fs) (not_held n ps (omega (arith, rw d at h))))
]

-- of packets with numbers that differ, the oldest of a lane goes by its number
less_not : (x : ℕ) (ps : List Packet) {p : Packet} {qs : List Packet} → on_lane x ps ≡ p ∷ qs → held p.number (map sent_as ps) ≤ 1
    → map sent_as (less x ps) ≡ those (is_not p.number) (map sent_as ps)
unfolding times on_lane less those
less_not x [] e h = let z : ◌≡◌ {A = ℕ} 0 1 = cc in absurd (omega arith)
less_not x (q ∷ ps) {p} e h = elim (look (eqb q.lane x)) [
  | inl d ↦
      let same : q ≡ p = cc (rw d at e) in
      let number : eqb q.number p.number ≡ true = rw same (eq-eqb p.number p.number refl) in
      rw (d, number) (sym (not_held p.number (map sent_as ps) (omega (arith, rw number at h))))
  | inr d ↦
      let further : on_lane x ps ≡ p ∷ _ = rw d at e in
      elim (look (eqb q.number p.number)) [
        | inl k ↦ absurd (omega (arith, rw k at h, rw (eq-eqb p.number p.number refl) at (held_oldest p.number x ps further)))
        | inr k ↦ rw (d, k) (ap (λ (fs : List Flying). sent_as q ∷ fs) (less_not x ps further (omega (arith, rw k at h))))
      ]
]

off_not : (l : ℕ) (ps : List Packet) → map sent_as (off l ps) ≡ those (λ f. not (is_on l f)) (map sent_as ps)
unfolding off those
off_not l [] = refl
off_not l (q ∷ ps) = elim (look (eqb (link_of q.lane) l)) [
  | inl d ↦ rw d (off_not l ps)
  | inr d ↦ rw d (ap (λ (fs : List Flying). sent_as q ∷ fs) (off_not l ps))
]

on_length : (l : ℕ) (ps : List Packet) → length ps ≡ length (off l ps) + length (numbers (those (is_on l) (map sent_as ps)))
unfolding off those
on_length l [] = refl
on_length l (q ∷ ps) = elim (look (eqb (link_of q.lane) l)) [
  | inl d ↦ rw d (omega (arith, on_length l ps))
  | inr d ↦ rw d (omega (arith, on_length l ps))
]

-- ---- an event
record Placed (s : State) (p : Places) : Type 0 where
  flying : map sent_as s.flight ≡ p.flying
  all : (a : ℕ) → count_in_all a p ≡ one (ltb a s.counts.admitted)
  delivered : s.counts.delivered ≡ length p.delivered
  lost : s.counts.lost ≡ length p.lost
  stranded : s.counts.stranded ≡ length p.stranded

module _ {s : State} {p : Places} (k : Placed s p) where
  abbrev N : ℕ
  N = s.counts.admitted

  -- the number that is admitted next stands nowhere yet
  fresh : held N p.flying ≡ 0
  fresh = omega (arith, rw (le-ltb N N (omega arith)) at (k.all N))

  fresh_flying : those (is_not N) p.flying ≡ map sent_as s.flight
  fresh_flying = not_held N p.flying fresh ∙ sym k.flying

  -- the oldest packet of a lane stands in flight once
  module _ {x : ℕ} {q : Packet} (old : Oldest s x q) where
    single : held q.number p.flying ≡ 1
    single =
        let b : one (eqb q.number q.number) ≤ held q.number p.flying =
        rw k.flying at (held_oldest q.number x s.flight old.first) in
        omega (arith, k.all q.number, one_most (ltb q.number N), rw (eq-eqb q.number q.number refl) at b)

    taken_flying : map sent_as (less x s.flight) ≡ those (is_not q.number) p.flying
    taken_flying =
        rw k.flying at
        (less_not x s.flight old.first (omega (arith, single, ap (held q.number) k.flying)))

    -- wherever it goes, no number stands more or less often
    stays : (w : Went) → Away w → (a : ℕ) → count_in_all a (goes p q.number w) ≡ one (ltb a N)
    stays w h a = elim (look (eqb q.number a)) [
      | inl d ↦ omega (arith, rw d at (goes_all a p q.number w h), k.all a, rw (eqb-true q.number a d) at single)
      | inr d ↦ omega (arith, rw d at (goes_all a p q.number w h), k.all a)
    ]

  -- wherever the number goes that is admitted, no other stands more or less often
  joins : (w : Went) → Away w → (a : ℕ) → count_in_all a (goes p N w) ≡ one (ltb a (N + 1))
  joins w h a = elim (look (eqb N a)) [
    | inl d ↦ omega (arith, rw d at (goes_all a p N w h), k.all a, rw d at (one_more a N), rw (eqb-true N a d) at fresh)
    | inr d ↦ omega (arith, rw d at (goes_all a p N w h), k.all a, rw d at (one_more a N))
  ]

  -- an event moves the places as it moves the record
  moved : {e : Event} {o : Outcome} → Step s e o → Placed o.state (placed_by p e o)
  unfolding placed_by counted taken cut onward pass
  moved {e} (refused {a = b} r) = rw (none_failed p e b (refusal r)) k
  moved (at_home r d) =
      record {
        flying = sym fresh_flying;
        all = joins Delivered tt;
        delivered = omega (arith, k.delivered, length-append p.delivered (N ∷ []));
        lost = omega (arith, k.lost);
        stranded = omega (arith, k.stranded);
      }
  moved (strands r d n) =
      record {
        flying = sym fresh_flying;
        all = joins Stranded tt;
        delivered = omega (arith, k.delivered);
        lost = omega (arith, k.lost);
        stranded = omega (arith, k.stranded, length-append p.stranded (N ∷ []));
      }
  moved (sends {v = v} r d l m) =
      let c = counted s 1 0 0 0 in
      let same : (onward c v N).state.counts ≡ c.counts = onward_counts c v N in
      record {
        flying = onward_flight c v N ∙ rw fresh_flying;
        all = λ a. joins (Lane (door (update c v) v)) tt a ∙ ap (λ t. one (ltb a t.admitted)) (sym same);
        delivered = omega (arith, k.delivered, ap (λ t. t.delivered) same);
        lost = omega (arith, k.lost, ap (λ t. t.lost) same);
        stranded = omega (arith, k.stranded, ap (λ t. t.stranded) same);
      }
  moved (comes_home {x = x} {p = q} old h d) =
      record {
        flying = ap (map sent_as) (rest h).flight ∙ taken_flying old;
        all = λ a. stays old Delivered tt a ∙ rw ((rest h).counts, add-zero N);
        delivered = rw (rest h).counts (omega (arith, k.delivered, length-append p.delivered (q.number ∷ [])));
        lost = rw (rest h).counts (omega (arith, k.lost));
        stranded = rw (rest h).counts (omega (arith, k.stranded));
      }
  moved (bounces {x = x} {p = q} old o m d) =
      record {
        flying = map-append sent_as (less x s.flight) _ ∙ rw (taken_flying old);
        all = λ a. stays old (Lane (opp x)) tt a ∙ rw (add-zero N);
        delivered = omega (arith, k.delivered);
        lost = omega (arith, k.lost);
        stranded = omega (arith, k.stranded);
      }
  moved (goes_on {x = x} {p = q} {t = t} old h d) =
      let c = counted t 0 0 0 0 in
      let v = s.net.node (opp x) in
      let same : (onward c v q.number).state.counts ≡ c.counts = onward_counts c v q.number in
      record {
        flying = onward_flight c v q.number ∙ rw ((rest h).flight, taken_flying old);
        all = λ a. stays old (Lane (door (update c v) v)) tt a ∙ ap (λ u. one (ltb a u)) (sym (ap (λ u. u.admitted) same ∙ rw ((rest h).counts, add-zero N)));
        delivered = ap (λ u. u.delivered) same ∙ rw (rest h).counts (omega (arith, k.delivered));
        lost = ap (λ u. u.lost) same ∙ rw (rest h).counts (omega (arith, k.lost));
        stranded = ap (λ u. u.stranded) same ∙ rw (rest h).counts (omega (arith, k.stranded));
      }
  moved (loses {x = x} {p = q} old) =
      record {
        flying = taken_flying old;
        all = λ a. stays old Lost tt a ∙ rw (add-zero N);
        delivered = omega (arith, k.delivered);
        lost = omega (arith, k.lost, length-append p.lost (q.number ∷ []));
        stranded = omega (arith, k.stranded);
      }
  moved (fails {l = l} r i u) =
      record {
        flying = off_not l s.flight ∙ rw k.flying;
        all = λ a.
            rw (add-zero N)
            (omega (arith, k.all a, held_those a (is_on l) p.flying, times_append a p.lost (numbers (those (is_on l) p.flying))));
        delivered = omega (arith, k.delivered);
        lost =
            omega (
              arith,
              k.lost,
              length-append p.lost (numbers (those (is_on l) p.flying)),
              rw k.flying at (on_length l s.flight),
            );
        stranded = omega (arith, k.stranded);
      }

stands : {s : State} (h : History s) → Placed s (placed h)
unfolding placed opened times
stands (start n d list e) =
    rw (opens_as n d list (tested n d list false e))
    (record { flying = refl; all = λ a. rw (le-ltb a 0 (omega arith)); delivered = refl; lost = refl; stranded = refl })
stands (next {s = s} h e) = moved (stands h) (step s e)

pub four_places : FourPlaces
four_places =
    record {
      once = λ s h n b. (stands h).all n ∙ rw (lt-ltb n s.counts.admitted b);
      nowhere = λ s h n b. (stands h).all n ∙ rw (le-ltb n s.counts.admitted b);
      flying = λ s h. (stands h).flying;
      delivered = λ s h. (stands h).delivered;
      lost = λ s h. (stands h).lost;
      stranded = λ s h. (stands h).stranded;
    }
