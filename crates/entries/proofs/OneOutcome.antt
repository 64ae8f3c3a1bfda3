-- Two outcomes that a public function's contract allows are equal. `Reads.Post` is the contract as the source states it.
-- Assumes nothing.
use Prim.Native.Nat.{ℕ}
use mathlib.Core.Path.{◌≡◌, refl, sym, ap, ◌∙◌}
use mathlib.Core.Bool.{Bool, true, false}
use mathlib.Core.List.{List}
use mathlib.Core.Option as math
use lib.Dec.{eqb}
use Rattle.std.specs.Prelude.{cond, Option, None, Some, Result, Ok, Err}
use contract.Lifetimes.{Lfts}
use denote.Triple.Clauses.{AtExit}
use borrow.Fn.Kinds.{Dens, res_t, ended_of}
use Rattle.model.specs.Answers as answers
use Rattle.model.specs.Writing.{Written}
use Rattle.groups.proofs.OneOutcome.{OneAnswer}
use Rattle.groups.specs.declared.answers.Spoilt.{Spoilt}
use Rattle.entries.specs.declared.answers.Event.{Event}
use Rattle.entries.specs.declared.answers.Got.{Got}
use Rattle.entries.specs.declared.answers.Refusal.{Refusal}
use Rattle.entries.specs.declared.answers.Refusal.TheVariants.{BadSizes, BadLink, ClosedWalk, NoSuch, Spoilt as SpoiltAt, TooShort}
use Rattle.entries.specs.Outcomes.{Seen, seen, seen_by, answer_of, place_of, holding}
use Rattle.entries.proofs.read_event.Kinds as read_event_kinds
use Rattle.entries.proofs.read_event.Reads as read_event_reads
use Rattle.entries.proofs.write_event.Kinds as write_event_kinds
use Rattle.entries.proofs.write_event.Reads as write_event_reads

-- an answer can be told from what it stands for
abbrev event_of : math.Option (ℕ × ℕ) → Bool → ℕ → Result (Option Event) Spoilt
event_of (math.some e) done place = Ok (Some (record { kind = e.0; argument = e.1 }))
event_of math.none true place = Ok None
event_of math.none false place = Err (record { place = place })

abbrev got_of : Seen → Got
got_of s = record { event = event_of s.event (eqb s.answer answers.done) s.place; next = record { at = s.next } }

got_back : (event : Result (Option Event) Spoilt) (at : ℕ)
    → got_of (seen_by event at) ≡ record { event = event; next = record { at = at } }
got_back (Ok (Some e)) at = refl
got_back (Ok None) at = refl
got_back (Err s) at = refl

pub got_same : {s : Seen} (r r' : Got) → seen r ≡ s → seen r' ≡ s → r ≡ r'
got_same r r' p q = sym (got_back r.event r.next.at) ∙ ap got_of (p ∙ sym q) ∙ got_back r'.event r'.next.at

-- a refusal by its answer and its place
abbrev refusal_of : ℕ → ℕ → Refusal
refusal_of answer place =
    cond (eqb answer answers.bad_sizes) BadSizes
    (cond (eqb answer answers.bad_link) (BadLink place)
    (cond (eqb answer answers.closed_walk) ClosedWalk
    (cond (eqb answer answers.no_such) NoSuch
    (cond (eqb answer answers.spoilt) (SpoiltAt place) TooShort))))

pub refusal_back : (r : Refusal) → refusal_of (answer_of r) (place_of r) ≡ r
refusal_back BadSizes = refl
refusal_back (BadLink place) = refl
refusal_back ClosedWalk = refl
refusal_back NoSuch = refl
refusal_back (SpoiltAt place) = refl
refusal_back TooShort = refl

pub refusal_same : {r r' : Refusal} → answer_of r ≡ answer_of r' → place_of r ≡ place_of r' → r ≡ r'
refusal_same {r} {r'} p q = sym (refusal_back r) ∙ (λ i. refusal_of (p i) (q i)) ∙ refusal_back r'

-- an outcome of writing: what is given back, and what the part holds at exit
abbrev written_of : Written → Result ℕ Refusal
written_of w = cond (eqb w.answer answers.done) (Ok w.count) (Err (refusal_of w.answer w.place))

written_is : (w : Result ℕ Refusal) (part : List ℕ) → written_of (holding w part) ≡ w
written_is (Ok count) part = refl
written_is (Err BadSizes) part = refl
written_is (Err (BadLink place)) part = refl
written_is (Err ClosedWalk) part = refl
written_is (Err NoSuch) part = refl
written_is (Err (SpoiltAt place)) part = refl
written_is (Err TooShort) part = refl

pub written_back : {w w' : Result ℕ Refusal} {part part' : List ℕ} → holding w part ≡ holding w' part' → (w ≡ w') × (part ≡ part')
written_back {w} {w'} {part} {part'} e =
    (sym (written_is w part) ∙ ap written_of e ∙ written_is w' part', ap (λ o. o.part) e)

pub read_event_one : OneAnswer 1 read_event_kinds.ps read_event_kinds.r read_event_reads.Post
read_event_one κs a r r' x x' = got_same r r'

pub write_event_one : (κs : Lfts 1) (a : Dens κs write_event_kinds.ps) (r r' : (res_t write_event_kinds.r κs).Denot)
    (x x' : AtExit (ended_of 1 write_event_kinds.ps write_event_kinds.r) κs)
    → write_event_reads.Post κs a r x → write_event_reads.Post κs a r' x' → (r ≡ r') × (x.0.now ≡ x'.0.now)
write_event_one κs a r r' x x' p q = written_back (p ∙ sym q)
