-- "each admitted number stands in exactly one of four places (in flight, delivered, lost, stranded), by the event that put it there."
-- The places are made of the events and of what they gave: an answer, a packet, a way. No record is read.
use Rattle.std.specs.Prelude.{ℕ, ◌+◌, Bool, not, cond, List, [], ◌∷◌, ◌++◌, map, eqb}
use Rattle.model.specs.declared.Handled.{Handled}
use Rattle.model.specs.declared.Handled.TheVariants as handled
use Rattle.model.specs.declared.Went.{Went}
use Rattle.model.specs.declared.Went.TheVariants.{Lane, Delivered, Lost, Stranded, Nowhere}
use Rattle.model.specs.Answers as answers
use Rattle.model.specs.State.{link_of, Packet, State}
use Rattle.model.specs.Outcome.{Outcome}
use Rattle.model.specs.Events.{Event, send, deliver, lose, fail, event}
use Rattle.model.specs.History.{History, start, next}

-- a packet in flight as the event told that sent it on: its number, and the lane that it went out on
pub record Flying : Type 0 where
  pub number : ℕ
  pub lane : ℕ

-- The four places, each in the order in which the packets came there.
pub record Places : Type 0 where
  pub flying : List Flying
  pub delivered : List ℕ
  pub lost : List ℕ
  pub stranded : List ℕ

abbrev pub numbers : List Flying → List ℕ
numbers ps = map (λ p. p.number) ps

-- those that pass a test, in their order
unfoldable pub those : (Flying → Bool) → List Flying → List Flying
those test [] = []
those test (p ∷ ps) = cond (test p) (p ∷ those test ps) (those test ps)

abbrev pub is_not : ℕ → Flying → Bool
is_not n p = not (eqb p.number n)

abbrev pub is_on : ℕ → Flying → Bool
is_on l p = eqb (link_of p.lane) l

-- packet n goes where the event says that it went, and stands nowhere else in the flight
abbrev pub goes : Places → ℕ → Went → Places
goes p n (Lane x) =
    record {
      flying = those (is_not n) p.flying ++ (record { number = n; lane = x } ∷ []);
      delivered = p.delivered;
      lost = p.lost;
      stranded = p.stranded;
    }
goes p n Delivered =
    record { flying = those (is_not n) p.flying; delivered = p.delivered ++ (n ∷ []); lost = p.lost; stranded = p.stranded }
goes p n Lost =
    record { flying = those (is_not n) p.flying; delivered = p.delivered; lost = p.lost ++ (n ∷ []); stranded = p.stranded }
goes p n Stranded =
    record { flying = those (is_not n) p.flying; delivered = p.delivered; lost = p.lost; stranded = p.stranded ++ (n ∷ []) }
goes p n Nowhere = p

abbrev pub handled_by : Places → Handled → Went → Places
handled_by p (handled.Packet n) w = goes p n w
handled_by p handled.Nothing w = p

-- "Fail link l. .. Its packets on both lanes are lost; the order of the others stays": those of an accepted failure
abbrev pub failed_by : Places → Event → ℕ → Places
failed_by p (send v) answer = p
failed_by p (deliver x) answer = p
failed_by p (lose x) answer = p
failed_by p (fail l) answer =
    cond (eqb answer answers.done)
    (record {
      flying = those (λ f. not (is_on l f)) p.flying;
      delivered = p.delivered;
      lost = p.lost ++ numbers (those (is_on l) p.flying);
      stranded = p.stranded;
    })
    p

-- the places after an event, by what it gave
unfoldable pub placed_by : Places → Event → Outcome → Places
placed_by p e o = failed_by (handled_by p o.handled o.went) e o.answer

-- the places after a history
unfoldable pub placed : {s : State} → History s → Places
placed (start n d list e) = record { flying = []; delivered = []; lost = []; stranded = [] }
placed (next {s = s} h e) = placed_by (placed h) e (event s e)

-- how often a number stands in a list; and in the four places together
unfoldable pub times : ℕ → List ℕ → ℕ
times n [] = 0
times n (m ∷ ms) = cond (eqb m n) 1 0 + times n ms

abbrev pub count_in_all : ℕ → Places → ℕ
count_in_all n p = times n (numbers p.flying) + times n p.delivered + times n p.lost + times n p.stranded

-- what the record's list shows of a packet in flight
abbrev pub sent_as : Packet → Flying
sent_as p = record { number = p.number; lane = p.lane }
