-- Every event keeps a record well formed. Assumes nothing.
use Prim.Native.Nat.{ℕ, ◌-◌, ◌<◌}
use native.Mathlib.Omega.{arith}
use mathlib.Core.Path.{◌≡◌, ◌∙◌}
use mathlib.Core.Bool.{true}
use lib.ListN.{length}
use Rattle.model.specs.State.{opp, Packet, State, lanes, whole}
use Rattle.model.specs.Formed.{well_formed}
use Rattle.model.specs.Departure.{live_at, has_live}
use Rattle.model.specs.Outcome.{Outcome, counted}
use Rattle.model.specs.Lanes.{taken}
use Rattle.model.specs.Fail.{off, cut}
use Rattle.model.specs.Events.{Event}
use Rattle.model.proofs.Below.{any_here}
use Rattle.model.proofs.Ends.{opp_below, test_same, whole_live, whole_opp}
use Rattle.model.proofs.Lanes.{each_oldest}
use Rattle.model.proofs.Formed.{Flies, Formed, formed_if, if_formed, formed_counted, formed_taken, formed_news, formed_pass, formed_cut, formed_onward}
use Rattle.model.proofs.Steps.{Oldest, Heard, told, known, rest, Step, refused, at_home, strands, sends, comes_home, bounces, goes_on, loses, fails}

-- a heard packet is in hand
pub heard : {s : State} {x : ℕ} {p : Packet} {t : State} → Oldest s x p → Heard s x p t → Formed 0 0 s → Formed 1 0 t
heard {s} {x = x} old (told o n) f = formed_news (taken s x) (opp x) (formed_taken s x old.first f)
heard {s} {x = x} old (known n) f = formed_taken s x old.first f

pub same_live : {s : State} {x : ℕ} {p : Packet} {t : State} → Heard s x p t → (v : ℕ) → has_live t v ≡ has_live s v
unfolding has_live
same_live h v = rw ((rest h).net, (rest h).up)

-- the end that a packet reaches is live
pub reached : {s : State} {x : ℕ} {p : Packet} → Oldest s x p → has_live s (s.net.node (opp x)) ≡ true
unfolding has_live
reached {s} {x} old =
    any_here (live_at s (s.net.node (opp x))) (lanes s) (opp x) (opp_below x s.net.links old.inside)
    (rw (test_same (s.net.node (opp x))) (whole_live s (opp x) (whole_opp s x old.joined)))

-- the packet has a number that was admitted
pub numbered : {s : State} {x : ℕ} {p : Packet} → Oldest s x p → Formed 0 0 s → p.number < s.counts.admitted
numbered {s} {x} old f = (each_oldest (Flies s) x s.flight old.first f.flies).2

pub kept : {s : State} {e : Event} {o : Outcome} → Step s e o → well_formed s ≡ true → well_formed o.state ≡ true
unfolding counted has_live taken whole cut
kept (refused r) w = w
kept {s} {o = o} (at_home r d) w =
    let f = formed_if s w in
    if_formed o.state (formed_counted s 1 1 0 0 0 (omega arith) (omega arith) f.room r.room f)
kept {s} {o = o} (strands r d n) w =
    let f = formed_if s w in
    if_formed o.state (formed_counted s 1 0 0 1 0 (omega arith) (omega arith) f.room r.room f)
kept {s} {o = o} (sends {v = v} r d l m) w =
    let f = formed_if s w in
    let c = counted s 1 0 0 0 in
    if_formed o.state
    (formed_onward c {h = 0} {k = 0} v s.counts.admitted l (omega arith)
    (formed_counted s 1 0 0 0 1 (omega arith) (omega arith) (omega arith) r.room f))
kept {s} {o = o} (comes_home {t = t} old h d) w =
    let g = heard old h (formed_if s w) in
    if_formed o.state
    (formed_counted t 0 1 0 0 0 (omega arith) (omega arith) (omega (arith, g.room)) (rw (rest h).counts old.ready.room) g)
kept {s} {o = o} (bounces {x = x} {p = p} old out same d) w =
    let f = formed_if s w in
    let g = formed_taken s x old.first f in
    let c = counted (taken s x) 0 0 0 0 in
    if_formed o.state
    (formed_pass c {h = 0} (opp x) p.number (opp_below x s.net.links old.inside) (whole_opp s x old.joined)
    (omega (arith, numbered old f))
    (formed_counted (taken s x) 0 0 0 0 1 (omega arith) (omega arith) g.room old.ready.room g))
kept {s} {o = o} (goes_on {x = x} {p = p} {t = t} old h d) w =
    let f = formed_if s w in
    let g = heard old h f in
    let c = counted t 0 0 0 0 in
    if_formed o.state
    (formed_onward c {h = 0} {k = 0} (s.net.node (opp x)) p.number (same_live h (s.net.node (opp x)) ∙ reached old)
    (rw (rest h).counts (omega (arith, numbered old f)))
    (formed_counted t 0 0 0 0 1 (omega arith) (omega arith) g.room (rw (rest h).counts old.ready.room) g))
kept {s} {o = o} (loses {x = x} old) w =
    let g = formed_taken s x old.first (formed_if s w) in
    if_formed o.state
    (formed_counted (taken s x) 0 0 1 0 0 (omega arith) (omega arith) (omega (arith, g.room)) old.ready.room g)
kept {s} {o = o} (fails {l = l} r i u) w =
    let f = formed_if s w in
    let g = formed_cut s l f in
    if_formed o.state
    (formed_counted (cut s l) 0 0 (length s.flight - length (off l s.flight)) 0 0 (omega arith) (omega arith) (omega (arith, g.room)) r.room g)
