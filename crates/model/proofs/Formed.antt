-- Well-formedness is kept: each change of a state keeps it, with the packets counted that are in hand between two changes. Assumes nothing.
use Prim.Native.Nat.{ℕ, ◌+◌, ◌-◌, ◌<◌, ◌≤◌}
use native.Mathlib.Omega.{arith}
use mathlib.Core.Path.{◌≡◌, refl}
use mathlib.Core.Logic.{inl, inr}
use mathlib.Core.Bool.{Bool, true, false, not, cond, ◌&&◌, ◌||◌}
use mathlib.Core.List.{List, [], ◌∷◌}
use lib.Dec.{ltb, leb, eqb}
use lib.ListN.{length, length-append}
use borrow.Author.Tests.{ltb-true, lt-ltb, leb-true, le-leb, eqb-true, eq-eqb, not-true}
use Rattle.model.specs.Limits.{flight_most, events_most}
use Rattle.model.specs.Below.{all}
use Rattle.model.specs.State.{end, link_of, Net, Packet, State, lanes, live, whole}
use Rattle.model.specs.Formed.{sized, limits_hold, joins, link_formed, end_formed, packet_formed, packets_formed, turns_formed, summed, well_formed}
use Rattle.model.specs.Departure.{live_at, has_live, has_out, reverses, turn, update, door, pass}
use Rattle.model.specs.Outcome.{counted, onward}
use Rattle.model.specs.Lanes.{on_lane, taken}
use Rattle.model.specs.Deliver.{news}
use Rattle.model.specs.Fail.{off, cut}
use Rattle.model.proofs.Below.{look, clash, and_both, guard, all_at, all_here}
use Rattle.model.proofs.Ends.{live_whole, whole_live}
use Rattle.model.proofs.Lanes.{less_length, off_length, Each, each_push, each_less, each_off, each_map}
use Rattle.model.proofs.Departure.{reverse_here, door_out, update_out, update_counts}

pub record NetFormed (n : Net) : Type 0 where
  pub sizes : sized n.nodes n.destination n.links ≡ true
  pub links : (l : ℕ) → l < n.links → joins n.nodes (n.node (end l 0)) (n.node (end l 1)) ≡ true

-- "a marked end is In and on a live link"
abbrev pub Marked : State → Type 0
Marked s = (x : ℕ) → x < lanes s → s.ends.mark x ≡ true → (s.ends.out x ≡ false) × (live s x ≡ true)

-- "packets in flight are on lanes of live links with numbers below admitted"
abbrev pub Flies : State → Packet → Type 0
Flies s p = (p.lane < lanes s) × (whole s p.lane ≡ true) × (p.number < s.counts.admitted)

-- well formed, but for some packets in hand, and with events to spare over every node's turns
pub record Formed (hand spare : ℕ) (s : State) : Type 0 where
  pub net : NetFormed s.net
  pub within : s.counts.events ≤ events_most
  pub room : length s.flight + hand ≤ flight_most
  pub marked : Marked s
  pub flies : Each (Flies s) s.flight
  pub turned : (v : ℕ) → v < s.net.nodes → s.turns v + spare ≤ s.counts.events
  pub fewer : s.counts.admitted ≤ s.counts.events
  pub sum : s.counts.admitted ≡ length s.flight + hand + s.counts.delivered + s.counts.lost + s.counts.stranded

-- the tests and the record
end_marked : (m o l : Bool) → (not m || not o && l) ≡ true → m ≡ true → (o ≡ false) × (l ≡ true)
end_marked true true l e h = absurd (clash e refl)
end_marked true false l e h = (refl, e)
end_marked false o l e h = absurd (clash h refl)

marked_end : (m o l : Bool) → (m ≡ true → (o ≡ false) × (l ≡ true)) → (not m || not o && l) ≡ true
marked_end true o l f = rw ((f refl).0, (f refl).1)
marked_end false o l f = refl

three : (a b c : Bool) → (a && b && c) ≡ true → (a ≡ true) × (b ≡ true) × (c ≡ true)
three a b c e =
    let p = and_both (a && b) c e in
    let q = and_both a b p.0 in
    (q.0, q.1, p.1)

module _ (s : State) where
  packets_fly : (ps : List Packet) → packets_formed s ps ≡ true → Each (Flies s) ps
  unfolding packets_formed packet_formed
  packets_fly [] e = tt
  packets_fly (p ∷ ps) e =
      let b = and_both (packet_formed s p) (packets_formed s ps) e in
      let t = three (ltb p.lane (lanes s)) (whole s p.lane) (ltb p.number s.counts.admitted) b.0 in
      ((ltb-true p.lane (lanes s) t.0, t.1, ltb-true p.number s.counts.admitted t.2), packets_fly ps b.1)

  fly_packets : (ps : List Packet) → Each (Flies s) ps → packets_formed s ps ≡ true
  unfolding packets_formed packet_formed
  fly_packets [] f = refl
  fly_packets (p ∷ ps) f =
      rw (lt-ltb p.lane (lanes s) f.0.0, f.0.1, lt-ltb p.number s.counts.admitted f.0.2) (fly_packets ps f.1)

  abbrev links_ok : Bool
  links_ok = all (link_formed s) s.net.links

  abbrev ends_ok : Bool
  ends_ok = all (end_formed s) (lanes s)

  abbrev turns_ok : Bool
  turns_ok = all (turns_formed s) s.net.nodes

  pub ends_marked : ends_ok ≡ true → Marked s
  unfolding end_formed
  ends_marked e x h = end_marked (s.ends.mark x) (s.ends.out x) (live s x) (all_at (end_formed s) (lanes s) x e h)

  pub formed_if : well_formed s ≡ true → Formed 0 0 s
  unfolding well_formed limits_hold link_formed turns_formed summed
  formed_if e =
      let a = and_both (limits_hold s && links_ok && ends_ok && packets_formed s s.flight && turns_ok) (summed s) e in
      let b = and_both (limits_hold s && links_ok && ends_ok && packets_formed s s.flight) turns_ok a.0 in
      let c = and_both (limits_hold s && links_ok && ends_ok) (packets_formed s s.flight) b.0 in
      let d = three (limits_hold s) links_ok ends_ok c.0 in
      let sizes = sized s.net.nodes s.net.destination s.net.links in
      let l = three sizes (leb (length s.flight) flight_most) (leb s.counts.events events_most) d.0 in
      let all_places = length s.flight + s.counts.delivered + s.counts.lost + s.counts.stranded in
      let m = and_both (leb s.counts.admitted s.counts.events) (eqb s.counts.admitted all_places) a.1 in
      record {
        net = record { sizes = l.0; links = λ k h. all_at (link_formed s) s.net.links k d.1 h };
        within = leb-true s.counts.events events_most l.2;
        room = omega (arith, leb-true (length s.flight) flight_most l.1);
        marked = ends_marked d.2;
        flies = packets_fly s.flight c.1;
        turned = λ v h. omega (arith, leb-true (s.turns v) s.counts.events (all_at (turns_formed s) s.net.nodes v b.1 h));
        fewer = leb-true s.counts.admitted s.counts.events m.0;
        sum = omega (arith, eqb-true s.counts.admitted all_places m.1);
      }

  pub if_formed : {k : ℕ} → Formed 0 k s → well_formed s ≡ true
  unfolding well_formed limits_hold link_formed end_formed turns_formed summed
  if_formed f =
      let all_places = length s.flight + s.counts.delivered + s.counts.lost + s.counts.stranded in
      rw (
        f.net.sizes,
        le-leb (length s.flight) flight_most (omega (arith, f.room)),
        le-leb s.counts.events events_most f.within,
        all_here (link_formed s) s.net.links f.net.links,
        all_here (end_formed s) (lanes s) (λ x h. marked_end (s.ends.mark x) (s.ends.out x) (live s x) (f.marked x h)),
        fly_packets s.flight f.flies,
        all_here (turns_formed s) s.net.nodes (λ v h. le-leb (s.turns v) s.counts.events (omega (arith, f.turned v h))),
        le-leb s.counts.admitted s.counts.events f.fewer,
      )
      (eq-eqb s.counts.admitted all_places (omega (arith, f.sum)))

-- marks after a turn
turn_mark : (at l r o m : Bool) → (at ≡ false → r ≡ false) → (m ≡ true → (o ≡ false) × (l ≡ true))
    → cond at (l && not (r || o)) m ≡ true → ((r || o) ≡ false) × (l ≡ true)
turn_mark true l r o m here f e = let b = and_both l (not (r || o)) e in (not-true (r || o) b.1, b.0)
turn_mark false l r o m here f e = rw (here refl) (f e)

-- each change
module _ (s : State) {h k : ℕ} where
  pub formed_counted : (admitted delivered lost stranded h' : ℕ) → admitted ≤ 1 → h + admitted ≡ h' + delivered + lost + stranded
      → length s.flight + h' ≤ flight_most → s.counts.events < events_most → Formed h k s
      → Formed h' (k + 1) (counted s admitted delivered lost stranded)
  unfolding counted whole
  formed_counted a d l t h' few e room more f =
      record {
        net = f.net;
        within = omega arith;
        room = room;
        marked = f.marked;
        flies = each_map (Flies s) (Flies (counted s a d l t)) (λ p g. (g.0, g.1, omega (arith, g.2))) s.flight f.flies;
        turned = λ v i. omega (arith, f.turned v i);
        fewer = omega (arith, f.fewer);
        sum = omega (arith, f.sum);
      }

  pub formed_taken : (x : ℕ) {p : Packet} {ps : List Packet} → on_lane x s.flight ≡ p ∷ ps → Formed h k s → Formed (h + 1) k (taken s x)
  unfolding taken whole
  formed_taken x e f =
      record {
        net = f.net;
        within = f.within;
        room = omega (arith, f.room, less_length x s.flight e);
        marked = f.marked;
        flies = each_less (Flies s) x s.flight f.flies;
        turned = f.turned;
        fewer = f.fewer;
        sum = omega (arith, f.sum, less_length x s.flight e);
      }

  pub formed_news : (y : ℕ) → Formed h k s → Formed h k (news s y)
  unfolding news whole
  formed_news y f =
      record {
        net = f.net;
        within = f.within;
        room = f.room;
        marked = λ x i m. elim (look (eqb x y)) [ inl e ↦ rw e (refl, (f.marked x i m).1) | inr e ↦ rw e (f.marked x i m) ];
        flies = f.flies;
        turned = f.turned;
        fewer = f.fewer;
        sum = f.sum;
      }

  pub formed_turn : (v : ℕ) → Formed h (k + 1) s → Formed h k (turn s v)
  unfolding turn whole
  formed_turn v f =
      record {
        net = f.net;
        within = f.within;
        room = f.room;
        marked = λ x i.
            turn_mark (eqb (s.net.node x) v) (live s x) (reverses s v x) (s.ends.out x) (s.ends.mark x) (reverse_here s v x) (f.marked x i);
        flies = f.flies;
        turned = λ u i. elim (look (eqb u v)) [ inl e ↦ rw e (omega (arith, f.turned u i)) | inr e ↦ rw e (omega (arith, f.turned u i)) ];
        fewer = f.fewer;
        sum = f.sum;
      }

  pub formed_pass : (z n : ℕ) → z < lanes s → whole s z ≡ true → n < s.counts.admitted → Formed (h + 1) k s → Formed h k (pass s z n)
  unfolding pass whole
  formed_pass z n i w below f =
      let p : Packet = record { number = n; lane = z; bit = s.ends.local z } in
      record {
        net = f.net;
        within = f.within;
        room = omega (arith, f.room, length-append s.flight (p ∷ []));
        marked = f.marked;
        flies = each_push (Flies s) s.flight p (i, w, below) f.flies;
        turned = f.turned;
        fewer = f.fewer;
        sum = omega (arith, f.sum, length-append s.flight (p ∷ []));
      }

  pub formed_cut : (l : ℕ) → Formed h k s → Formed (h + (length s.flight - length (off l s.flight))) k (cut s l)
  unfolding cut whole
  formed_cut l f =
      record {
        net = f.net;
        within = f.within;
        room = omega (arith, f.room, off_length l s.flight);
        marked = λ x i m.
            let c = guard (eqb (link_of x) l) (s.ends.mark x) m in
            rw c.0 (f.marked x i c.1);
        flies = each_off (Flies s) (Flies (cut s l)) l
            (λ p e g. (g.0, live_whole (cut s l) p.lane (rw e (whole_live s p.lane g.1)), g.2)) s.flight f.flies;
        turned = f.turned;
        fewer = f.fewer;
        sum = omega (arith, f.sum, off_length l s.flight);
      }

  pub formed_update : (v : ℕ) → Formed h (k + 1) s → Formed h k (update s v)
  unfolding update
  formed_update v f = elim (look (has_out s v)) [ inl e ↦ rw e weaker | inr e ↦ rw e (formed_turn v f) ]
    where
      weaker : Formed h k s
      weaker =
          record {
            net = f.net;
            within = f.within;
            room = f.room;
            marked = f.marked;
            flies = f.flies;
            turned = λ v i. omega (arith, f.turned v i);
            fewer = f.fewer;
            sum = f.sum;
          }

-- "departure update, then out": the packet in hand flies again
pub formed_onward : (s : State) {h k : ℕ} (v n : ℕ) → has_live s v ≡ true → n < s.counts.admitted → Formed (h + 1) (k + 1) s
    → Formed h k (onward s v n).state
unfolding onward
formed_onward s v n e below f =
    let t = update s v in
    let d = door_out t v (update_out s v (λ x i m. (f.marked x i m).1) e) in
    let at = and_both (live_at t v (door t v)) (t.ends.out (door t v)) d.1 in
    let l = and_both (eqb (t.net.node (door t v)) v) (live t (door t v)) at.0 in
    formed_pass t (door t v) n d.0 (live_whole t (door t v) l.1) (rw (update_counts s v) below) (formed_update s v f)
