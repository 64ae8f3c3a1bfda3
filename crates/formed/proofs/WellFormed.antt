-- A record is well formed: each part of the definition as a test of some entries, as the loops of the check find it. Assumes nothing.
use Prim.Native.Nat.{ℕ, zero, suc, ◌+◌, ◌-◌, ◌*◌, ◌/◌, ◌%◌, ◌≤◌, ◌<◌}
use native.Mathlib.Omega.{arith}
use native.Mathlib.Nat.{add-zero}
use mathlib.Core.Path.{◌≡◌, refl, sym, ap, ◌∙◌}
use mathlib.Core.Bool.{Bool, true, false, not, ◌&&◌, ◌||◌, and_self}
use mathlib.Core.List.{List, []}
use lib.Dec.{leb, ltb, eqb}
use lib.ListN.{get_or}
use borrow.Author.Tests.{leb-true, leb-false, not-true}
use Rattle.model.specs.Limits.{nodes_most, links_most, flight_most}
use Rattle.model.specs.Below.{any, all, tab}
use Rattle.model.specs.State.{Packet, State, opp, whole}
use Rattle.model.specs.Formed.{sized, limits_hold, link_formed, end_formed, packet_formed, packets_formed, turns_formed, summed, well_formed}
use Rattle.model.proofs.Below.{clash, and_both, any_false}
use Rattle.arrays.specs.declared.record.Tally.{Tally}
use Rattle.arrays.specs.View.{used, net_of, ends_of, packet_at, counts_of, state_of}
use Rattle.over.specs.Formed.{tallied}
use Rattle.arrays.proofs.Below.{not_leb, not_ltb, all_not_any, any_same, any_never, any_or, any_pairs, all_head, length-tab, used_in}

-- ---- packets
pub packets_tab : (s : State) (f : ℕ → Packet) (n : ℕ) → packets_formed s (tab f n) ≡ all (λ i. packet_formed s (f i)) n
unfolding packets_formed tab all
packets_tab s f zero = refl
packets_tab s f (suc n) =
    ap (λ b. packet_formed s (f 0) && b) (packets_tab s (λ i. f (suc i)) n) ∙ sym (all_head (λ i. packet_formed s (f i)) n)

-- ---- the limits and the sum
module _ (nodes destination links : ℕ) (t : Tally) where
  -- what the loops of the check rest on
  pub record Within : Type 0 where
    pub some_node : 1 ≤ nodes
    pub nodes_fit : nodes ≤ nodes_most
    pub links_fit : links ≤ links_most
    pub flight_fits : t.flying ≤ flight_most

  pub within : tallied nodes destination links t ≡ true → Within
  unfolding tallied sized
  within e =
      let front = and_both _ _ (and_both _ _ (and_both _ _ e).0).0 in
      let size = and_both _ _ front.0 in
      let many = and_both _ _ (and_both _ _ size.0).0 in
      record {
        some_node = leb-true 1 nodes many.0;
        nodes_fit = leb-true nodes nodes_most many.1;
        links_fit = leb-true links links_most size.1;
        flight_fits = leb-true t.flying flight_most front.1;
      }

-- ---- the parts, by entries
module _ (node : List ℕ) (live out mark : List Bool) (turns number lane : List ℕ) (nodes destination links : ℕ) (t : Tally) where
  abbrev pub shown : State
  shown =
      state_of (net_of nodes destination links node) live (ends_of links out [] [] mark) turns (tab (packet_at number lane []) t.flying) (counts_of t)

  -- an end names no node; a link joins a node to itself
  abbrev pub unnamed : ℕ → Bool
  unnamed x = leb nodes (get_or node x 0)

  abbrev pub looped : ℕ → Bool
  looped l = eqb (get_or node (2 * l) 0) (get_or node (2 * l + 1) 0)

  -- an Out end is marked; an end of a link that is down is
  abbrev pub out_marked : ℕ → Bool
  out_marked x = get_or out x false && get_or mark x false

  abbrev pub down_marked : ℕ → Bool
  down_marked l = not (get_or live l false) && (get_or mark (2 * l) false || get_or mark (2 * l + 1) false)

  abbrev pub turns_over : ℕ → Bool
  turns_over v = ltb t.events (get_or turns v 0)

  -- a packet's number is not below admitted, it is on no lane, its link is down
  abbrev pub number_over : ℕ → Bool
  number_over i = leb t.admitted (get_or number i 0)

  abbrev pub lane_over : ℕ → Bool
  lane_over i = leb (2 * links) (get_or lane i 0)

  abbrev pub lane_down : ℕ → Bool
  lane_down i = not (get_or live (get_or lane i 0 / 2) false)

  abbrev broken : ℕ → Bool
  broken i = not (whole shown (get_or lane i 0))

  node_at : (x y : ℕ) → x ≡ y → y < 2 * links → shown.net.node x ≡ get_or node y 0
  node_at x y e h = ap (used (2 * links) 0 node) e ∙ used_in (2 * links) 0 node y h

  joins_not : (a b c : Bool) → (not a && not b && not c) ≡ not ((a || b) || c)
  joins_not true b c = refl
  joins_not false true c = refl
  joins_not false false c = refl

  link_is : (l : ℕ) → l < links → link_formed shown l ≡ not ((unnamed (2 * l) || unnamed (2 * l + 1)) || looped l)
  unfolding link_formed
  link_is l h =
      let a = get_or node (2 * l) 0 in
      let b = get_or node (2 * l + 1) 0 in
      rw (node_at (2 * l + 0) (2 * l) (add-zero (2 * l)) (omega arith), node_at (2 * l + 1) (2 * l + 1) refl (omega arith), not_leb a nodes, not_leb b nodes)
      (joins_not (leb nodes a) (leb nodes b) (eqb a b))

  pub links_are : all (link_formed shown) links ≡ not (any unnamed (2 * links) || any looped links)
  links_are =
      all_not_any (link_formed shown) (λ l. (unnamed (2 * l) || unnamed (2 * l + 1)) || looped l) links link_is
      ∙ ap not (any_or (λ l. unnamed (2 * l) || unnamed (2 * l + 1)) looped links ∙ ap (λ b. b || any looped links) (sym (any_pairs unnamed links)))

  pub turns_are : all (turns_formed shown) nodes ≡ not (any turns_over nodes)
  unfolding turns_formed
  turns_are = all_not_any (turns_formed shown) turns_over nodes (λ v h. rw (used_in nodes 0 turns v h) (not_ltb (get_or turns v 0) t.events))

  ends_not : (m o l : Bool) → (not m || not o && l) ≡ not ((o && m) || (not l && m))
  ends_not true true l = refl
  ends_not true false true = refl
  ends_not true false false = refl
  ends_not false true true = refl
  ends_not false true false = refl
  ends_not false false true = refl
  ends_not false false false = refl

  abbrev down_end : ℕ → Bool
  down_end x = not (get_or live (x / 2) false) && get_or mark x false

  end_is : (x : ℕ) → x < 2 * links → end_formed shown x ≡ not (out_marked x || down_end x)
  unfolding end_formed
  end_is x h =
      rw (used_in (2 * links) false mark x h, used_in (2 * links) false out x h, used_in links false live (x / 2) (omega arith))
      (ends_not (get_or mark x false) (get_or out x false) (get_or live (x / 2) false))

  -- two marks of one link
  both_ends : (a b c : Bool) → ((a && b) || (a && c)) ≡ (a && (b || c))
  both_ends true b c = refl
  both_ends false b c = refl

  down_pair : (l : ℕ) → (down_end (2 * l) || down_end (2 * l + 1)) ≡ down_marked l
  down_pair l =
      let e : 2 * l / 2 ≡ l = omega arith in
      let f : (2 * l + 1) / 2 ≡ l = omega arith in
      rw (e, f) (both_ends (not (get_or live l false)) (get_or mark (2 * l) false) (get_or mark (2 * l + 1) false))

  pub ends_are : all (end_formed shown) (2 * links) ≡ not (any out_marked (2 * links) || any down_marked links)
  ends_are =
      all_not_any (end_formed shown) (λ x. out_marked x || down_end x) (2 * links) end_is
      ∙ ap not
      (any_or out_marked down_end (2 * links)
      ∙ ap (λ b. any out_marked (2 * links) || b)
      (any_pairs down_end links ∙ any_same (λ l. down_end (2 * l) || down_end (2 * l + 1)) down_marked links (λ l h. down_pair l)))

  packet_not : (l w n : Bool) → (not l && w && not n) ≡ not ((n || l) || not w)
  packet_not true true true = refl
  packet_not true true false = refl
  packet_not true false true = refl
  packet_not true false false = refl
  packet_not false true true = refl
  packet_not false true false = refl
  packet_not false false true = refl
  packet_not false false false = refl

  packet_is : (i : ℕ) → packet_formed shown (packet_at number lane [] i) ≡ not ((number_over i || lane_over i) || broken i)
  unfolding packet_formed
  packet_is i =
      rw (not_leb (get_or lane i 0) (2 * links), not_leb (get_or number i 0) t.admitted)
      (packet_not (lane_over i) (whole shown (get_or lane i 0)) (number_over i))

  pub packets_are : packets_formed shown shown.flight ≡ not ((any number_over t.flying || any lane_over t.flying) || any broken t.flying)
  packets_are =
      packets_tab shown (packet_at number lane []) t.flying
      ∙ all_not_any (λ i. packet_formed shown (packet_at number lane [] i)) (λ i. (number_over i || lane_over i) || broken i) t.flying (λ i h. packet_is i)
      ∙ ap not
      (any_or (λ i. number_over i || lane_over i) broken t.flying
      ∙ ap (λ b. b || any broken t.flying) (any_or number_over lane_over t.flying))

  -- with all packets on lanes, one end's link is the other's
  whole_is : (x : ℕ) → x < 2 * links → not (whole shown x) ≡ not (get_or live (x / 2) false)
  unfolding whole opp
  whole_is x h =
      let e : ((x + 1) - 2 * (x % 2)) / 2 ≡ x / 2 = omega arith in
      rw (e, used_in links false live (x / 2) (omega arith)) (ap not (and_self (get_or live (x / 2) false)))

  pub broken_is : any lane_over t.flying ≡ false → any broken t.flying ≡ any lane_down t.flying
  broken_is e =
      any_same broken lane_down t.flying
      (λ i h. whole_is (get_or lane i 0) (leb-false (2 * links) (get_or lane i 0) (any_false lane_over t.flying i e h)))

  limits_are : (limits_hold shown && summed shown) ≡ tallied nodes destination links t
  unfolding limits_hold summed tallied
  limits_are = rw (length-tab (packet_at number lane []) t.flying)

  in_order : (m l e p v s : Bool) → (m && l && e && p && v && s) ≡ ((m && s) && (l && e && (p && v)))
  in_order true false e p v true = refl
  in_order true false e p v false = refl
  in_order true true false p v true = refl
  in_order true true false p v false = refl
  in_order true true true false v true = refl
  in_order true true true false v false = refl
  in_order true true true true false true = refl
  in_order true true true true false false = refl
  in_order true true true true true true = refl
  in_order true true true true true false = refl
  in_order false l e p v s = refl

  judged : well_formed shown
      ≡ (tallied nodes destination links t
      && (not (any unnamed (2 * links) || any looped links) && not (any out_marked (2 * links) || any down_marked links)
      && (not ((any number_over t.flying || any lane_over t.flying) || any broken t.flying) && not (any turns_over nodes))))
  unfolding well_formed
  judged =
      in_order (limits_hold shown) (all (link_formed shown) links) (all (end_formed shown) (2 * links)) (packets_formed shown shown.flight)
      (all (turns_formed shown) nodes) (summed shown)
      ∙ rw (limits_are, links_are, ends_are, packets_are, turns_are)

  -- ---- the verdicts of the check, in its order
  pub limits_refused : (a : Bool) → a ≡ tallied nodes destination links t → not a ≡ true → false ≡ well_formed shown
  limits_refused a e n = rw (judged, ← e, not-true a n)

  first_bad : (m a b c d r : Bool) → (a || b || c) ≡ true → false ≡ (m && (not (a || b) && not (c || d) && r))
  first_bad false a b c d r e = refl
  first_bad true true b c d r e = refl
  first_bad true false true c d r e = refl
  first_bad true false false true d r e = refl
  first_bad true false false false d r e = absurd (clash e refl)

  pub first_refused : (a b c : Bool) → a ≡ any unnamed (2 * links) → b ≡ any looped links → c ≡ any out_marked (2 * links)
      → (a || b || c) ≡ true → false ≡ well_formed shown
  first_refused a b c p q r e =
      first_bad (tallied nodes destination links t) a b c (any down_marked links)
      (not ((any number_over t.flying || any lane_over t.flying) || any broken t.flying) && not (any turns_over nodes)) e
      ∙ rw (judged, p, q, r)

  then_bad : (m f a b c d : Bool) → (a || b || c) ≡ true → false ≡ (m && (f && (not ((b || c) || d) && not a)))
  then_bad false f a b c d e = refl
  then_bad true false a b c d e = refl
  then_bad true true true true c d e = refl
  then_bad true true true false true d e = refl
  then_bad true true true false false true e = refl
  then_bad true true true false false false e = refl
  then_bad true true false true c d e = refl
  then_bad true true false false true d e = refl
  then_bad true true false false false d e = absurd (clash e refl)

  pub then_refused : (a b c : Bool) → a ≡ any turns_over nodes → b ≡ any number_over t.flying → c ≡ any lane_over t.flying
      → (a || b || c) ≡ true → false ≡ well_formed shown
  then_refused a b c p q r e =
      then_bad (tallied nodes destination links t) (not (any unnamed (2 * links) || any looped links) && not (any out_marked (2 * links) || any down_marked links))
      a b c (any broken t.flying) e
      ∙ rw (judged, p, q, r)

  -- what has been found once no test has refused
  pub record Passed : Type 0 where
    pub limits : tallied nodes destination links t ≡ true
    pub named : any unnamed (2 * links) ≡ false
    pub joined : any looped links ≡ false
    pub outs : any out_marked (2 * links) ≡ false
    pub turned : any turns_over nodes ≡ false
    pub numbers : any number_over t.flying ≡ false
    pub lanes : any lane_over t.flying ≡ false

  last_tests : (d e : Bool) → not (d || e) ≡ (not d && (not e && true))
  last_tests true e = refl
  last_tests false true = refl
  last_tests false false = refl

  pub passed_down : Passed → (d e : Bool) → d ≡ any down_marked links → e ≡ any lane_down t.flying → not (d || e) ≡ well_formed shown
  passed_down z d e p q =
      last_tests d e
      ∙ rw (judged, z.limits, z.named, z.joined, z.outs, z.turned, z.numbers, z.lanes, broken_is z.lanes, p, q)

  pub passed_live : Passed → any (λ l. not (get_or live l false)) links ≡ false → true ≡ well_formed shown
  passed_live z e = passed_down z false false (sym no_mark) (sym no_lane_down)
    where
      up : (l : ℕ) → l < links → not (get_or live l false) ≡ false
      up l h = any_false (λ k. not (get_or live k false)) links l e h

      no_mark : any down_marked links ≡ false
      no_mark = any_never down_marked links (λ l h. rw (up l h))

      on_some_lane : (i : ℕ) → i < t.flying → get_or lane i 0 / 2 < links
      on_some_lane i h =
          let b : get_or lane i 0 < 2 * links = leb-false (2 * links) (get_or lane i 0) (any_false lane_over t.flying i z.lanes h) in
          omega arith

      no_lane_down : any lane_down t.flying ≡ false
      no_lane_down = any_never lane_down t.flying (λ i h. up (get_or lane i 0 / 2) (on_some_lane i h))

-- no bit of an end or of a packet is read
pub bits_unread : (node : List ℕ) (live out mark local remote bit : List Bool) (turns number lane : List ℕ) (nodes destination links : ℕ) (t : Tally)
    → well_formed (shown node live out mark turns number lane nodes destination links t)
    ≡ well_formed
    (state_of (net_of nodes destination links node) live (ends_of links out local remote mark) turns (tab (packet_at number lane bit) t.flying) (counts_of t))
unfolding well_formed limits_hold link_formed end_formed packet_formed turns_formed summed whole
bits_unread node live out mark local remote bit turns number lane nodes destination links t =
    let s = shown node live out mark turns number lane nodes destination links t in
    let r = state_of (net_of nodes destination links node) live (ends_of links out local remote mark) turns (tab (packet_at number lane bit) t.flying) (counts_of t) in
    rw (
      packets_tab s (packet_at number lane []) t.flying,
      packets_tab r (packet_at number lane bit) t.flying,
      length-tab (packet_at number lane []) t.flying,
      length-tab (packet_at number lane bit) t.flying,
    )
