-- The record that an opening fills, as its reader sees it. Assumes nothing.
use Prim.Native.Nat.{ℕ, zero, suc, ◌*◌, ◌%◌, ◌≤◌, ◌<◌}
use native.Mathlib.Omega.{arith}
use mathlib.Core.Path.{◌≡◌, refl, sym, ap, ◌∙◌}
use mathlib.Core.Bool.{Bool, true, false, ◌&&◌}
use mathlib.Core.List.{List, []}
use lib.Dec.{ltb, eqb}
use lib.ListN.{length, get_or, replicate, get_or-eq_default}
use borrow.Author.Tests.{lt-ltb, le-ltb}
use Rattle.model.specs.Limits.{nodes_most, links_most, ends_most}
use Rattle.model.specs.Below.{tab}
use Rattle.model.specs.State.{Ends, Counts}
use Rattle.model.specs.Opening.{node_in, links_in, opened}
use Rattle.model.proofs.Below.{tab_at}
use Rattle.network.specs.declared.record.Network.{Network}
use Rattle.arrays.specs.View.{used, net_of, ends_of, packet_at, state_of}
use Rattle.network.specs.View.{view}
use Rattle.arrays.specs.Flight.{slots}
use Rattle.network.specs.Opening.{lone_network}
use Rattle.arrays.proofs.Below.{used_is}

abbrev none : Counts
none = record { events = 0; admitted = 0; delivered = 0; lost = 0; stranded = 0 }

module _ (nodes destination : ℕ) (list : List ℕ) (even : length list ≡ 2 * links_in list) where
  pub opened_by : (node : List ℕ) (live out local remote mark : List Bool) (turns : List ℕ)
      → ((x : ℕ) → x < 2 * links_in list → get_or node x 0 ≡ node_in list x)
      → ((l : ℕ) → l < links_in list → get_or live l false ≡ true)
      → ((x : ℕ) → x < 2 * links_in list → get_or out x false ≡ eqb (x % 2) 0)
      → ((x : ℕ) → x < 2 * links_in list → get_or local x false ≡ false)
      → ((x : ℕ) → x < 2 * links_in list → get_or remote x false ≡ false)
      → ((x : ℕ) → x < 2 * links_in list → get_or mark x false ≡ eqb (x % 2) 1)
      → ((v : ℕ) → v < nodes → get_or turns v 0 ≡ 0)
      → state_of (net_of nodes destination (links_in list) node) live (ends_of (links_in list) out local remote mark) turns [] none
      ≡ opened nodes destination list
  unfolding opened
  opened_by node live out local remote mark turns n l o a r m t =
      λ i. record {
        net = record { nodes = nodes; destination = destination; links = links_in list; node = node_is i };
        up = live_is i;
        ends = record {
          out = side_is 0 out o i;
          local = used_is (2 * links_in list) false local (λ x. false) a (λ x h. refl) i;
          remote = used_is (2 * links_in list) false remote (λ x. false) r (λ x h. refl) i;
          mark = side_is 1 mark m i;
        };
        turns = used_is nodes 0 turns (λ v. 0) t (λ v h. refl) i;
        flight = [];
        counts = none;
      }
    where
      node_is : used (2 * links_in list) 0 node ≡ node_in list
      node_is = used_is (2 * links_in list) 0 node (node_in list) n (λ x h. sym (get_or-eq_default list 0 (omega arith)))

      live_is : used (links_in list) false live ≡ (λ k. ltb k (links_in list))
      live_is =
          used_is (links_in list) false live (λ k. ltb k (links_in list)) (λ k h. l k h ∙ sym (lt-ltb k (links_in list) h))
          (λ k h. sym (le-ltb k (links_in list) h))

      side_is : (s : ℕ) (xs : List Bool) → ((x : ℕ) → x < 2 * links_in list → get_or xs x false ≡ eqb (x % 2) s)
          → used (2 * links_in list) false xs ≡ (λ x. ltb x (2 * links_in list) && eqb (x % 2) s)
      side_is s xs e =
          used_is (2 * links_in list) false xs (λ x. ltb x (2 * links_in list) && eqb (x % 2) s)
          (λ x h. rw (lt-ltb x (2 * links_in list) h) (e x h)) (λ x h. rw (le-ltb x (2 * links_in list) h))

no_packets : {A : Type 0} (f : ℕ → A) → tab f 0 ≡ []
unfolding tab
no_packets f = refl

default_all {ℓ} : {A : Type ℓ} (n i : ℕ) (d : A) → get_or (replicate n d) i d ≡ d
default_all zero i d = refl
default_all (suc n) zero d = refl
default_all (suc n) (suc i) d = default_all n i d

-- ---- the record of one node
pub lone_view : view lone_network ≡ opened 1 0 []
unfolding lone_network
lone_view =
    ap (λ ps. state_of (net_of 1 0 0 (replicate ends_most 0)) (replicate links_most false) clear (replicate nodes_most 0) ps none)
    (no_packets (packet_at (replicate slots 0) (replicate slots 0) (replicate slots false)))
    ∙ opened_by 1 0 [] refl (replicate ends_most 0) (replicate links_most false) (replicate ends_most false) (replicate ends_most false)
    (replicate ends_most false) (replicate ends_most false) (replicate nodes_most 0) (λ x h. absurd (omega arith)) (λ l h. absurd (omega arith))
    (λ x h. absurd (omega arith)) (λ x h. absurd (omega arith)) (λ x h. absurd (omega arith)) (λ x h. absurd (omega arith))
    (λ v h. default_all nodes_most v 0)
  where
    clear : Ends
    clear = ends_of 0 (replicate ends_most false) (replicate ends_most false) (replicate ends_most false) (replicate ends_most false)

-- the record of one node with what an opening fixes
abbrev pub fixed : Network → ℕ → ℕ → ℕ → List ℕ → List Bool → List Bool → List Bool → Network
fixed n nodes destination links node live out mark =
    record {
      plan = record { node = node; nodes = nodes; destination = destination; links = links };
      arrows = record {
        live = live;
        out = out;
        local = n.arrows.local;
        remote = n.arrows.remote;
        mark = mark;
        turns = n.arrows.turns;
      };
      flight = n.flight;
      tally = n.tally;
    }

module _ (nodes destination : ℕ) (list : List ℕ) (even : length list ≡ 2 * links_in list) (most : links_in list ≤ links_most) where
  side_at : (s : ℕ) (xs : List Bool) → xs ≡ tab (λ x. ltb x (2 * links_in list) && eqb (x % 2) s) ends_most
      → (x : ℕ) → x < 2 * links_in list → get_or xs x false ≡ eqb (x % 2) s
  side_at s xs e x h =
      rw (e, tab_at false (λ y. ltb y (2 * links_in list) && eqb (y % 2) s) ends_most x (omega arith), lt-ltb x (2 * links_in list) h)

  lone_filled : (node : List ℕ) (live out mark : List Bool)
      → node ≡ tab (node_in list) ends_most
      → live ≡ tab (λ l. ltb l (links_in list)) links_most
      → out ≡ tab (λ x. ltb x (2 * links_in list) && eqb (x % 2) 0) ends_most
      → mark ≡ tab (λ x. ltb x (2 * links_in list) && eqb (x % 2) 1) ends_most
      → view (fixed lone_network nodes destination (links_in list) node live out mark) ≡ opened nodes destination list
  unfolding lone_network
  lone_filled node live out mark n l o m =
      ap (λ ps. state_of (net_of nodes destination (links_in list) node) live (ends_of (links_in list) out clear clear mark) (replicate nodes_most 0) ps none)
      (no_packets (packet_at (replicate slots 0) (replicate slots 0) (replicate slots false)))
      ∙ opened_by nodes destination list even node live out clear clear mark (replicate nodes_most 0)
      (λ x h. rw (n, tab_at 0 (node_in list) ends_most x (omega arith)))
      (λ k h. rw (l, tab_at false (λ j. ltb j (links_in list)) links_most k (omega arith)) (lt-ltb k (links_in list) h))
      (side_at 0 out o) (λ x h. default_all ends_most x false) (λ x h. default_all ends_most x false) (side_at 1 mark m)
      (λ v h. default_all nodes_most v 0)
    where
      clear : List Bool
      clear = replicate ends_most false

  pub filled_view : (n : Network) → n ≡ lone_network → (node : List ℕ) (live out mark : List Bool)
      → node ≡ tab (node_in list) ends_most
      → live ≡ tab (λ l. ltb l (links_in list)) links_most
      → out ≡ tab (λ x. ltb x (2 * links_in list) && eqb (x % 2) 0) ends_most
      → mark ≡ tab (λ x. ltb x (2 * links_in list) && eqb (x % 2) 1) ends_most
      → view (fixed n nodes destination (links_in list) node live out mark) ≡ opened nodes destination list
  filled_view n e node live out mark p l o m =
      ap (λ k. view (fixed k nodes destination (links_in list) node live out mark)) e ∙ lone_filled node live out mark p l o m
