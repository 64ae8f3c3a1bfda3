-- The opening of a network from a list of node numbers, two a link.
use Rattle.std.specs.Prelude.{ℕ, zero, suc, ◌*◌, ◌/◌, ◌%◌, ◌<◌, Bool, true, false, not, cond, ◌&&◌, List, [], ltb, eqb, length, get_or}
use Rattle.model.specs.Answers as answers
use Rattle.model.specs.Below.{any, first, tab}
use Rattle.model.specs.State.{end, side, State}
use Rattle.model.specs.Formed.{sized, joins}

abbrev pub node_in : List ℕ → ℕ → ℕ
node_in list x = get_or list x 0

abbrev pub links_in : List ℕ → ℕ
links_in list = length list / 2

-- "At opening the arrow goes from end 0 to end 1. .. At opening all links are live and all bits 0; the In ends are marked, the Out ends
-- not; all counts are 0."
unfoldable pub opened : ℕ → ℕ → List ℕ → State
opened nodes destination list =
    record {
      net = record { nodes = nodes; destination = destination; links = links_in list; node = node_in list };
      up = λ l. ltb l (links_in list);
      ends = record {
        out = λ x. ltb x (2 * links_in list) && eqb (side x) 0;
        local = λ x. false;
        remote = λ x. false;
        mark = λ x. ltb x (2 * links_in list) && eqb (side x) 1;
      };
      turns = λ v. 0;
      flight = [];
      counts = record { events = 0; admitted = 0; delivered = 0; lost = 0; stranded = 0 };
    }

-- A walk along the opening arrows, of one arrow or more. It is closed where it ends at the node where it began.
pub data Walk (list : List ℕ) : ℕ → ℕ → Type 0 where
  along : (l : ℕ) → l < links_in list → Walk list (node_in list (end l 0)) (node_in list (end l 1))
  then : {u v w : ℕ} → Walk list u v → Walk list v w → Walk list u w

pub record ClosedWalk (list : List ℕ) : Type 0 where
  pub start : ℕ
  pub walk : Walk list start start

-- The same by computation: a walk of as many arrows as there are nodes comes to some node twice. By node, does a walk of k arrows set out?
unfoldable pub sets_out : ℕ → List ℕ → ℕ → List Bool
sets_out nodes list zero = tab (λ v. true) nodes
sets_out nodes list (suc k) =
    let shorter = sets_out nodes list k in
    tab (λ v. any (λ l. eqb (node_in list (end l 0)) v && get_or shorter (node_in list (end l 1)) false) (links_in list)) nodes

unfoldable pub holds_closed_walk : ℕ → List ℕ → Bool
holds_closed_walk nodes list = any (λ v. get_or (sets_out nodes list nodes) v false) nodes

-- "a link names no node, or joins a node to itself; place is the first such link"
unfoldable pub first_bad_link : ℕ → List ℕ → ℕ
first_bad_link nodes list =
    first (λ l. not (joins nodes (node_in list (end l 0)) (node_in list (end l 1)))) 0 (links_in list)

pub record Opening : Type 0 where
  pub state : State
  pub answer : ℕ
  pub place : ℕ

-- "A refused opening or header gives the record of one node, destination 0, no link, just opened. Place is 0 where none is named."
abbrev pub refuse_opening : ℕ → ℕ → Opening
refuse_opening answer place = record { state = opened 1 0 []; answer = answer; place = place }

-- "Opening and writing a header: 2, 3, 4"
unfoldable pub open_from : ℕ → ℕ → List ℕ → Opening
open_from nodes destination list =
    cond (not (eqb (length list % 2) 0 && sized nodes destination (links_in list))) (refuse_opening answers.bad_sizes 0)
    (cond (ltb (first_bad_link nodes list) (links_in list)) (refuse_opening answers.bad_link (first_bad_link nodes list))
    (cond (holds_closed_walk nodes list) (refuse_opening answers.closed_walk 0)
    (record { state = opened nodes destination list; answer = answers.done; place = 0 })))
