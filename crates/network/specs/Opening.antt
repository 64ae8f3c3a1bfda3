-- What an opening gives back, and its contract.
use Rattle.std.specs.Prelude.{ℕ, ◌≡◌, false, List, replicate}
use Rattle.model.specs.Limits.{nodes_most, links_most, ends_most}
use Rattle.model.specs.Opening.{Opening, open_from}
use Rattle.network.specs.declared.record.Network.{Network}
use Rattle.network.specs.declared.opening.Opened.{Opened}
use Rattle.network.specs.View.{view}
use Rattle.arrays.specs.Flight.{slots}

-- "A refused opening or header gives the record of one node, destination 0, no link, just opened": to its last entry
unfoldable pub lone_network : Network
lone_network =
    record {
      plan = record { node = replicate ends_most 0; nodes = 1; destination = 0; links = 0 };
      arrows = record {
        live = replicate links_most false;
        out = replicate ends_most false;
        local = replicate ends_most false;
        remote = replicate ends_most false;
        mark = replicate ends_most false;
        turns = replicate nodes_most 0;
      };
      flight = record { number = replicate slots 0; lane = replicate slots 0; bit = replicate slots false };
      tally = record { flying = 0; events = 0; admitted = 0; delivered = 0; lost = 0; stranded = 0 };
    }

abbrev pub refusal : ℕ → ℕ → Opened
refusal answer place = record { network = lone_network; answer = answer; place = place }

abbrev pub seen_opened : Opened → Opening
seen_opened r = record { state = view r.network; answer = r.answer; place = r.place }

pub record OpenPost (nodes destination : ℕ) (list : List ℕ) (r : Opened) : Type 0 where
  -- the answer, the place and the state that a reader sees
  pub outcome : seen_opened r ≡ open_from nodes destination list
  -- a refusal gives one record, to its last entry
  pub lone : (r.answer ≡ 0 → ⊥) → r.network ≡ lone_network
