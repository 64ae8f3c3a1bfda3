-- The two tables hold, by computation but for the rows of 256 sends, which Full.antt spares. Assumes nothing.
use mathlib.Core.Path.{◌≡◌, refl, ap₂}
use mathlib.Core.Bool.{xor}
use mathlib.Core.List.{[], ◌∷◌, ◌++◌}
use lib.ListN.{take, drop}
use Rattle.model.specs.declared.Handled.TheVariants.{Packet, Nothing}
use Rattle.model.specs.declared.Went.TheVariants.{Lane, Delivered, Nowhere}
use Rattle.model.specs.Below.{any, all, first, tab}
use Rattle.model.specs.State.{opp, whole}
use Rattle.model.specs.Departure.{has_live, has_out, has_mark, turn, update, door, pass}
use Rattle.model.specs.Formed.{sized, limits_hold, link_formed, end_formed, packet_formed, packets_formed, turns_formed, summed, well_formed}
use Rattle.model.specs.Outcome.{accepting, counted, onward}
use Rattle.model.specs.Send.{send_to}
use Rattle.model.specs.Lanes.{on_lane, less, taken, off_lane}
use Rattle.model.specs.Deliver.{news, arrives, deliver_on}
use Rattle.model.specs.Lose.{lose_on}
use Rattle.model.specs.Fail.{off, cut, fail_of}
use Rattle.model.specs.Events.{send, deliver, event}
use Rattle.model.specs.Opening.{opened, sets_out, holds_closed_walk, first_bad_link, open_from}
use Rattle.model.specs.History.{after}
use Rattle.model.specs.Number.{groups, join, number_in, read_number}
use Rattle.model.specs.File.{read_numbers, read_header, of_kind, read_event, events_from, read_events, read}
use Rattle.model.specs.Turns.{about, turns_in}
use Rattle.model.specs.Writing.{numbers_bytes, events_bytes, write, store, write_header, write_event}
use Rattle.model.specs.Writable.{write_events, write_pieces}
use Rattle.model.specs.Text.{ascii, digits_in, spaced, line, event_lines, drill_text, drill_output}
use Rattle.model.specs.Rows.{changed, made, gave, from_outcome, listed, given, Hold}
use Rattle.model.specs.Cases.{count, cases, others}
use Rattle.model.proofs.Full.{packets, sent, from_full}

-- the rows on each side of those
sides : (Hold (take 13 cases) × Hold (drop 15 cases)) × (Hold (take 34 others) × Hold (drop 35 others))
unfolding any all first tab opp whole xor has_live has_out has_mark turn update door pass sized limits_hold link_formed end_formed packet_formed packets_formed turns_formed summed well_formed accepting counted onward send_to on_lane less taken off_lane news arrives deliver_on lose_on off cut fail_of event opened sets_out holds_closed_walk first_bad_link open_from after groups join number_in read_number read_numbers read_header of_kind read_event events_from read_events read ascii digits_in spaced line event_lines drill_text drill_output about turns_in numbers_bytes events_bytes write store write_header write_event write_events write_pieces changed made listed given
sides = ((refl, refl), (refl, refl))

-- those, from the full link on
nine : from_outcome (event (sent 256) (send 1)) ≡ gave 9 Nothing Nowhere (0 ∷ 0 ∷ []) (count 256 256 0 0 0)
unfolding any all first opp whole xor has_live has_out update door pass sized limits_hold link_formed end_formed packet_formed packets_formed turns_formed summed well_formed accepting counted onward send_to on_lane less taken off_lane arrives deliver_on event opened after tab packets sent
nine = refl

at_home : from_outcome (event (sent 256) (send 0)) ≡ gave 0 (Packet 256) Delivered (0 ∷ 0 ∷ []) (count 257 257 1 0 0)
unfolding any all first opp whole xor has_live has_out update door pass sized limits_hold link_formed end_formed packet_formed packets_formed turns_formed summed well_formed accepting counted onward send_to on_lane less taken off_lane arrives deliver_on event opened after tab packets sent
at_home = refl

freed : from_outcome (event (after (sent 256) (deliver 0 ∷ [])) (send 1)) ≡ gave 0 (Packet 256) (Lane 0) (0 ∷ 0 ∷ []) (count 258 257 1 0 0)
unfolding any all first opp whole xor has_live has_out update door pass sized limits_hold link_formed end_formed packet_formed packets_formed turns_formed summed well_formed accepting counted onward send_to on_lane less taken off_lane arrives deliver_on event opened after tab packets sent
freed = refl

pub tables : Hold cases × Hold others
unfolding after
tables = (
  ap₂ ◌++◌ sides.0.0 (ap₂ ◌∷◌ (from_full [] (send 1) nine) (ap₂ ◌∷◌ (from_full [] (send 0) at_home) sides.0.1)),
  ap₂ ◌++◌ sides.1.0 (ap₂ ◌∷◌ (from_full (deliver 0 ∷ []) (send 1) freed) sides.1.1),
)
