-- "Answer numbers": each number's name, with "when, and only then".
use Rattle.std.specs.Prelude.{ℕ}

-- done
abbrev pub done : ℕ
done = 0

-- record is not well formed
abbrev pub not_formed : ℕ
not_formed = 1

-- nodes not 1 to 64, destination not a node, links over 256, or (opening from a lent list, two node numbers a link) a list of odd length
abbrev pub bad_sizes : ℕ
bad_sizes = 2

-- a link names no node, or joins a node to itself; place is the first such link
abbrev pub bad_link : ℕ
bad_link = 3

-- the opening arrows hold a closed walk; given exactly if one exists
abbrev pub closed_walk : ℕ
closed_walk = 4

-- 1,000,000 events already accepted
abbrev pub no_more_events : ℕ
no_more_events = 5

-- no such node, lane or link; in the writer, an event kind not 1 to 4 or an argument over 2,097,151
abbrev pub no_such : ℕ
no_such = 6

-- the link is down (deliver, lose, fail)
abbrev pub link_down : ℕ
link_down = 7

-- the lane is empty (deliver, lose)
abbrev pub lane_empty : ℕ
lane_empty = 8

-- 256 in flight, and the node has a live link and is not the destination (send)
abbrev pub flight_full : ℕ
flight_full = 9

-- bit out of step, step 1 of deliver
abbrev pub out_of_step : ℕ
out_of_step = 10

-- file spoilt; place is a byte offset
abbrev pub spoilt : ℕ
spoilt = 11

-- the part lent to the writer is shorter than what is to be written
abbrev pub too_short : ℕ
too_short = 12
