-- "Numbers that bound it", each named here and nowhere else.
use Rattle.std.specs.Prelude.{ℕ, ◌+◌, ◌*◌, ◌/◌}

-- "Nodes 1 to 64, numbered from 0."
abbrev pub nodes_most : ℕ
nodes_most = 64

-- "Links 0 to 256, numbered from 0 in the order given."
abbrev pub links_most : ℕ
links_most = 256

-- A link has two ends, and an end is named by the lane that it sends on.
abbrev pub ends_most : ℕ
ends_most = 2 * links_most

-- "At most 256 packets in flight over all lanes."
abbrev pub flight_most : ℕ
flight_most = 256

-- "Accepted events 1,000,000 at most; a refused event does not count."
abbrev pub events_most : ℕ
events_most = 1_000_000

-- "A drill file handed to the program: at most 65,536 bytes."
abbrev pub file_most : ℕ
file_most = 65_536

-- "One to three bytes", each with a group of seven bits: "groups of seven bits, low group first".
abbrev pub groups_most : ℕ
groups_most = 3

abbrev pub group : ℕ
group = 128

-- "Largest value 2,097,151."
abbrev pub number_most : ℕ
number_most = 2_097_151

-- An event's line in the program's text: an ordinal of five digits, an answer of two, a packet of six, a way of four letters, three spaces,
-- a newline.
abbrev pub line_most : ℕ
line_most = 21

-- The lines behind the events: "spoilt 11" and a place of five digits (16 bytes), "total" and five numbers (46), "turns" and one for each
-- node (518), these numbers of seven digits at most.
abbrev pub last_lines_most : ℕ
last_lines_most = 580

-- The program's whole text: an event takes two bytes of the file at least.
abbrev pub text_most : ℕ
text_most = line_most * (file_most / 2) + last_lines_most
