-- "Departure update at v", and the way out.
use Rattle.std.specs.Prelude.{ℕ, suc, Bool, not, cond, ◌&&◌, ◌||◌, [], ◌∷◌, ◌++◌, eqb}
use Rattle.model.specs.Below.{any, first}
use Rattle.model.specs.State.{end, State, lanes, live}

-- x is an end of node v, and still has its link; it is Out, too; it is a marked end of v
abbrev pub live_at : State → ℕ → ℕ → Bool
live_at s v x = eqb (s.net.node x) v && live s x

abbrev pub out_at : State → ℕ → ℕ → Bool
out_at s v x = live_at s v x && s.ends.out x

abbrev pub mark_at : State → ℕ → ℕ → Bool
mark_at s v x = eqb (s.net.node x) v && s.ends.mark x

unfoldable pub has_live : State → ℕ → Bool
has_live s v = any (live_at s v) (lanes s)

unfoldable pub has_out : State → ℕ → Bool
has_out s v = any (out_at s v) (lanes s)

unfoldable pub has_mark : State → ℕ → Bool
has_mark s v = any (mark_at s v) (lanes s)

-- "If no end of v is marked, mark all its live ends." So a turn of v reverses these:
abbrev pub reverses : State → ℕ → ℕ → Bool
reverses s v x = cond (has_mark s v) (mark_at s v x) (live_at s v x)

-- "Each marked end becomes Out and its local bit flips. Then the marks of v are set anew: exactly its live In ends. This is one turn of v."
unfoldable pub turn : State → ℕ → State
turn s v =
    record {
      net = s.net;
      up = s.up;
      ends = record {
        out = λ x. reverses s v x || s.ends.out x;
        local = λ x. cond (reverses s v x) (not (s.ends.local x)) (s.ends.local x);
        remote = s.ends.remote;
        mark = λ x. cond (eqb (s.net.node x) v) (live s x && not (reverses s v x || s.ends.out x)) (s.ends.mark x);
      };
      turns = λ u. cond (eqb u v) (suc (s.turns u)) (s.turns u);
      flight = s.flight;
      counts = s.counts;
    }

-- "Only if no live link of v is Out."
unfoldable pub update : State → ℕ → State
update s v = cond (has_out s v) s (turn s v)

-- "the lowest-numbered live Out link" of v, and the end that v sends from
abbrev pub out_link : State → ℕ → ℕ → Bool
out_link s v l = out_at s v (end l 0) || out_at s v (end l 1)

abbrev pub out_end : State → ℕ → ℕ → ℕ
out_end s v l = cond (out_at s v (end l 0)) (end l 0) (end l 1)

unfoldable pub door : State → ℕ → ℕ
door s v = out_end s v (first (out_link s v) 0 s.net.links)

-- "The packet takes the sending end's local bit, read after the update, and becomes the newest in flight."
unfoldable pub pass : State → ℕ → ℕ → State
pass s x n =
    record {
      net = s.net;
      up = s.up;
      ends = s.ends;
      turns = s.turns;
      flight = s.flight ++ (record { number = n; lane = x; bit = s.ends.local x } ∷ []);
      counts = s.counts;
    }
