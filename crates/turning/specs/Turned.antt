-- What a turn leaves in the arrows, whose arrays are as long as they were.
use Rattle.std.specs.Prelude.{ℕ, ◌*◌, ◌/◌, ◌≡◌, Bool, false, not, cond, ◌&&◌, ◌||◌, List, leb, ltb, eqb, length, get_or, set}
use Rattle.model.specs.Limits.{ends_most}
use Rattle.model.specs.Departure.{turn}
use Rattle.arrays.specs.declared.record.Plan.{Plan}
use Rattle.arrays.specs.declared.record.Arrows.{Arrows}
use Rattle.arrays.specs.View.{used, ends_seen}

-- whether x is an end of v from one end up to another
unfoldable pub ours : List ℕ → ℕ → ℕ → ℕ → ℕ → Bool
ours node v from to x = leb from x && ltb x to && eqb (get_or node x 0) v

-- whether an end turns: one of v's, on a live link where the turn is full, else marked
abbrev pub turns : Bool → Bool → Bool → Bool → Bool
turns own full alive mark = own && cond full alive mark

-- one end of a node that turns: Out and with its local bit turned where it turns, and marked where it is In on a live link
abbrev pub turned_end : Bool → Arrows → ℕ → Arrows
turned_end full a y =
    let t = cond full (get_or a.live (y / 2) false) (get_or a.mark y false) in
    record {
      live = a.live;
      out = set a.out y (t || get_or a.out y false);
      local = set a.local y (cond t (not (get_or a.local y false)) (get_or a.local y false));
      remote = a.remote;
      mark = set a.mark y (get_or a.live (y / 2) false && not (t || get_or a.out y false));
      turns = a.turns;
    }

-- an entry for each end
pub record Long (a : Arrows) : Type 0 where
  pub out : length a.out ≡ ends_most
  pub local : length a.local ≡ ends_most
  pub mark : length a.mark ≡ ends_most

-- the ends of v from one end up to another have had their part; all else stays
pub record Part (p : Plan) (v : ℕ) (full : Bool) (from to : ℕ) (a b : Arrows) : Type 0 where
  pub out_at : (x : ℕ) → get_or b.out x false
      ≡ (turns (ours p.node v from to x) full (get_or a.live (x / 2) false) (get_or a.mark x false) || get_or a.out x false)
  pub local_at : (x : ℕ) → get_or b.local x false
      ≡ cond (turns (ours p.node v from to x) full (get_or a.live (x / 2) false) (get_or a.mark x false)) (not (get_or a.local x false)) (get_or a.local x false)
  pub mark_at : (x : ℕ) → get_or b.mark x false
      ≡ cond (ours p.node v from to x)
      (get_or a.live (x / 2) false && not (turns (ours p.node v from to x) full (get_or a.live (x / 2) false) (get_or a.mark x false) || get_or a.out x false))
      (get_or a.mark x false)
  pub live : b.live ≡ a.live
  pub remote : b.remote ≡ a.remote
  pub turned : b.turns ≡ a.turns
  pub long : Long b

-- a turn of v has had the ends in use; links and remote bits stay
pub record Turned (p : Plan) (v : ℕ) (a b : Arrows) : Type 0 where
  pub out : used (2 * p.links) false b.out ≡ (turn (ends_seen p a) v).ends.out
  pub local : used (2 * p.links) false b.local ≡ (turn (ends_seen p a) v).ends.local
  pub mark : used (2 * p.links) false b.mark ≡ (turn (ends_seen p a) v).ends.mark
  pub live : b.live ≡ a.live
  pub remote : b.remote ≡ a.remote
  pub long : Long b
