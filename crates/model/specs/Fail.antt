-- "Fail link l."
use Rattle.std.specs.Prelude.{ℕ, ◌-◌, false, not, cond, List, [], ◌∷◌, leb, eqb, length}
use Rattle.model.specs.declared.Handled.TheVariants as handled
use Rattle.model.specs.declared.Went.TheVariants as went
use Rattle.model.specs.Answers as answers
use Rattle.model.specs.State.{link_of, Packet, State}
use Rattle.model.specs.Outcome.{Outcome, refuse, accepting, counted}

-- the packets on no lane of link l
unfoldable pub off : ℕ → List Packet → List Packet
off l [] = []
off l (p ∷ ps) = cond (eqb (link_of p.lane) l) (off l ps) (p ∷ off l ps)

-- "The link goes down at both ends at once. Its packets on both lanes are lost; the order of the others stays. Marks on both ends are
-- cleared; directions and bits keep their last values".
unfoldable pub cut : State → ℕ → State
cut s l =
    record {
      net = s.net;
      up = λ k. cond (eqb k l) false (s.up k);
      ends = record {
        out = s.ends.out;
        local = s.ends.local;
        remote = s.ends.remote;
        mark = λ x. cond (eqb (link_of x) l) false (s.ends.mark x);
      };
      turns = s.turns;
      flight = off l s.flight;
      counts = s.counts;
    }

unfoldable pub fail_of : State → ℕ → Outcome
fail_of s l =
    accepting s
    (cond (leb s.net.links l) (refuse s answers.no_such)
    (cond (not (s.up l)) (refuse s answers.link_down)
    -- "Fail and all refusals show "- -"."
    (record {
      state = counted (cut s l) 0 0 (length s.flight - length (off l s.flight)) 0;
      answer = answers.done;
      handled = handled.Nothing;
      went = went.Nowhere;
    })))
