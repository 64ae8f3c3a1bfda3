-- "Deliver lane x. The oldest packet of lane x, bit p, reaches the other end of link L at node v."
use Rattle.std.specs.Prelude.{ℕ, Bool, false, not, cond, ◌&&◌, eqb}
use Rattle.std.specs.Bool.{xor}
use Rattle.model.specs.declared.Went.TheVariants as went
use Rattle.model.specs.Answers as answers
use Rattle.model.specs.State.{opp, State}
use Rattle.model.specs.Outcome.{Outcome, refuse, counted, gives, leaves, onward}
use Rattle.model.specs.Lanes.{taken, off_lane}

-- "the end becomes In and its remote bit flips. Its mark stays clear."
unfoldable pub news : State → ℕ → State
news s y =
    record {
      net = s.net;
      up = s.up;
      ends = record {
        out = λ x. cond (eqb x y) false (s.ends.out x);
        local = s.ends.local;
        remote = λ x. cond (eqb x y) (not (s.ends.remote x)) (s.ends.remote x);
        mark = s.ends.mark;
      };
      turns = s.turns;
      flight = s.flight;
      counts = s.counts;
    }

-- at end y, which was Out on arrival, or not; the bit was new to it, or not; s is without the packet n
unfoldable pub arrives : State → ℕ → ℕ → Bool → Bool → Outcome
arrives s y n was_out is_new =
    -- 2. "End is Out and p differs from remote": news
    let t = cond (was_out && is_new) (news s y) s in
    let v = s.net.node y in
    -- 3. "At the destination: delivered, nothing more."
    cond (eqb v s.net.destination) (gives (counted t 0 1 0 0) n went.Delivered)
    -- 4. "If the end was Out on arrival and p equals remote: the packet goes back on L, and nowhere else."
    (cond (was_out && not is_new) (leaves (counted t 0 0 0 0) y n)
    -- 5. "Otherwise: departure update, then the lowest-numbered live Out link."
    (onward (counted t 0 0 0 0) v n))

unfoldable pub deliver_on : State → ℕ → Outcome
deliver_on s x =
    off_lane s x λ p.
    let y = opp x in
    let is_new = xor p.bit (s.ends.remote y) in
    -- 1. "End is In and p differs from its remote bit: answer 10."
    cond (not (s.ends.out y) && is_new) (refuse s answers.out_of_step)
    (arrives (taken s x) y p.number (s.ends.out y) is_new)
