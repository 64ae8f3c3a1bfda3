-- The ways through a send. Assumes nothing.
use Prim.Native.Nat.{ℕ, ◌≤◌, ◌<◌}
use mathlib.Core.Path.{◌≡◌}
use mathlib.Core.Bool.{true, false}
use lib.ListN.{length}
use borrow.Author.Tests.{le-leb, lt-leb, eq-eqb, ne_eqb}
use Rattle.model.specs.declared.Went.TheVariants as went
use Rattle.model.specs.Limits.{flight_most, events_most}
use Rattle.model.specs.Answers as answers
use Rattle.model.specs.State.{State, lanes}
use Rattle.model.specs.Formed.{well_formed}
use Rattle.model.specs.Departure.{live_at, out_at, has_live, has_out}
use Rattle.model.specs.Outcome.{refuse, accepting, counted, gives, onward}
use Rattle.model.specs.Send.{send_to}
use Rattle.model.proofs.Below.{and_both, any_here, any_found}

pub out_live : (s : State) (v : ℕ) → has_out s v ≡ true → has_live s v ≡ true
unfolding has_out has_live
out_live s v e =
    let f = any_found (out_at s v) (lanes s) e in
    any_here (live_at s v) (lanes s) f.0 f.1 (and_both (live_at s v f.0) (s.ends.out f.0) f.2).0

module _ (s : State) (v : ℕ) (formed : well_formed s ≡ true) (room : s.counts.events < events_most) where
  pub send_no_such : s.net.nodes ≤ v → refuse s answers.no_such ≡ send_to s v
  unfolding send_to accepting
  send_no_such h = rw (formed, lt-leb events_most s.counts.events room, le-leb s.net.nodes v h)

  module _ (node : v < s.net.nodes) where
    pub send_arrives : v ≡ s.net.destination → gives (counted s 1 1 0 0) s.counts.admitted went.Delivered ≡ send_to s v
    unfolding send_to accepting
    send_arrives e = rw (formed, lt-leb events_most s.counts.events room, lt-leb s.net.nodes v node, eq-eqb v s.net.destination e)

    module _ (away : v ≡ s.net.destination → ⊥) where
      pub send_strands : has_live s v ≡ false → gives (counted s 1 0 0 1) s.counts.admitted went.Stranded ≡ send_to s v
      unfolding send_to accepting
      send_strands e =
          rw (formed, lt-leb events_most s.counts.events room, lt-leb s.net.nodes v node, ne_eqb v s.net.destination away, e)

      pub send_full : has_live s v ≡ true → flight_most ≤ length s.flight → refuse s answers.flight_full ≡ send_to s v
      unfolding send_to accepting
      send_full e h =
          rw (
            formed,
            lt-leb events_most s.counts.events room,
            lt-leb s.net.nodes v node,
            ne_eqb v s.net.destination away,
            e,
            le-leb flight_most (length s.flight) h,
          )

      pub send_goes : has_live s v ≡ true → length s.flight < flight_most → onward (counted s 1 0 0 0) v s.counts.admitted ≡ send_to s v
      unfolding send_to accepting
      send_goes e h =
          rw (
            formed,
            lt-leb events_most s.counts.events room,
            lt-leb s.net.nodes v node,
            ne_eqb v s.net.destination away,
            e,
            lt-leb flight_most (length s.flight) h,
          )
