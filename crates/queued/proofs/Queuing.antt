-- What packets in queues tell an event, and where the oldest is. Assumes nothing.
use Prim.Native.Nat.{ℕ, ◌+◌, ◌<◌}
use native.Mathlib.Omega.{arith}
use mathlib.Core.Path.{◌≡◌, refl}
use mathlib.Core.Bool.{false}
use mathlib.Core.List.{List, []}
use lib.ListN.{length, get_or}
use Rattle.std.specs.Prelude.{Some}
use Rattle.model.specs.Limits.{ends_most}
use Rattle.model.specs.Lanes.{on_lane}
use Rattle.model.specs.Fail.{off}
use Rattle.arrays.specs.declared.asked.Asked.{Asked}
use Rattle.arrays.specs.Told.{tells}
use Rattle.arrays.proofs.Leaving.{absent, tells_send, tells_link, tells_lane}
use Rattle.queues.specs.declared.queue.Queues.{Queues}
use Rattle.queues.specs.Queue.{room, flown, InOrder}
use Rattle.queues.proofs.Oldest.{queued_oldest}
use Rattle.queued.specs.Asked.{Queueing}

module _ (q : Queues) (kind a : ℕ) where
  -- where no packet is told of, there is no place to tell
  told_absent : (gone : ℕ) → absent gone ≡ tells (flown q) kind a → (r : Asked) → r ≡ record { told = absent gone; at = 0 } → Queueing q kind a r
  told_absent gone e r same = rw same record { told = e; at = λ o t. absurd cc; nowhere = λ t. refl }

  pub told_send : kind ≡ 1 → (r : Asked) → r ≡ record { told = absent 0; at = 0 } → Queueing q kind a r
  told_send k = told_absent 0 (tells_send (flown q) kind a k)

  pub told_link : kind ≡ 4 → (gone : ℕ) → gone + length (off a (flown q)) ≡ length (flown q) → (r : Asked) → r ≡ record { told = absent gone; at = 0 }
      → Queueing q kind a r
  told_link k gone e = told_absent gone (tells_link (flown q) kind a gone k e)

  module _ (n : kind ≡ 1 → ⊥) (m : kind ≡ 4 → ⊥) where
    pub told_none : on_lane a (flown q) ≡ [] → (r : Asked) → r ≡ record { told = absent 0; at = 0 } → Queueing q kind a r
    told_none e = told_absent 0 (tells_lane (flown q) kind a n m e)

    -- the first slot of the lane
    pub told_first : {last after : List ℕ} → InOrder q.lane q.first last after q.used → (i : ℕ) → a < ends_most → i ≡ get_or q.first a 0 → i < room
        → Queueing q kind a
        (record { told = record { oldest = Some (record { number = get_or q.number i 0; bit = get_or q.bit i false }); gone = 0 }; at = i })
    told_first s i l f h =
        let r : get_or q.first a 0 < room = omega (arith, f, h) in
        rw f
        (record {
          told = tells_lane (flown q) kind a n m (queued_oldest s q.number q.bit a l r).1;
          at = λ o t. (l, refl, r);
          nowhere = λ t. absurd cc;
        })
