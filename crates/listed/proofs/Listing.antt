-- What packets in a list tell an event, how many are on a link, and what an event leaves in the arrays. Assumes nothing.
use Prim.Native.Nat.{ℕ, zero, suc, ◌+◌, ◌≤◌, ◌<◌}
use native.Mathlib.Omega.{arith}
use mathlib.Core.Path.{◌≡◌, refl, sym, ap, ◌∙◌}
use mathlib.Core.Bool.{Bool, false}
use mathlib.Core.List.{List, [], ◌∷◌}
use lib.Dec.{eqb}
use lib.ListN.{length, get_or, length-append}
use borrow.Author.Tests.{ne_eqb}
use Rattle.model.specs.declared.Handled.{Handled}
use Rattle.model.specs.declared.Handled.TheVariants as handled
use Rattle.model.specs.declared.Went.{Went}
use Rattle.model.specs.declared.Went.TheVariants as went
use Rattle.model.specs.Limits.{ends_most, flight_most}
use Rattle.model.specs.Below.{tab}
use Rattle.model.specs.State.{Packet}
use Rattle.model.specs.Lanes.{on_lane, less}
use Rattle.model.specs.Fail.{off}
use Rattle.arrays.specs.View.{packet_at}
use Rattle.arrays.specs.Flight.{packets, flying_in}
use Rattle.arrays.specs.Told.{tells, left, flies}
use Rattle.arrays.proofs.Below.{length-tab}
use Rattle.arrays.proofs.Searches.{first_most}
use Rattle.packets.proofs.Packets.{lane_bare, lane_oldest, taken_out}
use Rattle.arrays.specs.declared.asked.Asked.{Asked}
use Rattle.arrays.specs.declared.record.Flight.{Flight}
use Rattle.packets.specs.Moves.{Removed, oldest_at}
use Rattle.std.specs.Prelude.{Some}
use Rattle.listed.specs.Asked.{Listed}
use Rattle.arrays.proofs.Leaving.{absent, tells_send, tells_link, tells_lane}

-- ---- no packet is on a lane past all
lane_past : (x : ℕ) (p : ℕ → Packet) (k : ℕ) → ((i : ℕ) → i < k → (p i).lane < ends_most) → ends_most ≤ x → on_lane x (tab p k) ≡ []
unfolding tab on_lane
lane_past x p zero h l = refl
lane_past x p (suc k) h l =
    rw (ne_eqb (p 0).lane x (λ e. omega (arith, h 0 (omega arith), e)))
    (lane_past x (λ i. p (suc i)) k (λ i b. h (suc i) (omega arith)) l)

-- ---- what they tell
module _ (f : Flight) (flying kind a : ℕ) where
  abbrev flight : List Packet
  flight = flying_in f flying

  -- where no packet is told of, there is no place to tell
  listed_absent : (gone : ℕ) (r : Asked) → r ≡ record { told = absent gone; at = 0 } → absent gone ≡ tells flight kind a
      → Listed f flying kind a r
  listed_absent gone r e h = rw e (record { told = h; at = λ o z. absurd cc; nowhere = λ z. refl })

  pub listed_send : (r : Asked) → r ≡ record { told = absent 0; at = 0 } → kind ≡ 1 → Listed f flying kind a r
  listed_send r e k = listed_absent 0 r e (tells_send flight kind a k)

  pub listed_link : (gone : ℕ) (r : Asked) → r ≡ record { told = absent gone; at = 0 } → kind ≡ 4 → gone + length (off a flight) ≡ flying
      → Listed f flying kind a r
  listed_link gone r e k h =
      listed_absent gone r e (tells_link flight kind a gone k (h ∙ sym (length-tab (packet_at f.number f.lane f.bit) flying)))

  module _ (n : kind ≡ 1 → ⊥) (m : kind ≡ 4 → ⊥) where
    pub listed_past : (r : Asked) → r ≡ record { told = absent 0; at = 0 } → ((i : ℕ) → i < flying → get_or f.lane i 0 < ends_most) → ends_most ≤ a
        → Listed f flying kind a r
    listed_past r e h l = listed_absent 0 r e (tells_lane flight kind a n m (lane_past a (packet_at f.number f.lane f.bit) flying h l))

    pub listed_none : (r : Asked) → r ≡ record { told = absent 0; at = 0 } → flying ≤ oldest_at f.lane flying a → Listed f flying kind a r
    listed_none r e h =
        listed_absent 0 r e (tells_lane flight kind a n m (lane_bare a (packet_at f.number f.lane f.bit) flying (omega (arith, h, most))))
      where
        most : oldest_at f.lane flying a ≤ 0 + flying
        most = first_most (λ j. eqb (get_or f.lane j 0) a) flying 0

    pub listed_oldest : (i : ℕ) → i ≡ oldest_at f.lane flying a → a < ends_most → i < flying
        → Listed f flying kind a
        (record { told = record { oldest = Some (record { number = get_or f.number i 0; bit = get_or f.bit i false }); gone = 0 }; at = i })
    listed_oldest i found l h =
        let oldest = lane_oldest a (packet_at f.number f.lane f.bit) flying (omega (arith, found)) in
        record {
          told = tells_lane flight kind a n m (oldest.1 ∙ ap (λ j. packet_at f.number f.lane f.bit j ∷ oldest.0) (sym found));
          at = λ o z. (l, found, h);
          nowhere = λ z. absurd cc;
        }

-- ---- what an event leaves in the arrays
module _ {number lane number' lane' : List ℕ} {bit bit' : List Bool} {i last : ℕ} where
  pub rest_there : (x flying : ℕ) → i ≡ oldest_at lane flying x → i < flying → last + 1 ≡ flying
      → Removed 0 i last number number' × Removed 0 i last lane lane' × Removed false i last bit bit'
      → packets number' lane' bit' last ≡ less x (packets number lane bit flying)
  rest_there x flying e h q r =
      let z : suc last ≡ flying = omega arith in
      rw (← z) (taken_out number lane bit number' lane' bit' x i last (rw z e) (omega arith) r.0 r.1 r.2)

-- ---- a packet that passes on has room
module _ (kind a : ℕ) (local : List Bool) (flight : List Packet) (answer : ℕ) (h : Handled) (w : Went) where
  -- it is one more
  passes_more : (n x : ℕ) → h ≡ handled.Packet n → w ≡ went.Lane x → length (flies kind a local flight answer h w) ≡ length (left kind a answer flight) + 1
  unfolding flies
  passes_more n x e f = rw (e, f) (length-append (left kind a answer flight) _)

  pub flies_room : (f : Flight) (stay : ℕ) → flying_in f stay ≡ left kind a answer flight
      → length (flies kind a local flight answer h w) ≤ flight_most → (n x : ℕ) → h ≡ handled.Packet n → w ≡ went.Lane x → stay < flight_most
  flies_room f stay e m n x p q =
      omega (arith, m, passes_more n x p q, ap length e, length-tab (packet_at f.number f.lane f.bit) stay)
