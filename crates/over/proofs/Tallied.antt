-- The limits and the sum, as the code tests them. Assumes nothing.
use Prim.Native.Nat.{ℕ, ◌+◌, ◌≤◌, ◌<◌}
use native.Mathlib.Omega.{arith}
use mathlib.Core.Path.{◌≡◌, refl}
use mathlib.Core.Bool.{Bool, true, false, ◌&&◌, and-false}
use lib.Dec.{leb, eqb}
use borrow.Author.Tests.{le-leb, lt-leb}
use Rattle.model.specs.Limits.{flight_most, events_most}
use Rattle.model.specs.Formed.{sized}
use Rattle.arrays.specs.declared.record.Tally.{Tally}
use Rattle.over.specs.Formed.{tallied}

module _ (nodes destination links : ℕ) (t : Tally) where
  pub tallied_over : flight_most < t.flying → false ≡ tallied nodes destination links t
  unfolding tallied
  tallied_over h = rw (lt-leb t.flying flight_most h, and-false (sized nodes destination links))

  regroup : (s e a q : Bool) → ((s && (e && a)) && q) ≡ (((s && true) && e) && (a && q))
  regroup false e a q = refl
  regroup true false a q = refl
  regroup true true a q = refl

  pub tallied_within : t.flying ≤ flight_most
      → ((sized nodes destination links && (leb t.events events_most && leb t.admitted t.events))
      && eqb t.admitted (t.flying + (t.delivered + t.lost + t.stranded)))
      ≡ tallied nodes destination links t
  unfolding tallied
  tallied_within h =
      let e : t.flying + (t.delivered + t.lost + t.stranded) ≡ t.flying + t.delivered + t.lost + t.stranded = omega arith in
      rw (e, le-leb t.flying flight_most h)
      (regroup (sized nodes destination links) (leb t.events events_most) (leb t.admitted t.events) (eqb t.admitted (t.flying + t.delivered + t.lost + t.stranded)))
