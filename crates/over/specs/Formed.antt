-- What the check of a record tests on numbers alone.
use Rattle.std.specs.Prelude.{ℕ, ◌+◌, Bool, ◌&&◌, leb, eqb}
use Rattle.model.specs.Limits.{flight_most, events_most}
use Rattle.model.specs.Formed.{sized}
use Rattle.arrays.specs.declared.record.Tally.{Tally}

-- "the limits hold", "admitted .. at most events", "and admitted = in flight + delivered + lost + stranded"
unfoldable pub tallied : ℕ → ℕ → ℕ → Tally → Bool
tallied nodes destination links t =
    sized nodes destination links
    && leb t.flying flight_most
    && leb t.events events_most
    && (leb t.admitted t.events && eqb t.admitted (t.flying + t.delivered + t.lost + t.stranded))
