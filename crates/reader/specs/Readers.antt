-- What a reader is: the slice that it was given, itself, and a position.
use Rattle.std.specs.Prelude.{ℕ, List}
use Rattle.std.specs.Borrow.{Bor}
use Rattle.reader.specs.declared.Reader.{Reader}

abbrev pub reader_at : Bor (List ℕ) → ℕ → Reader
reader_at file at = record { file = file; at = at }
