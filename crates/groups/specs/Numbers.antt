-- What the answers of this crate stand for in `model`.
use Rattle.std.specs.Prelude.{ℕ, cond, List, [], ◌∷◌, leb, Option, None, Some, Result, Ok, Err}
use Rattle.std.proofs.Math.Option as math
use Rattle.model.specs.Limits.{number_most}
use Rattle.model.specs.Answers as answers
use Rattle.model.specs.Number.{number_bytes, Read, had, refused}
use Rattle.groups.specs.declared.answers.Number.{Number}
use Rattle.groups.specs.declared.answers.Spoilt.{Spoilt}
use Rattle.groups.specs.declared.answers.Groups.{Groups}
use Rattle.groups.specs.declared.answers.Groups.TheVariants.{One, Two, Three}

abbrev pub number_of : Result Number Spoilt → Read ℕ
number_of (Ok n) = had n.value n.next
number_of (Err s) = refused answers.spoilt s.place

abbrev pub bytes_in : Groups → List ℕ
bytes_in (One a) = a ∷ []
bytes_in (Two a b) = a ∷ b ∷ []
bytes_in (Three a b c) = a ∷ b ∷ c ∷ []

abbrev pub bytes_of : Option Groups → math.Option (List ℕ)
bytes_of None = math.none
bytes_of (Some g) = math.some (bytes_in g)

-- "Largest value 2,097,151."
unfoldable pub write_number : ℕ → math.Option (List ℕ)
write_number n = cond (leb n number_most) (math.some (number_bytes n)) math.none
