-- Two outcomes that a public function's contract allows are equal. `Reads.Post` is the contract as the source states it.
-- Assumes nothing.
use Prim.Native.Nat.{ℕ}
use mathlib.Core.Path.{◌≡◌, refl, sym, ap, ◌∙◌}
use mathlib.Core.List.{List, [], ◌∷◌}
use mathlib.Core.Option as math
use Rattle.std.specs.Prelude.{Option, None, Some, Result, Ok, Err}
use contract.Lifetimes.{Lfts}
use denote.Triple.Clauses.{AtExit}
use borrow.Fn.Kinds.{ParamKind, ResultKind, Dens, res_t, ended_of, Out}
use Rattle.model.specs.Number.{Read, had, refused}
use Rattle.groups.specs.declared.answers.Number.{Number}
use Rattle.groups.specs.declared.answers.Spoilt.{Spoilt}
use Rattle.groups.specs.declared.answers.Groups.{Groups}
use Rattle.groups.specs.declared.answers.Groups.TheVariants.{One, Two, Three}
use Rattle.groups.specs.Numbers.{number_of, bytes_of}
use Rattle.groups.proofs.read_number.Kinds as read_number_kinds
use Rattle.groups.proofs.read_number.Reads as read_number
use Rattle.groups.proofs.split.Kinds as split_kinds
use Rattle.groups.proofs.split.Reads as split

-- an answer can be told from what it stands for
abbrev number_from : Read ℕ → Result Number Spoilt
number_from (had v next) = Ok (record { value = v; next = next })
number_from (refused answer place) = Err (record { place = place })

number_back : (r : Result Number Spoilt) → number_from (number_of r) ≡ r
number_back (Ok n) = refl
number_back (Err s) = refl

abbrev groups_of : math.Option (List ℕ) → Option Groups
groups_of math.none = None
groups_of (math.some []) = None
groups_of (math.some (a ∷ [])) = Some (One a)
groups_of (math.some (a ∷ b ∷ [])) = Some (Two a b)
groups_of (math.some (a ∷ b ∷ c ∷ l)) = Some (Three a b c)

groups_back : (r : Option Groups) → groups_of (bytes_of r) ≡ r
groups_back None = refl
groups_back (Some (One a)) = refl
groups_back (Some (Two a b)) = refl
groups_back (Some (Three a b c)) = refl

abbrev pub OneAnswer : (n : ℕ) (ps : List (ParamKind n)) (k : ResultKind n) → Out n ps k → Type 0
OneAnswer n ps k Post =
    (κs : Lfts n) (a : Dens κs ps) (r r' : (res_t k κs).Denot) (x x' : AtExit (ended_of n ps k) κs)
    → Post κs a r x → Post κs a r' x' → r ≡ r'

pub read_number_one : OneAnswer 1 read_number_kinds.ps read_number_kinds.r read_number.Post
read_number_one κs a r r' x x' p q = sym (number_back r) ∙ ap number_from (p ∙ sym q) ∙ number_back r'

pub split_one : OneAnswer 0 split_kinds.ps split_kinds.r split.Post
split_one κs a r r' x x' p q = sym (groups_back r) ∙ ap groups_of (p ∙ sym q) ∙ groups_back r'
