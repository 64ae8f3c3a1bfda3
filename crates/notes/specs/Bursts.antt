-- Events by kind and argument one after the other, and what each gives as numbers in three lists.
use Rattle.std.specs.Prelude.{ℕ, zero, suc, ◌+◌, cond, List, ◌++◌, ◌≡◌, ltb, length, get_or, drop}
use Rattle.model.specs.declared.Handled.{Handled}
use Rattle.model.specs.declared.Handled.TheVariants as handled
use Rattle.model.specs.declared.Went.{Went}
use Rattle.model.specs.declared.Went.TheVariants as went
use Rattle.model.specs.Limits.{ends_most, events_most}
use Rattle.model.specs.Below.{tab}
use Rattle.model.specs.State.{State}
use Rattle.model.specs.Outcome.{Outcome}
use Rattle.steps.specs.Call.{call}

-- the state after the first k calls of two lists
unfoldable pub calls : State → List ℕ → List ℕ → ℕ → State
calls s kinds arguments zero = s
calls s kinds arguments (suc k) = (call (calls s kinds arguments k) (get_or kinds k 0) (get_or arguments k 0)).state

-- what call k gives
abbrev pub call_at : State → List ℕ → List ℕ → ℕ → Outcome
call_at s kinds arguments k = call (calls s kinds arguments k) (get_or kinds k 0) (get_or arguments k 0)

-- packets are numbered below the limit of events, which stands for none
abbrev pub packet_code : Handled → ℕ
packet_code (handled.Packet n) = n
packet_code handled.Nothing = events_most

-- a lane is its own number; the other ways come after the lanes
abbrev pub way_code : Went → ℕ
way_code (went.Lane x) = x
way_code went.Delivered = ends_most
way_code went.Lost = ends_most + 1
way_code went.Stranded = ends_most + 2
way_code went.Nowhere = ends_most + 3

abbrev pub least : ℕ → ℕ → ℕ
least a b = cond (ltb a b) a b

-- the first k entries of a list become a function's values; the others stay
abbrev pub filled : (ℕ → ℕ) → ℕ → List ℕ → List ℕ
filled f k xs = tab f k ++ drop k xs

pub record Lists (s : State) (kinds arguments : List ℕ) (k : ℕ) (answers packets ways answers' packets' ways' : List ℕ) : Type 0 where
  pub answered : answers' ≡ filled (λ i. (call_at s kinds arguments i).answer) k answers
  pub handled : packets' ≡ filled (λ i. packet_code (call_at s kinds arguments i).handled) k packets
  pub went : ways' ≡ filled (λ i. way_code (call_at s kinds arguments i).went) k ways

-- as many calls as the shortest list holds
abbrev pub shortest : List ℕ → List ℕ → List ℕ → List ℕ → List ℕ → ℕ
shortest kinds arguments answers packets ways =
    least (length kinds) (least (length arguments) (least (length answers) (least (length packets) (length ways))))
