-- A run of the code is a history of its events. Assumes nothing.
use Prim.Native.Nat.{ℕ, zero, suc}
use mathlib.Core.Path.{◌≡◌, refl, sym, ap, ◌∙◌, subst}
use mathlib.Core.List.{List, [], ◌∷◌, ◌++◌}
use mathlib.Core.Option.{Option, none, some}
use lib.ListN.{get_or}
use Rattle.model.specs.State.{State}
use Rattle.model.specs.Outcome.{Outcome}
use Rattle.model.specs.Opening.{Opening}
use Rattle.model.specs.Events.{Event, send, deliver, lose, fail, event}
use Rattle.model.specs.File.{of_kind}
use Rattle.model.specs.History.{History, start, next}
use Rattle.model.proofs.Promises.{turns_bounded, turns_counted, ends_agree, four_places}
use Rattle.network.specs.declared.record.Network.{Network}
use Rattle.network.specs.View.{view}
use Rattle.steps.specs.Call.{made, call}
use Rattle.notes.specs.Bursts.{calls}
use Rattle.network.specs.Runs.{event_if, events_in, Run, opened, sent, delivered, lost, failed, applied, burst, events_of, CodeKeeps}
use Rattle.steps.proofs.Calls.{none_kept}

record Past (s : State) (es : List Event) : Type 0 where
  pub history : History s
  pub these : events_of history ≡ es

moved : {s t : State} {es : List Event} → t ≡ s → Past s es → Past t es
moved {es = es} e p = subst (λ z. Past z es) (sym e) p

nothing_more : (es : List Event) → es ≡ es ++ []
nothing_more [] = refl
nothing_more (e ∷ es) = ap (λ l. e ∷ l) (nothing_more es)

joined : (xs ys zs : List Event) → (xs ++ ys) ++ zs ≡ xs ++ (ys ++ zs)
joined [] ys zs = refl
joined (x ∷ xs) ys zs = ap (λ l. x ∷ l) (joined xs ys zs)

one_more : (s : State) (es : List Event) (e : Event) → Past s es → Past (event s e).state (es ++ (e ∷ []))
unfolding events_of
one_more s es e p = record { history = next p.history e; these = ap (λ l. l ++ (e ∷ [])) p.these }

by_kind : (s : State) (es : List Event) (m : Option (ℕ → Event)) (a : ℕ) → Past s es → Past (made s m a).state (es ++ event_if m a)
by_kind s es none a p = subst (λ l. Past (made s none a).state l) (nothing_more es) (moved (none_kept s) p)
by_kind s es (some make) a p = one_more s es (make a) p

by_call : (s : State) (es : List Event) (kind a : ℕ) → Past s es → Past (call s kind a).state (es ++ event_if (of_kind kind) a)
unfolding call
by_call s es kind a p = by_kind s es (of_kind kind) a p

by_calls : (s : State) (es : List Event) (kinds arguments : List ℕ) (k : ℕ) → Past s es
    → Past (calls s kinds arguments k) (es ++ events_in kinds arguments k)
unfolding calls events_in
by_calls s es kinds arguments zero p = subst (λ l. Past s l) (nothing_more es) p
by_calls s es kinds arguments (suc k) p =
    subst (λ l. Past (calls s kinds arguments (suc k)) l) (joined es (events_in kinds arguments k) (event_if (of_kind (get_or kinds k 0)) (get_or arguments k 0)))
    (by_call (calls s kinds arguments k) (es ++ events_in kinds arguments k) (get_or kinds k 0) (get_or arguments k 0) (by_calls s es kinds arguments k p))

past : (n : Network) (es : List Event) → Run n es → Past (view n) es
unfolding event events_of
past n es (opened nodes destination list r p z) =
    let h = start nodes destination list (sym (ap (λ (o : Opening). o.answer) p.outcome) ∙ z) in
    moved (ap (λ (o : Opening). o.state) p.outcome) (record { history = h; these = refl })
past n es (sent m fs c v r p) = moved (ap (λ (o : Outcome). o.state) p.outcome) (one_more (view m) fs (send v) (past m fs c))
past n es (delivered m fs c x r p) = moved (ap (λ (o : Outcome). o.state) p.outcome) (one_more (view m) fs (deliver x) (past m fs c))
past n es (lost m fs c x r p) = moved (ap (λ (o : Outcome). o.state) p.outcome) (one_more (view m) fs (lose x) (past m fs c))
past n es (failed m fs c l r p) = moved (ap (λ (o : Outcome). o.state) p.outcome) (one_more (view m) fs (fail l) (past m fs c))
past n es (applied m fs c kind a r p) = moved (ap (λ (o : Outcome). o.state) p.outcome) (by_call (view m) fs kind a (past m fs c))
past n es (burst m fs c kinds arguments an ps ws an' ps' ws' r p) =
    moved p.outcome (by_calls (view m) fs kinds arguments r.count (past m fs c))

pub code_keeps : CodeKeeps
code_keeps n es c =
    let p = past n es c in
    let s = view n in
    let h = p.history in
    record {
      history = h;
      these = p.these;
      bounded = turns_bounded s h;
      counted = turns_counted.kept s h;
      destination = turns_counted.destination s h;
      never_both_in = ends_agree.never_both_in s h;
      agree = ends_agree.agree s h;
      untold = ends_agree.untold s h;
      once = four_places.once s h;
      nowhere = four_places.nowhere s h;
      flying_all = four_places.flying s h;
      in_all = four_places.delivered s h;
      lost_all = four_places.lost s h;
      stranded_all = four_places.stranded s h;
    }
