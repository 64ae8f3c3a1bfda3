-- A call of the code, by the contract as the source states it (`Reads.Post`), makes a run longer by its event. Assumes nothing.
use mathlib.Core.Path.{◌≡◌}
use mathlib.Core.List.{List, [], ◌∷◌, ◌++◌}
use contract.Lifetimes.{Lfts}
use denote.Triple.Clauses.{AtExit}
use borrow.Fn.Kinds.{Dens, ended_of}
use Rattle.model.specs.Answers as answers
use Rattle.model.specs.Events.{Event}
use Rattle.model.specs.Events as events
use Rattle.model.specs.File.{of_kind}
use Rattle.departs.specs.declared.tally.Step.{Step}
use Rattle.lent.proofs.apply.Kinds as lent_kinds
use Rattle.lent.proofs.apply.Reads as lent
use Rattle.network.specs.declared.opening.Opened.{Opened}
use Rattle.network.specs.declared.record.Network.{Network}
use Rattle.network.specs.declared.record.Moved.{Moved}
use Rattle.network.specs.Runs.{event_if, Run, opened, sent, delivered, lost, failed, applied}
use Rattle.network.proofs.Remade.{remade, moved, called}
use Rattle.network.proofs.record.Network.apply.Kinds as apply_kinds
use Rattle.network.proofs.record.Network.apply.Reads as apply
use Rattle.network.proofs.record.Network.send.Kinds as send_kinds
use Rattle.network.proofs.record.Network.send.Reads as send
use Rattle.network.proofs.record.Network.deliver.Kinds as deliver_kinds
use Rattle.network.proofs.record.Network.deliver.Reads as deliver
use Rattle.network.proofs.record.Network.lose.Kinds as lose_kinds
use Rattle.network.proofs.record.Network.lose.Reads as lose
use Rattle.network.proofs.record.Network.fail.Kinds as fail_kinds
use Rattle.network.proofs.record.Network.fail.Reads as fail
use Rattle.network.proofs.open.Kinds as opening_kinds
use Rattle.network.proofs.open.Reads as opening

pub open_runs : (κs : Lfts 1) (a : Dens κs opening_kinds.ps) (r : Opened) (x : AtExit (ended_of 1 opening_kinds.ps opening_kinds.r) κs)
    → opening.Post κs a r x → r.answer ≡ answers.done → Run r.network []
open_runs κs a r x p done = opened a.0 a.1.0 a.1.1.0.now r p done

pub send_runs : (κs : Lfts 0) (a : Dens κs send_kinds.ps) (r : Moved) (x : AtExit (ended_of 0 send_kinds.ps send_kinds.r) κs)
    → send.Post κs a r x → (es : List Event) → Run a.0 es → Run r.network (es ++ (events.send a.1.0 ∷ []))
send_runs κs a r x p es h = sent a.0 es h a.1.0 r p

pub deliver_runs : (κs : Lfts 0) (a : Dens κs deliver_kinds.ps) (r : Moved) (x : AtExit (ended_of 0 deliver_kinds.ps deliver_kinds.r) κs)
    → deliver.Post κs a r x → (es : List Event) → Run a.0 es → Run r.network (es ++ (events.deliver a.1.0 ∷ []))
deliver_runs κs a r x p es h = delivered a.0 es h a.1.0 r p

pub lose_runs : (κs : Lfts 0) (a : Dens κs lose_kinds.ps) (r : Moved) (x : AtExit (ended_of 0 lose_kinds.ps lose_kinds.r) κs)
    → lose.Post κs a r x → (es : List Event) → Run a.0 es → Run r.network (es ++ (events.lose a.1.0 ∷ []))
lose_runs κs a r x p es h = lost a.0 es h a.1.0 r p

pub fail_runs : (κs : Lfts 0) (a : Dens κs fail_kinds.ps) (r : Moved) (x : AtExit (ended_of 0 fail_kinds.ps fail_kinds.r) κs)
    → fail.Post κs a r x → (es : List Event) → Run a.0 es → Run r.network (es ++ (events.fail a.1.0 ∷ []))
fail_runs κs a r x p es h = failed a.0 es h a.1.0 r p

pub apply_runs : (κs : Lfts 0) (a : Dens κs apply_kinds.ps) (r : Moved) (x : AtExit (ended_of 0 apply_kinds.ps apply_kinds.r) κs)
    → apply.Post κs a r x → (es : List Event) → Run a.0 es → Run r.network (es ++ event_if (of_kind a.1.0) a.1.1.0)
apply_runs κs a r x p es h = applied a.0 es h a.1.0 a.1.1.0 r p

-- and so does a call in place, on the record that the lent parts make
abbrev pub lent_as : (κs : Lfts 3) → Dens κs lent_kinds.ps → Network
lent_as κs a = record { plan = a.0.now; arrows = a.1.0.now; flight = a.1.1.0.now; tally = a.1.1.1.0 }

pub lent_runs : (κs : Lfts 3) (a : Dens κs lent_kinds.ps) (r : Step) (x : AtExit (ended_of 3 lent_kinds.ps lent_kinds.r) κs)
    → lent.Post κs a r x → (es : List Event) → Run (lent_as κs a) es
    → let call = a.1.1.1.1 in
    Run (remade (lent_as κs a) call.0 call.1.0 x.1.0.now x.1.1.0.now r) (es ++ event_if (of_kind call.0) call.1.0)
lent_runs κs a r x p es h =
    let n = lent_as κs a in
    let call = a.1.1.1.1 in
    applied n es h call.0 call.1.0 (moved n call.0 call.1.0 x.1.0.now x.1.1.0.now r) (called n call.0 call.1.0 x.1.0.now x.1.1.0.now r p)
