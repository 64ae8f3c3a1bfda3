-- Two outcomes that the contract of `text` allows are equal: the number given back, and the part at exit. `Reads.Post` is the contract as the
-- source states it. Assumes nothing.
use mathlib.Core.Path.{◌≡◌, sym, ◌∙◌}
use contract.Lifetimes.{Lfts}
use denote.Triple.Clauses.{AtExit}
use borrow.Fn.Kinds.{Dens, res_t, ended_of}
use Rattle.replay.proofs.text.Kinds as text_kinds
use Rattle.replay.proofs.text.Reads as text

pub text_one : (κs : Lfts 2) (a : Dens κs text_kinds.ps) (r r' : (res_t text_kinds.r κs).Denot)
    (x x' : AtExit (ended_of 2 text_kinds.ps text_kinds.r) κs)
    → text.Post κs a r x → text.Post κs a r' x' → (r ≡ r') × (x.1.0.now ≡ x'.1.0.now)
text_one κs a r r' x x' p q = (p.count ∙ sym q.count, p.bytes ∙ sym q.bytes)
