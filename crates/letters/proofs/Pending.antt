-- Writing in parts: what was stored, with the stores that are left, is the whole. Assumes nothing.
use Prim.Native.Nat.{ℕ, ◌+◌, ◌≤◌}
use native.Mathlib.Omega.{arith}
use mathlib.Core.Path.{◌≡◌, refl, sym, ap, ◌∙◌}
use mathlib.Core.List.{List, [], ◌∷◌, ◌++◌}
use lib.ListN.{length, length-append}
use lib.Seq.{sets, length-sets}
use Rattle.model.specs.Limits.{text_most}
use Rattle.groups.proofs.Stores.{sets_append}
use Rattle.letters.specs.declared.page.Page.{Page}
use Rattle.letters.specs.Puts.{Room, Put}

-- `rest` is left of `whole`
pub record Pending (p : Page) (whole : List ℕ) (q : Page) (rest : List ℕ) : Type 0 where
  pub same : q.out.ghost_name ≡ p.out.ghost_name
  pub size : length q.out.now ≡ text_most
  pub fits : q.at + length rest ≤ text_most
  pub ends : q.at + length rest ≡ p.at + length whole
  pub stores : sets q.out.now q.at rest ≡ sets p.out.now p.at whole

module _ {p : Page} {whole : List ℕ} where
  pub begin : Room p whole → Pending p whole p whole
  begin r = record { same = refl; size = r.size; fits = r.fits; ends = refl; stores = refl }

  module _ {q : Page} where
    -- the rest in other words
    pub say : {rest other : List ℕ} → rest ≡ other → Pending p whole q rest → Pending p whole q other
    say e d = record {
      same = d.same;
      size = d.size;
      fits = omega (arith, d.fits, ap length e);
      ends = omega (arith, d.ends, ap length e);
      stores = ap (sets q.out.now q.at) (sym e) ∙ d.stores;
    }

    -- room for all that is left, and for its first part
    pub room_all : {rest : List ℕ} → Pending p whole q rest → Room q rest
    room_all d = record { size = d.size; fits = d.fits }

    pub room : (a more : List ℕ) → Pending p whole q (a ++ more) → Room q a
    room a more d = record { size = d.size; fits = omega (arith, d.fits, length-append a more) }

    pub step : (a more : List ℕ) {r : Page} → Pending p whole q (a ++ more) → Put q a r → Pending p whole r more
    step a more d e =
        record {
          same = e.same ∙ d.same;
          size = ap length e.stores ∙ length-sets q.out.now q.at a ∙ d.size;
          fits = omega (arith, d.fits, e.next, length-append a more);
          ends = omega (arith, d.ends, e.next, length-append a more);
          stores = rw (e.stores, e.next) (sets_append a more q.out.now q.at) ∙ d.stores;
        }

    -- the last part
    pub last : {rest : List ℕ} {r : Page} → Pending p whole q rest → Put q rest r → Put p whole r
    last d e = record { same = e.same ∙ d.same; next = e.next ∙ d.ends; stores = e.stores ∙ d.stores }

    pub finish : {rest : List ℕ} → rest ≡ [] → Pending p whole q rest → Put p whole q
    finish e d =
        record { same = d.same; next = omega (arith, d.ends, ap length e); stores = ap (sets q.out.now q.at) (sym e) ∙ d.stores }

    -- a part that is one byte
    pub room_byte : {a b : ℕ} {more : List ℕ} → b ≡ a → Pending p whole q (a ∷ more) → Room q (b ∷ [])
    room_byte {a} {b} {more} e d = record { size = d.size; fits = omega (arith, d.fits) }

    pub step_byte : {a b : ℕ} {more : List ℕ} {r : Page} → b ≡ a → Pending p whole q (a ∷ more) → Put q (b ∷ []) r
        → Pending p whole r more
    step_byte {a} {b} {more} e d o = step (b ∷ []) more (say (ap (λ (d : ℕ). d ∷ more) (sym e)) d) o

    pub last_byte : {a b : ℕ} {r : Page} → b ≡ a → Pending p whole q (a ∷ []) → Put q (b ∷ []) r → Put p whole r
    last_byte e d o = last (say (ap (λ (d : ℕ). d ∷ []) (sym e)) d) o
