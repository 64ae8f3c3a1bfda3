-- A number by its thousands and the rest, and a space: two halves of rows, the second stored over the end of the first. Assumes nothing.
use Prim.Native.Nat.{ℕ, ◌+◌, ◌*◌, ◌≤◌, ◌<◌}
use native.Mathlib.Omega.{arith}
use mathlib.Core.Path.{◌≡◌, sym, ap, ◌∙◌}
use mathlib.Core.List.{List, [], ◌∷◌, ◌++◌, append_assoc}
use lib.ListN.{length, get_or, length-append}
use lib.Seq.{sets, length-sets}
use Rattle.model.specs.Limits.{text_most}
use Rattle.model.specs.Text.{ascii, digits}
use Rattle.letters.specs.declared.page.Page.{Page}
use Rattle.letters.specs.Puts.{Room, Put}
use Rattle.letters.specs.Digits.{thousand, joined, wide, back, digit_rows, half_at}
use Rattle.letters.proofs.Decimals.{last_three, joined_digits}
use Rattle.letters.proofs.Over.{sets_over}
use Rattle.letters.proofs.DigitRows.{front_is, front_bytes, front_count, back_bytes}

pub no_thousands : (thousands rest : ℕ) → thousands ≡ 0 → digits (joined thousands rest) ++ ascii " " ≡ digits rest ++ 32 ∷ []
unfolding ascii
no_thousands thousands rest z =
    let e : joined thousands rest ≡ rest = omega arith in
    ap (λ n. digits n ++ ascii " ") e

module _ {table : List ℕ} (rows : table ≡ digit_rows) (thousands rest : ℕ) (some : thousands ≡ 0 → ⊥) (below : thousands < thousand) (s : rest < thousand) where
  two_halves : digits (joined thousands rest) ++ ascii " " ≡ digits thousands ++ back rest
  unfolding ascii
  two_halves =
      ap (λ x. x ++ ascii " ") (joined_digits thousands rest (omega arith) s) ∙ append_assoc (digits thousands) (last_three rest) (ascii " ")

  long : length (digits (joined thousands rest) ++ ascii " ") ≡ length (digits thousands) + 4
  long = ap length two_halves ∙ length-append (digits thousands) (back rest)

  module _ {p : Page} (room : Room p (digits (joined thousands rest) ++ ascii " ")) where
    pub first_room : Room p (half_at table (wide * thousands))
    first_room = record { size = room.size; fits = omega (arith, room.fits, long) }

    module _ {count : ℕ} (k : count ≡ get_or table (wide * thousands + 3) 0) where
      counted : count ≡ length (digits thousands)
      counted = k ∙ front_count rows thousands below

      pub second_fits : p.at + count ≤ text_most
      second_fits = omega (arith, room.fits, long, counted)

      -- q is the page after the first half, and r the same with the position after the digits
      module _ {q r : Page} (w : Put p (half_at table (wide * thousands)) q) (same : r.out.ghost_name ≡ q.out.ghost_name) (text : r.out.now ≡ q.out.now) (place : r.at ≡ p.at + count) where
        pub second_room : Room r (half_at table (wide * rest + 4))
        second_room =
            record {
              size = ap length (text ∙ w.stores) ∙ length-sets p.out.now p.at (half_at table (wide * thousands)) ∙ room.size;
              fits = omega (arith, room.fits, long, counted, place);
            }

        pub both_put : {next : Page} → Put r (half_at table (wide * rest + 4)) next → Put p (digits (joined thousands rest) ++ ascii " ") next
        both_put v =
            let f = front_is thousands below in
            let l = p.out.now in
            let at = p.at in
            let first = front_bytes rows thousands below ∙ f.whole in
            record {
              same = v.same ∙ same ∙ w.same;
              next = omega (arith, v.next, long, counted, place);
              stores = v.stores
                  ∙ ap (sets r.out.now r.at) (back_bytes rows rest s)
                  ∙ ap (λ i. sets r.out.now i (back rest)) place
                  ∙ ap (λ x. sets x (at + count) (back rest)) (text ∙ w.stores ∙ ap (sets l at) first)
                  ∙ ap (λ i. sets (sets l at (digits thousands ++ f.fill)) (at + i) (back rest)) counted
                  ∙ sets_over (digits thousands) f.fill (back rest) l at (omega (arith, f.short))
                  ∙ ap (sets l at) (sym two_halves);
            }
