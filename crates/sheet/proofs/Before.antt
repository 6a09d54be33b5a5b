-- A sheet without the wind reads as it did before a sheet could tell it, and one with it was refused.
use Rattle.std.specs.Prelude.{None, Some, Err, Ok}
use mathlib.Core.Path.{◌≡◌, refl, sym, ap, ◌∙◌}
use mathlib.Core.Bool.{Bool, true, false, ◌&&◌, cond}
use mathlib.Core.List.{List, [], ◌∷◌, ◌++◌, map}
use Prim.Native.Nat.{ℕ, zero, suc, ◌+◌, ◌-◌, ◌*◌, ◌/◌, ◌%◌, min}
use native.Mathlib.Omega.{arith}
use lib.Dec.{eqb, leb}
use lib.ListN.{length, take, drop, get_or}
use lib.Seq.{get_or-drop}
use borrow.Author.Tests.{eqb-true, ne_eqb, lt-ltb}
use Rattle.laws.proofs.Bools.{and-true, and-false}
use Rattle.elementary.specs.declared.error.Refusal.TheVariants as Why
use Rattle.std.specs.declared.option.Option.{Option}
use Rattle.std.specs.declared.result.Result.{Result}
use Rattle.elementary.specs.declared.error.Refusal.{Refusal}
use Rattle.motion.specs.Check.{verdict}
use Rattle.motion.specs.Capacity.{max_contacts}
use Rattle.clearance.specs.declared.traffic.Entry.{Entry}
use Rattle.sheet_record.specs.Word.{words, kind, next_kind, in_order, has_wind, header_length, ordered, max_bytes}
use Rattle.sheet_record.specs.Word as Word
use Rattle.sheet_record.specs.declared.Header.{Header}
use Rattle.sheet_record.specs.declared.Row.{Row}
use Rattle.sheet_record.specs.Record.{value_at, row_from}
use Rattle.sheet_record.specs.Record as Record
use Rattle.sheet.specs.Values.{wind_from, entry_of}
use Rattle.sheet.specs.Sheet.{code_checks, if_readable}
use Rattle.sheet.specs.Sheet as Sheet
use Rattle.sheet.specs.Before.{layout, contact_count, readable, header_of, first_rows, rows_of, value_checks, sheet_verdict, Extends}

-- the kinds up to 8, then those of the contacts, are all kinds in order
in_two : (n k : ℕ) (ws : List ℕ) → k + n ≡ 9 → in_order k (take n ws) && in_order 9 (drop n ws) ≡ in_order k ws
unfolding in_order
in_two zero k ws e = rw (nine e) refl
  where
    nine : k + 0 ≡ 9 → k ≡ 9
    nine e = omega arith
in_two (suc n) k [] e = and-true (eqb k 9)
in_two (suc n) k (w ∷ ws) e =
    go (eqb (kind w) k)
    ∙ ap (λ b. eqb (kind w) k && b) (ap (λ j. in_order j (take n ws) && in_order 9 (drop n ws)) next ∙ in_two n (k + 1) ws (omega (arith, e)) ∙ ap (λ j. in_order j ws) (sym next))
  where
    next : next_kind k ≡ k + 1
    next = ap (λ b. cond b (k + 1) 9) (lt-ltb k 14 (omega (arith, e)))

    go : (b : Bool) → (b && in_order (next_kind k) (take n ws)) && in_order 9 (drop n ws) ≡ b && (in_order (next_kind k) (take n ws) && in_order 9 (drop n ws))
    go true = refl
    go false = refl

-- ---- without the wind
module _ (ws : List ℕ) (none : has_wind ws ≡ false) where
  nine_words : header_length ws ≡ 9
  nine_words = ap (λ b. cond b 10 9) none

  same_order : ordered ws ≡ in_order 0 ws
  unfolding ordered
  same_order = ap (λ n. in_order 0 (take 9 ws) && in_order 9 (drop n ws)) nine_words ∙ in_two 9 0 ws refl

  same_count : Record.contact_count ws ≡ contact_count ws
  unfolding Record.contact_count contact_count
  same_count = ap (λ n. (length ws - n) / 6) nine_words

  same_first : (n : ℕ) → Record.first_rows ws n ≡ first_rows ws n
  unfolding Record.first_rows first_rows
  same_first zero = refl
  same_first (suc n) = ap (λ m. Record.first_rows ws n ++ (row_from ws (m + 6 * n) ∷ [])) nine_words ∙ ap (λ rs. rs ++ (row_from ws (9 + 6 * n) ∷ [])) (same_first n)

  same_rows : Record.rows_of ws ≡ rows_of ws
  unfolding Record.rows_of rows_of
  same_rows = ap (λ n. Record.first_rows ws (min n max_contacts)) same_count ∙ same_first (min (contact_count ws) max_contacts)

  same_header : Record.header_of ws ≡ header_of ws
  unfolding Record.header_of header_of
  same_header = ap headed (ap (λ b. cond b (Some (value_at ws 9)) None) none)
    where
      headed : Option ℕ → Header
      headed w = record {
        course = value_at ws 0;
        speed = value_at ws 1;
        category = value_at ws 2;
        visibility = value_at ws 3;
        desired = value_at ws 4;
        least = value_at ws 5;
        most = value_at ws 6;
        cpa_limit = value_at ws 7;
        tcpa_limit = value_at ws 8;
        wind = w;
      }

module _ (s : List ℕ) (none : has_wind (words s) ≡ false) where
  same_readable : Record.readable s ≡ readable s
  unfolding Record.readable Word.layout readable layout
  same_readable =
      ap (λ b. cond (leb (length s) max_bytes && (eqb (length s % 4) 0 && b)) (cond (leb (Record.contact_count (words s)) max_contacts) (Ok tt) (Err Why.TooManyContacts)) (Err Why.Layout)) (same_order (words s) none)
      ∙ ap (λ n. cond (leb (length s) max_bytes && (eqb (length s % 4) 0 && in_order 0 (words s))) (cond (leb n max_contacts) (Ok tt) (Err Why.TooManyContacts)) (Err Why.Layout)) (same_count (words s) none)

  -- an unknown wind has no check
  same_checks : (es : List Entry) → Sheet.value_checks (header_of (words s)) es ≡ value_checks (header_of (words s)) es
  unfolding Sheet.value_checks value_checks wind_from header_of
  same_checks es = refl

  same_verdict : Sheet.sheet_verdict s ≡ sheet_verdict s
  unfolding Sheet.sheet_verdict sheet_verdict
  same_verdict =
      ap (λ r. if_readable r (by (Record.header_of (words s)) (Record.rows_of (words s)))) same_readable
      ∙ ap (λ h. if_readable (readable s) (by h (Record.rows_of (words s)))) (same_header (words s) none)
      ∙ ap (λ rs. if_readable (readable s) (by (header_of (words s)) rs)) (same_rows (words s) none)
      ∙ ap (λ c. if_readable (readable s) (verdict (code_checks (header_of (words s)) (rows_of (words s)) ++ c) (Ok tt))) (same_checks (map entry_of (rows_of (words s))))
    where
      by : Header → List Row → Result (Unit {0}) Refusal
      by h rs = verdict (code_checks h rs ++ Sheet.value_checks h (map entry_of rs)) (Ok tt)

-- ---- with it
-- a contact does not begin with kind F
no_contact : (ws : List ℕ) → kind (get_or ws 0 0) ≡ 15 → in_order 9 ws ≡ false
unfolding in_order
no_contact [] e = absurd (omega (arith, e))
no_contact (w ∷ ws) e = ap (λ b. b && in_order (next_kind 9) ws) (ne_eqb (kind w) 9 (λ q. omega (arith, q, e)))

no_order : (ws : List ℕ) → has_wind ws ≡ true → in_order 0 ws ≡ false
no_order ws told = sym (in_two 9 0 ws refl) ∙ ap (λ b. in_order 0 (take 9 ws) && b) (no_contact (drop 9 ws) (ap kind (get_or-drop 9 ws 0 0) ∙ eqb-true (kind (get_or ws 9 0)) 15 told)) ∙ and-false (in_order 0 (take 9 ws))

no_layout : (s : List ℕ) → has_wind (words s) ≡ true → layout s ≡ false
unfolding layout
no_layout s told = ap (λ b. leb (length s) max_bytes && (eqb (length s % 4) 0 && b)) (no_order (words s) told) ∙ ap (λ b. leb (length s) max_bytes && b) (and-false (eqb (length s % 4) 0)) ∙ and-false (leb (length s) max_bytes)

unreadable : (s : List ℕ) → has_wind (words s) ≡ true → readable s ≡ Err Why.Layout
unfolding readable
unreadable s told = ap (λ b. cond b (cond (leb (contact_count (words s)) max_contacts) (Ok tt) (Err Why.TooManyContacts)) (Err Why.Layout)) (no_layout s told)

was_refused : (s : List ℕ) → has_wind (words s) ≡ true → sheet_verdict s ≡ Err Why.Layout
unfolding sheet_verdict
was_refused s told = ap (λ r. if_readable r (verdict (code_checks (header_of (words s)) (rows_of (words s)) ++ value_checks (header_of (words s)) (map entry_of (rows_of (words s)))) (Ok tt))) (unreadable s told)

pub extends : (s : List ℕ) → Extends s
extends s = record {
  without = λ none. record { checked = same_verdict s none; header = same_header (words s) none; rows = same_rows (words s) none };
  told = was_refused s;
}
