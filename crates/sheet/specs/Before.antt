-- Reading a sheet by document 01 alone ('Encounter sheet and its program'), without request R-1:
-- nine words, then the contacts; no wind. The definitions are those of `sheet_words`,
-- `sheet_record` and `sheet` as they stand there but for the wind, and say what 'as before' means
-- in 'a sheet without the word reads and prints as before'.
use Rattle.std.specs.Prelude.{◌≡◌, Bool, true, false, ◌&&◌, cond, List, [], ◌∷◌, ◌++◌, map, ℕ, zero, suc, ◌+◌, ◌-◌, ◌*◌, ◌/◌, ◌%◌, min, eqb, leb, length, None, Err, Ok}
use Rattle.elementary.specs.declared.error.Refusal.TheVariants as Why
use Rattle.std.specs.declared.result.Result.{Result}
use Rattle.elementary.specs.declared.error.Refusal.{Refusal}
use Rattle.motion.specs.Check.{Check, verdict, vessel_checks, distance_checks}
use Rattle.manoeuvre.specs.Constraints.{alteration_checks}
use Rattle.motion.specs.Capacity.{max_contacts}
use Rattle.clearance.specs.declared.traffic.Entry.{Entry}
use Rattle.clearance.specs.Traffic.{contacts_checks}
use Rattle.sheet_record.specs.Word.{words, in_order, has_wind, max_bytes}
use Rattle.sheet_record.specs.declared.Header.{Header}
use Rattle.sheet_record.specs.declared.Row.{Row}
use Rattle.sheet_record.specs.Record.{value_at, row_from}
use Rattle.sheet_record.specs.Record as Record
use Rattle.sheet.specs.Values.{scaled, own_of, entry_of}
use Rattle.sheet.specs.Sheet.{code_checks, limit_checks, if_readable}
use Rattle.sheet.specs.Sheet as Sheet

-- ---- layout and count
unfoldable pub layout : List ℕ → Bool
layout s = leb (length s) max_bytes && (eqb (length s % 4) 0 && in_order 0 (words s))

unfoldable pub contact_count : List ℕ → ℕ
contact_count ws = (length ws - 9) / 6

unfoldable pub readable : List ℕ → Result (Unit {0}) Refusal
readable s = cond (layout s) (cond (leb (contact_count (words s)) max_contacts) (Ok tt) (Err Why.TooManyContacts)) (Err Why.Layout)

-- ---- the record
unfoldable pub header_of : List ℕ → Header
header_of ws = record {
  course = value_at ws 0;
  speed = value_at ws 1;
  category = value_at ws 2;
  visibility = value_at ws 3;
  desired = value_at ws 4;
  least = value_at ws 5;
  most = value_at ws 6;
  cpa_limit = value_at ws 7;
  tcpa_limit = value_at ws 8;
  wind = None;
}

unfoldable pub first_rows : List ℕ → ℕ → List Row
first_rows ws zero = []
first_rows ws (suc n) = first_rows ws n ++ (row_from ws (9 + 6 * n) ∷ [])

unfoldable pub rows_of : List ℕ → List Row
rows_of ws = first_rows ws (min (contact_count ws) max_contacts)

-- ---- the checks
unfoldable pub value_checks : Header → List Entry → List Check
value_checks h es =
    vessel_checks (own_of h).motion
    ++ (distance_checks (record { 0 = scaled h.desired })
    ++ (alteration_checks (record { 0 = scaled h.least }) (record { 0 = scaled h.most })
    ++ (limit_checks h ++ contacts_checks es)))

unfoldable pub sheet_verdict : List ℕ → Result (Unit {0}) Refusal
sheet_verdict s =
    let h = header_of (words s) in
    let rs = rows_of (words s) in
    if_readable (readable s) (verdict (code_checks h rs ++ value_checks h (map entry_of rs)) (Ok tt))

-- ---- a sheet whose tenth word is not of kind F reads as before
pub record ReadsAsBefore (s : List ℕ) : Type 0 where
  pub checked : Sheet.sheet_verdict s ≡ sheet_verdict s
  pub header : Record.header_of (words s) ≡ header_of (words s)
  pub rows : Record.rows_of (words s) ≡ rows_of (words s)

-- ---- one whose tenth word is of kind F was refused with 15: no sheet that had another answer has
-- a new one
pub record Extends (s : List ℕ) : Type 0 where
  pub without : has_wind (words s) ≡ false → ReadsAsBefore s
  pub told : has_wind (words s) ≡ true → sheet_verdict s ≡ Err Why.Layout
