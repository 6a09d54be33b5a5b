-- When a sheet is refused, and with which number (01, 'Encounter sheet and its program': 'checks:
-- 15, 14, 16, then values in sheet order').
use Rattle.std.specs.Prelude.{◌≡◌, Bool, true, false, ◌&&◌, cond, List, [], ◌∷◌, map, ℕ, ◌≤◌, leb, Err, Ok}
use Rattle.elementary.specs.Refusal.{answer_number}
use Rattle.elementary.specs.declared.error.Refusal.TheVariants as Why
use Rattle.std.specs.declared.result.Result.{Result}
use Rattle.elementary.specs.declared.error.Refusal.{Refusal}
use Rattle.motion.specs.Check.{verdict}
use Rattle.motion.specs.Capacity.{max_contacts}
use Rattle.sheet_record.specs.Word.{words, layout}
use Rattle.sheet_record.specs.declared.Header.{Header}
use Rattle.sheet_record.specs.declared.Row.{Row}
use Rattle.sheet_record.specs.Record.{header_of, contact_count, rows_of}
use Rattle.sheet.specs.Values.{entry_of}
use Rattle.sheet.specs.Sheet.{value_checks, sheet_verdict}

-- no more contacts than there is room for
abbrev pub few : List ℕ → Bool
few s = leb (contact_count (words s)) max_contacts

-- every code is one of document 01's
unfoldable pub known_rows : List Row → Bool
known_rows [] = true
known_rows (r ∷ rs) = leb r.category 7 && known_rows rs

unfoldable pub known : Header → List Row → Bool
known h rs = leb h.category 7 && (leb h.visibility 1 && known_rows rs)

abbrev pub codes : List ℕ → Bool
codes s = known (header_of (words s)) (rows_of (words s))

-- what the values say, the first bad one of the sheet's order
abbrev pub values : List ℕ → Result (Unit {0}) Refusal
values s = verdict (value_checks (header_of (words s)) (map entry_of (rows_of (words s)))) (Ok tt)

pub record Exactly (s : List ℕ) : Type 0 where
  -- in this order
  pub order : sheet_verdict s
      ≡ cond (layout s) (cond (few s) (cond (codes s) (values s) (Err Why.UnknownCode)) (Err Why.TooManyContacts)) (Err Why.Layout)
  -- the values have none of the numbers 14, 15 and 16, so that each of these has its own reason
  pub value_numbers : answer_number (values s) ≤ 6
  pub is_15 : answer_number (sheet_verdict s) ≡ 15 → layout s ≡ false
  pub is_14 : answer_number (sheet_verdict s) ≡ 14 → (layout s ≡ true) × (few s ≡ false)
  pub is_16 : answer_number (sheet_verdict s) ≡ 16 → (layout s ≡ true) × (few s ≡ true) × (codes s ≡ false)
  pub is_accepted : answer_number (sheet_verdict s) ≡ 0 → (layout s ≡ true) × (few s ≡ true) × (codes s ≡ true) × (answer_number (values s) ≡ 0)
