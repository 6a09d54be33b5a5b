-- A sheet's words as a record of whole numbers (01, 'Encounter sheet and its program': the order of
-- the words; 'checks: 15, 14, …'; R-1: 'the header record … gain[s] that wind').
use Rattle.std.specs.Prelude.{cond, List, [], ◌∷◌, ◌++◌, ℕ, zero, suc, ◌+◌, ◌-◌, ◌*◌, ◌/◌, min, leb, length, get_or, take, drop, None, Some, Err, Ok}
use Rattle.elementary.specs.declared.error.Refusal.TheVariants as Why
use Rattle.motion.specs.Capacity.{max_contacts}
use Rattle.sheet_record.specs.Word.{words, value, has_wind, header_length, layout}
use Rattle.std.specs.declared.option.Option.{Option}
use Rattle.std.specs.declared.result.Result.{Result}
use Rattle.elementary.specs.declared.error.Refusal.{Refusal}
use Rattle.sheet_record.specs.declared.Header.{Header}
use Rattle.sheet_record.specs.declared.Row.{Row}

-- the value of word i, 0 where there is none
abbrev pub value_at : List ℕ → ℕ → ℕ
value_at ws i = value (get_or ws i 0)

-- where the wind comes from, if the sheet tells it
abbrev pub wind_of : List ℕ → Option ℕ
wind_of ws = cond (has_wind ws) (Some (value_at ws 9)) None

unfoldable pub header_of : List ℕ → Header
header_of ws = record {
  course = value_at ws 0;
  speed = value_at ws 1;
  category = value_at ws 2;
  visibility = value_at ws 3;
  desired = value_at ws 4;
  least = value_at ws 5;
  most = value_at ws 6;
  cpa_limit = value_at ws 7;
  tcpa_limit = value_at ws 8;
  wind = wind_of ws;
}

-- after the header's words, six each
unfoldable pub contact_count : List ℕ → ℕ
contact_count ws = (length ws - header_length ws) / 6

unfoldable pub row_from : List ℕ → ℕ → Row
row_from ws i = record {
  id = value_at ws i;
  bearing = value_at ws (i + 1);
  range = value_at ws (i + 2);
  course = value_at ws (i + 3);
  speed = value_at ws (i + 4);
  category = value_at ws (i + 5);
}

-- the six words of contact i
abbrev pub contact_at : List ℕ → ℕ → List ℕ
contact_at ws i = take 6 (drop (header_length ws + 6 * i) ws)

unfoldable pub first_rows : List ℕ → ℕ → List Row
first_rows ws zero = []
first_rows ws (suc n) = first_rows ws n ++ (row_from ws (header_length ws + 6 * n) ∷ [])

-- as many as there is room for
unfoldable pub rows_of : List ℕ → List Row
rows_of ws = first_rows ws (min (contact_count ws) max_contacts)

unfoldable pub readable : List ℕ → Result (Unit {0}) Refusal
readable s = cond (layout s) (cond (leb (contact_count (words s)) max_contacts) (Ok tt) (Err Why.TooManyContacts)) (Err Why.Layout)
