-- The checks of a sheet (01, 'Encounter sheet and its program': 'checks: 15, 14, 16, then values in
-- sheet order'; R-1: 'a wind of 360 or more gets number 1').
use Rattle.std.specs.Prelude.{List, [], ◌∷◌, ◌++◌, map, ℕ, leb, Err, Ok}
use Rattle.math.specs.Clock.{is_accepted}
use Rattle.elementary.specs.declared.error.Refusal.TheVariants as Why
use Rattle.std.specs.declared.result.Result.{Result}
use Rattle.elementary.specs.declared.error.Refusal.{Refusal}
use Rattle.motion.specs.Check.{Check, check, verdict, is_distance, vessel_checks, distance_checks}
use Rattle.situation.specs.Arguments.{optional_checks}
use Rattle.manoeuvre.specs.Constraints.{alteration_checks}
use Rattle.clearance.specs.declared.traffic.Entry.{Entry}
use Rattle.clearance.specs.Traffic.{contacts_checks}
use Rattle.sheet_record.specs.Word.{words}
use Rattle.sheet_record.specs.declared.Header.{Header}
use Rattle.sheet_record.specs.declared.Row.{Row}
use Rattle.sheet_record.specs.Record.{header_of, rows_of, readable}
use Rattle.sheet.specs.Values.{scaled, own_of, wind_from, entry_of}

-- ---- codes: own category, visibility, the contacts' categories
unfoldable pub category_checks : List Row → List Check
category_checks [] = []
category_checks (r ∷ rs) = check (leb r.category 7) Why.UnknownCode ∷ category_checks rs

unfoldable pub code_checks : Header → List Row → List Check
code_checks h rs = check (leb h.category 7) Why.UnknownCode ∷ check (leb h.visibility 1) Why.UnknownCode ∷ category_checks rs

-- ---- values, in the sheet's order
abbrev pub limit_checks : Header → List Check
limit_checks h =
    check (is_distance (record { 0 = scaled h.cpa_limit })) Why.Distance
    ∷ check (is_accepted (record { secs = h.tcpa_limit; nanos = 0 })) Why.Time ∷ []

unfoldable pub value_checks : Header → List Entry → List Check
value_checks h es =
    vessel_checks (own_of h).motion
    ++ (distance_checks (record { 0 = scaled h.desired })
    ++ (alteration_checks (record { 0 = scaled h.least }) (record { 0 = scaled h.most })
    ++ (limit_checks h ++ (optional_checks (wind_from h) ++ contacts_checks es))))

-- ---- the sheet
abbrev pub if_readable : Result (Unit {0}) Refusal → Result (Unit {0}) Refusal → Result (Unit {0}) Refusal
if_readable (Ok tt) v = v
if_readable (Err why) v = Err why

unfoldable pub sheet_verdict : List ℕ → Result (Unit {0}) Refusal
sheet_verdict s =
    let h = header_of (words s) in
    let rs = rows_of (words s) in
    if_readable (readable s) (verdict (code_checks h rs ++ value_checks h (map entry_of rs)) (Ok tt))
