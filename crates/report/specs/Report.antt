-- What the encounter program prints for a sheet (01, 'Encounter sheet and its program': a CONTACT
-- line for each contact, 'then the ruled search's answer'; 'numbers 5 and 13 print `REFUSED n` in
-- place of ALTER; other refusals print that line alone'; R-1: 'the ruled search is judged with the
-- wind in every situation').
--
-- The lines are made of what the module's functions answer. A sheet's values are checked before
-- they are asked, so that on an accepted sheet none of them refuses but the ruled search with 5 and
-- 13 (proofs/Reports.antt).
use Rattle.std.specs.Prelude.{List, ◌++◌, map, ℕ, length, Err, Ok}
use Rattle.std.specs.declared.result.Result.{Result}
use Rattle.elementary.specs.declared.error.Refusal.{Refusal}
use Rattle.assessment.specs.declared.policy.CpaPolicy.{CpaPolicy}
use Rattle.ruled_search.specs.declared.RuledManoeuvre.{RuledManoeuvre}
use Rattle.manoeuvre.specs.declared.constraints.ManoeuvreConstraints.{ManoeuvreConstraints}
use Rattle.ruled_search.specs.Ruled.{ruled_answer}
use Rattle.sheet_record.specs.Word.{words}
use Rattle.sheet_record.specs.declared.Header.{Header}
use Rattle.sheet_record.specs.declared.Row.{Row}
use Rattle.sheet_record.specs.Record.{header_of, rows_of}
use Rattle.sheet.specs.Values.{scaled, visibility_of, own_of, wind_from, entry_of}
use Rattle.sheet.specs.Sheet.{sheet_verdict}
use Rattle.lines.specs.Lines.{alter_line, refused_line}
use Rattle.report.specs.Contacts.{contact_lines}
unfoldable pub use Rattle.sheet.specs.Limits.{id_at, policy_of, constraints_of}

-- ---- the ruled search's answer
unfoldable pub search_answer : Header → List Row → ManoeuvreConstraints → Result RuledManoeuvre Refusal
search_answer h rs c =
    ruled_answer (own_of h) (length rs) (map entry_of rs) (visibility_of h.visibility) (wind_from h)
    (record { 0 = scaled h.desired }) c

abbrev pub answer_line : List Row → Result RuledManoeuvre Refusal → List ℕ
answer_line rs (Ok m) = alter_line m (id_at rs m.limiting)
answer_line rs (Err why) = refused_line why

-- ---- the whole
abbrev pub lines_under : Header → List Row → Result CpaPolicy Refusal → Result ManoeuvreConstraints Refusal → List ℕ
lines_under h rs (Ok p) (Ok c) = contact_lines (own_of h) (visibility_of h.visibility) (wind_from h) p rs ++ answer_line rs (search_answer h rs c)
lines_under h rs (Ok p) (Err why) = refused_line why
lines_under h rs (Err why) c = refused_line why

unfoldable pub lines_of : Header → List Row → List ℕ
lines_of h rs = lines_under h rs (policy_of h) (constraints_of h)

abbrev pub lines_if_accepted : Result (Unit {0}) Refusal → List ℕ → List ℕ
lines_if_accepted (Ok tt) lines = lines
lines_if_accepted (Err why) lines = refused_line why

unfoldable pub report : List ℕ → List ℕ
report s = lines_if_accepted (sheet_verdict s) (lines_of (header_of (words s)) (rows_of (words s)))
