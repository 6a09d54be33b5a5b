-- What was printed for a sheet before request R-1: `report`'s definitions as they stand in
-- `report/specs/Report.antt`, over the reading without the wind (`sheet/specs/Before.antt`), every
-- situation with the wind unknown.
use Rattle.std.specs.Prelude.{◌≡◌, true, false, List, ◌++◌, map, ℕ, length, None, Err, Ok}
use Rattle.elementary.specs.declared.error.Refusal.TheVariants as Why
use Rattle.std.specs.declared.result.Result.{Result}
use Rattle.elementary.specs.declared.error.Refusal.{Refusal}
use Rattle.assessment.specs.declared.policy.CpaPolicy.{CpaPolicy}
use Rattle.ruled_search.specs.declared.RuledManoeuvre.{RuledManoeuvre}
use Rattle.manoeuvre.specs.declared.constraints.ManoeuvreConstraints.{ManoeuvreConstraints}
use Rattle.ruled_search.specs.Ruled.{ruled_answer}
use Rattle.sheet_record.specs.Word.{words, has_wind}
use Rattle.sheet_record.specs.declared.Header.{Header}
use Rattle.sheet_record.specs.declared.Row.{Row}
use Rattle.sheet.specs.Values.{scaled, visibility_of, own_of, entry_of}
use Rattle.lines.specs.Lines.{refused_line}
use Rattle.report.specs.Contacts.{contact_lines}
use Rattle.report.specs.Report.{answer_line, policy_of, constraints_of, lines_if_accepted}
use Rattle.report.specs.Report as Report
use Rattle.sheet.specs.Before.{header_of, rows_of, sheet_verdict}

unfoldable pub search_answer : Header → List Row → ManoeuvreConstraints → Result RuledManoeuvre Refusal
search_answer h rs c = ruled_answer (own_of h) (length rs) (map entry_of rs) (visibility_of h.visibility) None (record { 0 = scaled h.desired }) c

abbrev pub lines_under : Header → List Row → Result CpaPolicy Refusal → Result ManoeuvreConstraints Refusal → List ℕ
lines_under h rs (Ok p) (Ok c) = contact_lines (own_of h) (visibility_of h.visibility) None p rs ++ answer_line rs (search_answer h rs c)
lines_under h rs (Ok p) (Err why) = refused_line why
lines_under h rs (Err why) c = refused_line why

unfoldable pub lines_of : Header → List Row → List ℕ
lines_of h rs = lines_under h rs (policy_of h) (constraints_of h)

unfoldable pub report : List ℕ → List ℕ
report s = lines_if_accepted (sheet_verdict s) (lines_of (header_of (words s)) (rows_of (words s)))

-- 'a sheet without the word reads and prints as before'; every other was refused with 15
pub record PrintsAsBefore (s : List ℕ) : Type 0 where
  pub without : has_wind (words s) ≡ false → Report.report s ≡ report s
  pub told : has_wind (words s) ≡ true → report s ≡ refused_line Why.Layout
