-- A sheet without the wind prints as it did before a sheet could tell it, and one with it was refused with 15.
use Rattle.std.specs.Prelude.{Err, Ok}
use mathlib.Core.Path.{◌≡◌, refl, ap, ◌∙◌}
use mathlib.Core.Bool.{true}
use mathlib.Core.List.{List}
use Prim.Native.Nat.{ℕ}
use Rattle.elementary.specs.declared.error.Refusal.TheVariants as Why
use Rattle.manoeuvre.specs.declared.constraints.ManoeuvreConstraints.{ManoeuvreConstraints}
use Rattle.std.specs.declared.result.Result.{Result}
use Rattle.elementary.specs.declared.error.Refusal.{Refusal}
use Rattle.assessment.specs.declared.policy.CpaPolicy.{CpaPolicy}
use Rattle.sheet_record.specs.Word.{words, has_wind}
use Rattle.sheet_record.specs.declared.Row.{Row}
use Rattle.sheet_record.specs.Record as Record
use Rattle.sheet.specs.Values.{wind_from}
use Rattle.lines.specs.Lines.{refused_line}
use Rattle.report.specs.Report.{policy_of, constraints_of, lines_if_accepted}
use Rattle.report.specs.Report as Report
use Rattle.sheet.specs.Before.{header_of, rows_of, sheet_verdict, ReadsAsBefore}
use Rattle.sheet.proofs.Before.{extends}
use Rattle.report.specs.Before.{search_answer, lines_under, lines_of, report, PrintsAsBefore}

-- ---- the lines, where the header's wind is unknown
same_by : (ws : List ℕ) (rs : List Row) (p : Result CpaPolicy Refusal) (c : Result ManoeuvreConstraints Refusal) → Report.lines_under (header_of ws) rs p c ≡ lines_under (header_of ws) rs p c
unfolding header_of wind_from Report.search_answer search_answer
same_by ws rs (Ok p) (Ok c) = refl
same_by ws rs (Ok p) (Err why) = refl
same_by ws rs (Err why) c = refl

same_lines : (ws : List ℕ) (rs : List Row) → Report.lines_of (header_of ws) rs ≡ lines_of (header_of ws) rs
unfolding Report.lines_of lines_of
same_lines ws rs = same_by ws rs (policy_of (header_of ws)) (constraints_of (header_of ws))

module _ (s : List ℕ) where
  same_report : ReadsAsBefore s → Report.report s ≡ report s
  unfolding Report.report report
  same_report r =
      ap (λ v. lines_if_accepted v (Report.lines_of (Record.header_of (words s)) (Record.rows_of (words s)))) r.checked
      ∙ ap (λ h. lines_if_accepted (sheet_verdict s) (Report.lines_of h (Record.rows_of (words s)))) r.header
      ∙ ap (λ rs. lines_if_accepted (sheet_verdict s) (Report.lines_of (header_of (words s)) rs)) r.rows
      ∙ ap (lines_if_accepted (sheet_verdict s)) (same_lines (words s) (rows_of (words s)))

  was_refused : has_wind (words s) ≡ true → report s ≡ refused_line Why.Layout
  unfolding report
  was_refused told = ap (λ v. lines_if_accepted v (lines_of (header_of (words s)) (rows_of (words s)))) ((extends s).told told)

  pub prints_as_before : PrintsAsBefore s
  prints_as_before = record { without = λ none. same_report ((extends s).without none); told = was_refused }
