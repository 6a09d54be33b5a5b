-- Every report has at least one byte, so that a caller of the C interface can tell 0, no room, from an answer; and at most 4,232, which is the room that a caller needs: 32 lines of at most 129 bytes and one of at most 104.
use Rattle.std.specs.Prelude.{Err, Ok}
use mathlib.Core.List.{List}
use Prim.Native.Nat.{ℕ, ◌≤◌, ◌<◌}
use native.Mathlib.Omega.{arith}
use lib.ListN.{length, length-append}
use Rattle.elementary.specs.declared.error.Refusal.{Refusal}
use Rattle.manoeuvre.specs.declared.constraints.ManoeuvreConstraints.{ManoeuvreConstraints}
use Rattle.std.specs.declared.result.Result.{Result}
use Rattle.assessment.specs.declared.policy.CpaPolicy.{CpaPolicy}
use Rattle.ruled_search.specs.declared.RuledManoeuvre.{RuledManoeuvre}
use Rattle.text.specs.Text.{bytes}
use Rattle.lines.specs.Lines.{alter_line, refused_line}
use Rattle.sheet_record.specs.Word.{words}
use Rattle.sheet_record.specs.declared.Header.{Header}
use Rattle.sheet_record.specs.declared.Row.{Row}
use Rattle.sheet_record.specs.Record.{header_of, rows_of}
use Rattle.sheet.specs.Values.{visibility_of, own_of, wind_from}
use Rattle.sheet.specs.Sheet.{sheet_verdict}
use Rattle.report.specs.Contacts.{contact_lines}
use Rattle.motion.specs.Capacity.{max_contacts}
use Rattle.sheet_record.proofs.RecordCode.{few-rows}
use Rattle.lines.proofs.Short.{refused_short}
use Rattle.report.proofs.Whole.{answer_short, contacts_short}
use Rattle.report.specs.Report.{search_answer, answer_line, policy_of, constraints_of, lines_under, lines_of, lines_if_accepted, report}

refused-some : (why : Refusal) → 0 < length (refused_line why)
unfolding refused_line bytes
refused-some why = omega arith

answer_some : (rs : List Row) (a : Result RuledManoeuvre Refusal) → 0 < length (answer_line rs a)
unfolding alter_line bytes
answer_some rs (Ok m) = omega arith
answer_some rs (Err why) = refused-some why

lines_some : (h : Header) (rs : List Row) (p : Result CpaPolicy Refusal) (c : Result ManoeuvreConstraints Refusal) → 0 < length (lines_under h rs p c)
lines_some h rs (Ok p) (Ok c) =
    let contacts = contact_lines (own_of h) (visibility_of h.visibility) (wind_from h) p rs in
    omega (arith, length-append contacts (answer_line rs (search_answer h rs c)), answer_some rs (search_answer h rs c))
lines_some h rs (Ok p) (Err why) = refused-some why
lines_some h rs (Err why) c = refused-some why

by_verdict_lem : (v : Result (Unit {0}) Refusal) (lines : List ℕ) → 0 < length lines → 0 < length (lines_if_accepted v lines)
by_verdict_lem (Ok tt) lines h = h
by_verdict_lem (Err why) lines h = refused-some why

pub some_bytes : (s : List ℕ) → 0 < length (report s)
unfolding report lines_of
some_bytes s =
    let h = header_of (words s) in
    let rs = rows_of (words s) in
    by_verdict_lem (sheet_verdict s) (lines_under h rs (policy_of h) (constraints_of h)) (lines_some h rs (policy_of h) (constraints_of h))

-- ---- at most
lines_short : (h : Header) (rs : List Row) (p : Result CpaPolicy Refusal) (c : Result ManoeuvreConstraints Refusal) → length rs ≤ max_contacts → length (lines_under h rs p c) ≤ 4232
lines_short h rs (Ok p) (Ok c) few =
    let contacts = contact_lines (own_of h) (visibility_of h.visibility) (wind_from h) p rs in
    omega (arith, length-append contacts (answer_line rs (search_answer h rs c)), contacts_short (own_of h) (visibility_of h.visibility) (wind_from h) p rs, answer_short rs (search_answer h rs c), few)
lines_short h rs (Ok p) (Err why) few = omega (arith, refused_short why)
lines_short h rs (Err why) c few = omega (arith, refused_short why)

short_by : (v : Result (Unit {0}) Refusal) (lines : List ℕ) → length lines ≤ 4232 → length (lines_if_accepted v lines) ≤ 4232
short_by (Ok tt) lines h = h
short_by (Err why) lines h = omega (arith, refused_short why)

pub at_most : (s : List ℕ) → length (report s) ≤ 4232
unfolding report lines_of
at_most s =
    let h = header_of (words s) in
    let rs = rows_of (words s) in
    short_by (sheet_verdict s) (lines_under h rs (policy_of h) (constraints_of h)) (lines_short h rs (policy_of h) (constraints_of h) (few-rows (words s)))
