-- Nothing of a report is cut: the lines on the contacts that there is room for, and the answer, fit in a text.
use Rattle.std.specs.Prelude.{Err, Ok}
use mathlib.Core.Path.{◌≡◌, ap, ◌∙◌}
use mathlib.Core.List.{List, [], ◌∷◌, flat_map}
use Prim.Native.Nat.{ℕ, ◌*◌, ◌≤◌}
use native.Mathlib.Omega.{arith}
use lib.Dec.{lit≤}
use lib.ListN.{length, length-append}
use Rattle.text.specs.Text.{room, appended}
use Rattle.text.proofs.Appending.{whole}
use Rattle.elementary.specs.declared.error.Refusal.{Refusal}
use Rattle.colregs.specs.declared.answer.Ruling.{Ruling}
use Rattle.std.specs.declared.option.Option.{Option}
use Rattle.std.specs.declared.result.Result.{Result}
use Rattle.motion.specs.declared.units.Direction.{Direction}
use Rattle.relative_motion.specs.declared.approach.Cpa.{Cpa}
use Rattle.relative_motion.specs.declared.approach.Track.{Track}
use Rattle.ruled_search.specs.declared.RuledManoeuvre.{RuledManoeuvre}
use Rattle.relative_motion.specs.Approach.{cpa_answer}
use Rattle.assessment.specs.declared.policy.CpaPolicy.{CpaPolicy}
use Rattle.assessment.specs.Risk.{nearest, risk_of}
use Rattle.situation.specs.declared.party.Party.{Party}
use Rattle.situation.specs.declared.party.Visibility.{Visibility}
use Rattle.situation.specs.Situation.{standard}
use Rattle.colregs.specs.Colregs.{ruling_answer}
use Rattle.motion.specs.Capacity.{max_contacts}
use Rattle.ruled_search.specs.Ruled.{situation_of}
use Rattle.sheet_record.specs.declared.Row.{Row}
use Rattle.sheet.specs.Values.{entry_of, own_of, visibility_of, wind_from}
use Rattle.lines.proofs.Short.{contact_short, alter_short, refused_short}
use Rattle.report.specs.Contacts.{line_if_answered, line_of, contact_lines}
use Rattle.manoeuvre.specs.declared.constraints.ManoeuvreConstraints.{ManoeuvreConstraints}
use Rattle.sheet_record.specs.declared.Header.{Header}
use Rattle.sheet_record.specs.Record.{header_of, rows_of}
use Rattle.sheet_record.proofs.RecordCode.{few-rows}
use Rattle.sheet_record.specs.Word.{words}
use Rattle.sheet.specs.Sheet.{sheet_verdict}
use Rattle.report.specs.Report.{id_at, answer_line, search_answer, lines_under, lines_of, policy_of, constraints_of, lines_if_accepted, report}

by_short : (id : ℕ) (p : CpaPolicy) (a : Result (Track Cpa) Refusal) (r : Result Ruling Refusal) → length (line_if_answered id p a r) ≤ 129
by_short id p (Ok a) (Ok r) = contact_short id a (risk_of p (nearest a)) r
by_short id p (Ok a) (Err why) = omega (arith, refused_short why)
by_short id p (Err why) r = omega (arith, refused_short why)

pub answer_short : (rs : List Row) (a : Result RuledManoeuvre Refusal) → length (answer_line rs a) ≤ 104
answer_short rs (Ok m) = alter_short m (id_at rs m.limiting)
answer_short rs (Err why) = omega (arith, refused_short why)

module _ (own : Party) (visibility : Visibility) (wind : Option Direction) (policy : CpaPolicy) where
  line_short : (r : Row) → length (line_of own visibility wind policy r) ≤ 129
  unfolding line_of
  line_short r =
      let e = entry_of r in
      by_short r.id policy (cpa_answer own.motion e.contact e.target.motion) (ruling_answer (situation_of own visibility wind e) standard)

  pub contacts_short : (rs : List Row) → length (contact_lines own visibility wind policy rs) ≤ 129 * length rs
  unfolding contact_lines flat_map
  contacts_short [] = lit≤ tt
  contacts_short (r ∷ rs) = omega (arith, length-append (line_of own visibility wind policy r) (contact_lines own visibility wind policy rs), line_short r, contacts_short rs)

lines_fit : (h : Header) (rs : List Row) → length rs ≤ max_contacts → length (lines_of h rs) ≤ room
unfolding lines_of
lines_fit h rs few = by (policy_of h) (constraints_of h)
  where
    by : (p : Result CpaPolicy Refusal) (c : Result ManoeuvreConstraints Refusal) → length (lines_under h rs p c) ≤ room
    by (Ok p) (Ok c) =
        let lines = contact_lines (own_of h) (visibility_of h.visibility) (wind_from h) p rs in
        let answer = search_answer h rs c in
        omega (arith, length-append lines (answer_line rs answer), contacts_short (own_of h) (visibility_of h.visibility) (wind_from h) p rs, answer_short rs answer, few)
    by (Ok p) (Err why) = omega (arith, refused_short why)
    by (Err why) c = omega (arith, refused_short why)

pub report_fits : (s : List ℕ) → length (report s) ≤ room
unfolding report
report_fits s = by (sheet_verdict s)
  where
    by : (v : Result (Unit {0}) Refusal) → length (lines_if_accepted v (lines_of (header_of (words s)) (rows_of (words s)))) ≤ room
    by (Ok tt) = lines_fit (header_of (words s)) (rows_of (words s)) (few-rows (words s))
    by (Err why) = omega (arith, refused_short why)

-- so that it is the whole of a text that had nothing before
pub printed : (s t u : List ℕ) → t ≡ [] → u ≡ appended t (report s) → u ≡ report s
printed s t u et eu = eu ∙ ap (λ t. appended t (report s)) et ∙ whole [] (report s) (omega (arith, report_fits s))
