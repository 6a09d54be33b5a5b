-- The lines on a sheet's contacts (01, 'Encounter sheet and its program': a CONTACT line for each
-- contact, of what `closest_point_of_approach`, the assessment and `rule_of_the_road` say of it).
--
-- A sheet's values are checked before they are asked, so that on an accepted sheet none of them
-- refuses (proofs/Accepted.antt).
use mathlib.Core.List.{List, flat_map}
use Rattle.std.specs.Prelude.{ℕ, Err, Ok}
use Rattle.assessment.specs.declared.policy.CpaPolicy.{CpaPolicy}
use Rattle.colregs.specs.declared.answer.Ruling.{Ruling}
use Rattle.std.specs.declared.option.Option.{Option}
use Rattle.std.specs.declared.result.Result.{Result}
use Rattle.elementary.specs.declared.error.Refusal.{Refusal}
use Rattle.motion.specs.declared.units.Direction.{Direction}
use Rattle.relative_motion.specs.declared.approach.Cpa.{Cpa}
use Rattle.relative_motion.specs.declared.approach.Track.{Track}
use Rattle.relative_motion.specs.Approach.{cpa_answer}
use Rattle.assessment.specs.Risk.{nearest, risk_of}
use Rattle.situation.specs.declared.party.Party.{Party}
use Rattle.situation.specs.declared.party.Visibility.{Visibility}
use Rattle.situation.specs.Situation.{standard}
use Rattle.colregs.specs.Colregs.{ruling_answer}
use Rattle.ruled_search.specs.Ruled.{situation_of}
use Rattle.sheet_record.specs.declared.Row.{Row}
use Rattle.sheet.specs.Values.{entry_of}
use Rattle.lines.specs.Lines.{contact_line, refused_line}

abbrev pub line_if_answered : ℕ → CpaPolicy → Result (Track Cpa) Refusal → Result Ruling Refusal → List ℕ
line_if_answered id policy (Ok a) (Ok r) = contact_line id a (risk_of policy (nearest a)) r
line_if_answered id policy (Ok a) (Err why) = refused_line why
line_if_answered id policy (Err why) r = refused_line why

-- own craft, visibility and wind are the same for every contact
unfoldable pub line_of : Party → Visibility → Option Direction → CpaPolicy → Row → List ℕ
line_of own visibility wind policy row =
    let e = entry_of row in
    line_if_answered row.id policy (cpa_answer own.motion e.contact e.target.motion) (ruling_answer (situation_of own visibility wind e) standard)

-- in the sheet's order
unfoldable pub contact_lines : Party → Visibility → Option Direction → CpaPolicy → List Row → List ℕ
contact_lines own visibility wind policy rs = flat_map (line_of own visibility wind policy) rs
