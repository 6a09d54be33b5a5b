-- The lines that the encounter sheet's program prints, field by field, after document 01,
-- 'Encounter sheet and its program', from 'It prints' on.
use Rattle.std.specs.Prelude.{List, [], ◌∷◌, ℕ, Err, Ok}
use Rattle.std.specs.declared.result.Result.{Result}
use Rattle.text.specs.Text.{bytes, appended}
use Rattle.text.specs.Decimal.{decimal_of}
use Rattle.text.specs.Line.{line}
use Rattle.lines.specs.Approach.{quantity_field, approach_field, distance_of, seconds_field, risk_field}
use Rattle.lines.specs.Ruling.{encounter_field, responsibility_field}
use Rattle.elementary.specs.declared.error.Refusal.{Refusal}
use Rattle.elementary.specs.Refusal.{number_of}
use Rattle.relative_motion.specs.declared.approach.Cpa.{Cpa}
use Rattle.relative_motion.specs.declared.approach.Track.{Track}
use Rattle.assessment.specs.declared.risk.CollisionRisk.{CollisionRisk}
use Rattle.colregs.specs.declared.answer.Ruling.{Ruling}
use Rattle.colregs.specs.Ruling.{rule_number}
use Rattle.ruled_search.specs.declared.RuledManoeuvre.{RuledManoeuvre}
pub use Rattle.lines.specs.Turn.{side_field, passing_field, limiting_field}

-- 'id, approach, CPA (range if OPENING or STATIONARY), whole seconds to CPA rounded down (`-` if
-- none), risk, encounter, responsibility, rule'
unfoldable pub contact_line : ℕ → Track Cpa → CollisionRisk → Ruling → List ℕ
contact_line id approach risk ruling =
    line
    (bytes "CONTACT"
    ∷ decimal_of id
    ∷ approach_field approach
    ∷ quantity_field (distance_of approach).0
    ∷ seconds_field approach
    ∷ risk_field risk
    ∷ encounter_field ruling.encounter
    ∷ responsibility_field ruling.responsibility
    ∷ decimal_of (rule_number ruling.rule)
    ∷ [])

-- 'side, magnitude, new course, passing distance, limiting id'; the id is that of the limiting
-- contact
unfoldable pub alter_line : RuledManoeuvre → ℕ → List ℕ
alter_line m id =
    line
    (bytes "ALTER"
    ∷ side_field m.side
    ∷ quantity_field m.magnitude.0
    ∷ quantity_field m.course.0
    ∷ passing_field m.limiting m.least_passing
    ∷ limiting_field m.limiting id
    ∷ [])

-- '`REFUSED n`'
unfoldable pub refused_line : Refusal → List ℕ
refused_line why = line (bytes "REFUSED" ∷ decimal_of (number_of why) ∷ [])

-- what is printed up to an answer, and after it the line on a refusal where the answer is one
abbrev pub with_refusal : List ℕ → Result (Unit {0}) Refusal → List ℕ
with_refusal printed (Ok tt) = printed
with_refusal printed (Err why) = appended printed (refused_line why)
