-- The fields of a contact's line, after document 01, 'Encounter sheet and its program': 'Fields:
-- id, approach, CPA (range if OPENING or STATIONARY), whole seconds to CPA rounded down (`-` if
-- none), risk (others: OPENING, PASSING, DEVELOPING)', after DANGEROUS, and 'Three decimals,
-- nearest, ties to even.'
use Rattle.std.specs.Prelude.{List, ℕ}
use Rattle.text.specs.Text.{bytes}
use Rattle.text.specs.Decimal.{decimal_of}
use Rattle.motion.specs.declared.units.Distance.{Distance}
use Rattle.relative_motion.specs.declared.approach.Cpa.{Cpa}
use Rattle.relative_motion.specs.declared.approach.Track.{Track}
use Rattle.assessment.specs.declared.risk.CollisionRisk.{CollisionRisk}
use Rattle.assessment.specs.declared.risk.CollisionRisk.TheVariants as Risk
pub use Rattle.text.specs.Number.{quantity_field}

abbrev pub approach_field : Track Cpa → List ℕ
approach_field (Track.Closing cpa) = bytes "CLOSING"
approach_field (Track.Opening range) = bytes "OPENING"
approach_field (Track.Stationary range) = bytes "STATIONARY"

abbrev pub distance_of : Track Cpa → Distance
distance_of (Track.Closing cpa) = cpa.distance
distance_of (Track.Opening range) = range
distance_of (Track.Stationary range) = range

-- the time is whole seconds and nanoseconds
abbrev pub seconds_field : Track Cpa → List ℕ
seconds_field (Track.Closing cpa) = decimal_of cpa.time_to_go.secs
seconds_field (Track.Opening range) = bytes "-"
seconds_field (Track.Stationary range) = bytes "-"

abbrev pub risk_field : CollisionRisk → List ℕ
risk_field Risk.Opening = bytes "OPENING"
risk_field Risk.Passing = bytes "PASSING"
risk_field Risk.Developing = bytes "DEVELOPING"
risk_field Risk.Dangerous = bytes "DANGEROUS"
