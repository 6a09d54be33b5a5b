-- The closest point of approach (relative_motion.rs, `closest_point_of_approach`,
-- `relative_bearing_of`), operation by operation, in two stages: the offset and the relative
-- velocity, and what follows from them.
use Rattle.std.specs.Prelude.{cond, ◌++◌, ◌-◌, ◌^◌, Float, Err, Ok}
use Rattle.std.specs.Float.{binary64}
use Rattle.std.specs.Float.Ieee.{neg, lt, le, of_bits}
use Rattle.laws.specs.Ops.{◌⊕◌, ◌⊖◌, ◌⊗◌, ◌⊘◌}
use Rattle.math.specs.Fold.{whole_fold}
use Rattle.math.specs.Clock.{from_hours}
use Rattle.math.specs.declared.duration.Duration.{Duration}
use Rattle.std.specs.declared.result.Result.{Result}
use Rattle.elementary.specs.declared.error.Refusal.{Refusal}
use Rattle.motion.specs.declared.units.RelativeBearing.{RelativeBearing}
use Rattle.math.specs.declared.duration.TimeError.{TimeError}
use Rattle.math.specs.declared.duration.TimeError.TheVariants.{NoTime, TooLong}
use Rattle.roots.specs.Hypot.{hypot}
use Rattle.motion.specs.declared.units.Distance.{Distance}
use Rattle.motion.specs.declared.vessel.Vessel.{Vessel}
use Rattle.motion.specs.declared.vessel.Contact.{Contact}
use Rattle.motion.specs.declared.vessel.Components.{Components}
use Rattle.relative_motion.specs.declared.approach.Cpa.{Cpa}
use Rattle.relative_motion.specs.declared.approach.Closest.{Closest}
use Rattle.relative_motion.specs.declared.approach.Track.{Track}
use Rattle.motion.specs.Check.{zero, verdict, vessel_checks, contact_checks, encounter_checks}
use Rattle.motion.specs.Vessel.{direction_of, offset, relative_velocity}

-- 1e-9
abbrev pub stationary_knots : Float
stationary_knots = of_bits binary64 0x3e11_2e0b_e826_d695

-- a time that is too long is the longest one
abbrev pub time_or_longest : Result Duration TimeError → Duration
time_or_longest (Ok d) = d
time_or_longest (Err TooLong) = record { secs = 2 ^ 64 - 1; nanos = 999999999 }
time_or_longest (Err NoTime) = record { secs = 2 ^ 64 - 1; nanos = 999999999 }

unfoldable pub time_to_go : Float → Duration
time_to_go hours = time_or_longest (from_hours hours)

unfoldable pub relative_speed : Components → Float
relative_speed relative = hypot relative.north relative.east

unfoldable pub closing_rate : Components → Components → Float
closing_rate position relative = position.north ⊗ relative.north ⊕ position.east ⊗ relative.east

-- in hours
unfoldable pub time_of : Components → Components → Float
time_of position relative = let speed = relative_speed relative in neg (closing_rate position relative) ⊘ (speed ⊗ speed)

-- the point of the relative track that is nearest to own craft
unfoldable pub closest : Components → Components → Components
closest position relative =
    let time = time_of position relative in
    record { north = position.north ⊕ relative.north ⊗ time; east = position.east ⊕ relative.east ⊗ time }

-- how the relative track goes; where it closes, when, to what point, and how far that is
unfoldable pub track : Distance → Components → Components → Track Closest
track range position relative =
    let point = closest position relative in
    cond (lt (relative_speed relative) stationary_knots) (Track.Stationary range)
    (cond (le (time_of position relative) zero) (Track.Opening range)
    (Track.Closing (record { hours = time_of position relative; point = point; distance = record { 0 = hypot point.north point.east } })))

unfoldable pub approach_from : Distance → Components → Components → Track Cpa
approach_from range position relative =
    let point = closest position relative in
    cond (lt (relative_speed relative) stationary_knots) (Track.Stationary range)
    (cond (le (time_of position relative) zero) (Track.Opening range)
    (Track.Closing (record {
      distance = record { 0 = hypot point.north point.east };
      time_to_go = time_to_go (time_of position relative);
      bearing = direction_of point;
    })))

unfoldable pub approach : Vessel → Contact → Vessel → Track Cpa
approach own contact target = approach_from contact.range (offset contact) (relative_velocity own target)

-- ---- the answers, by the verdict on the arguments
abbrev pub cpa_if_accepted : Result (Unit {0}) Refusal → Track Cpa → Result (Track Cpa) Refusal
cpa_if_accepted (Ok tt) a = Ok a
cpa_if_accepted (Err why) a = Err why

unfoldable pub cpa_answer : Vessel → Contact → Vessel → Result (Track Cpa) Refusal
cpa_answer own contact target = cpa_if_accepted (verdict (encounter_checks own contact target) (Ok tt)) (approach own contact target)

-- an approach without its time and bearing
abbrev pub distance_alone : Track Cpa → Track Distance
distance_alone (Track.Closing cpa) = Track.Closing cpa.distance
distance_alone (Track.Opening range) = Track.Opening range
distance_alone (Track.Stationary range) = Track.Stationary range

abbrev pub distance_alone_answer : Result (Track Cpa) Refusal → Result (Track Distance) Refusal
distance_alone_answer (Ok a) = Ok (distance_alone a)
distance_alone_answer (Err why) = Err why

unfoldable pub approach_distance_answer : Vessel → Contact → Vessel → Result (Track Distance) Refusal
approach_distance_answer own contact target = distance_alone_answer (cpa_answer own contact target)

abbrev pub bearing_if_accepted : Result (Unit {0}) Refusal → Float → Result RelativeBearing Refusal
bearing_if_accepted (Ok tt) b = Ok (record { 0 = b })
bearing_if_accepted (Err why) b = Err why

unfoldable pub bearing_answer : Vessel → Contact → Result RelativeBearing Refusal
bearing_answer own contact =
    bearing_if_accepted (verdict (vessel_checks own ++ contact_checks contact) (Ok tt))
    (whole_fold (contact.bearing.0 ⊖ own.course.0))
