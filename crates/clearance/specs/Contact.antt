-- What one contact does to a course (avoidance.rs, `clears`; 01, 'Trial list': 'a contact's passing
-- distance is its CPA on that course if closing there, else its present range').
use Rattle.std.specs.Prelude.{cond, Float, None, Some, Err, Ok}
use Rattle.std.specs.Float.Ieee.{lt, le}
use Rattle.motion.specs.Check.{zero}
use Rattle.motion.specs.declared.vessel.Vessel.{Vessel}
use Rattle.motion.specs.declared.vessel.Components.{Components}
use Rattle.motion.specs.Vessel.{velocity, offset, difference}
use Rattle.relative_motion.specs.declared.approach.Cpa.{Cpa}
use Rattle.relative_motion.specs.declared.approach.Track.{Track}
use Rattle.std.specs.declared.option.Option.{Option}
use Rattle.std.specs.declared.result.Result.{Result}
use Rattle.elementary.specs.declared.error.Refusal.{Refusal}
use Rattle.motion.specs.declared.units.Distance.{Distance}
use Rattle.relative_motion.specs.Approach.{closing_rate, approach_from, distance_alone, cpa_answer}
use Rattle.clearance.specs.declared.contact.Target.{Target}
use Rattle.clearance.specs.declared.contact.Moving.{Moving}

-- a closing contact blocks below the floor; any other passes at its range
abbrev pub cleared : Float → Track Distance → Option Distance
cleared floor (Track.Closing d) = cond (lt d.0 floor) None (Some d)
cleared floor (Track.Opening range) = Some range
cleared floor (Track.Stationary range) = Some range

abbrev pub cleared_answer : Float → Result (Track Cpa) Refusal → Option Distance
cleared_answer floor (Ok a) = cleared floor (distance_alone a)
cleared_answer floor (Err why) = None

unfoldable pub contact_clears : Vessel → Float → Target → Option Distance
contact_clears own floor t = cleared_answer floor (cpa_answer own t.contact t.vessel)

-- ---- what is computed: from offset and velocity, and by the range where the rate is not closing

unfoldable pub moving : Target → Moving
moving t = record { range = t.contact.range; offset = offset t.contact; velocity = velocity t.vessel }

unfoldable pub contact_clears_computed : Components → Float → Moving → Option Distance
contact_clears_computed own floor m =
    let relative = difference m.velocity own in
    cond (le zero (closing_rate m.offset relative)) (Some m.range) (cleared floor (distance_alone (approach_from m.range m.offset relative)))
