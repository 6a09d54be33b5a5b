-- The assessment of one contact (assessment.rs, `assess`), operation by operation.
use Rattle.std.specs.Prelude.{◌++◌, None, Some, Err, Ok}
use Rattle.roots.specs.Hypot.{hypot}
use Rattle.motion.specs.declared.vessel.Vessel.{Vessel}
use Rattle.motion.specs.declared.vessel.Contact.{Contact}
use Rattle.motion.specs.Vessel.{unit, direction_of, offset, relative_velocity}
use Rattle.std.specs.declared.option.Option.{Option}
use Rattle.std.specs.declared.result.Result.{Result}
use Rattle.elementary.specs.declared.error.Refusal.{Refusal}
use Rattle.motion.specs.declared.units.Direction.{Direction}
use Rattle.motion.specs.declared.units.Distance.{Distance}
use Rattle.relative_motion.specs.declared.approach.Cpa.{Cpa}
use Rattle.math.specs.declared.duration.Duration.{Duration}
use Rattle.motion.specs.Check.{verdict, encounter_checks}
use Rattle.relative_motion.specs.Approach.{approach_from}
use Rattle.relative_motion.specs.Bow.{crossing}
use Rattle.assessment.specs.declared.policy.CpaPolicy.{CpaPolicy}
use Rattle.assessment.specs.declared.assess.CollisionAssessment.{CollisionAssessment}
use Rattle.assessment.specs.Policy.{policy_checks}
use Rattle.assessment.specs.Risk.{drift_of, nearest, ahead_of, risk_of}

unfoldable pub assessment : Vessel → Contact → Vessel → CpaPolicy → CollisionAssessment
assessment own contact target policy =
    let relative = relative_velocity own target in
    let cpa = nearest (approach_from contact.range (offset contact) relative) in
    record {
      range = contact.range;
      bearing = contact.bearing;
      relative_course = direction_of relative;
      relative_speed = record { 0 = hypot relative.north relative.east };
      bearing_drift = drift_of contact.range.0 (offset contact) relative;
      cpa = cpa;
      bow_crossing = ahead_of (crossing contact.range.0 (offset contact) relative (unit own.course.0));
      risk = risk_of policy cpa;
    }

-- own, contact, target, policy
abbrev pub assess_if_accepted : Result (Unit {0}) Refusal → CollisionAssessment → Result CollisionAssessment Refusal
assess_if_accepted (Ok tt) a = Ok a
assess_if_accepted (Err why) a = Err why

unfoldable pub assess_answer : Vessel → Contact → Vessel → CpaPolicy → Result CollisionAssessment Refusal
assess_answer own contact target policy =
    assess_if_accepted (verdict (encounter_checks own contact target ++ policy_checks policy) (Ok tt))
    (assessment own contact target policy)

-- ---- what an assessment says of the closest approach
abbrev pub cpa_distance : Option Cpa → Option Distance
cpa_distance None = None
cpa_distance (Some cpa) = Some cpa.distance

abbrev pub tcpa : Option Cpa → Option Duration
tcpa None = None
tcpa (Some cpa) = Some cpa.time_to_go

abbrev pub bearing_at_cpa : Option Cpa → Option Direction
bearing_at_cpa None = None
bearing_at_cpa (Some cpa) = Some cpa.bearing
