-- The avoidance of one contact (avoidance.rs, `avoid` and `search`); the seeds and the choice among
-- them are those of Seeds.antt.
use Rattle.std.specs.Prelude.{List, [], ◌∷◌, ◌++◌, None, Some, Err, Ok}
use Rattle.math.specs.Sign.{abs}
use Rattle.elementary.specs.declared.error.Refusal.TheVariants as Why
use Rattle.motion.specs.declared.units.Distance.{Distance}
use Rattle.motion.specs.declared.vessel.Vessel.{Vessel}
use Rattle.motion.specs.declared.vessel.Contact.{Contact}
use Rattle.std.specs.declared.option.Option.{Option}
use Rattle.std.specs.declared.result.Result.{Result}
use Rattle.elementary.specs.declared.error.Refusal.{Refusal}
use Rattle.motion.specs.Check.{Check, verdict, encounter_checks, distance_checks}
use Rattle.relative_motion.specs.Course.{course_answer}
use Rattle.manoeuvre.specs.declared.AvoidanceManoeuvre.{AvoidanceManoeuvre}
use Rattle.manoeuvre.specs.declared.constraints.ManoeuvreConstraints.{ManoeuvreConstraints}
use Rattle.manoeuvre.specs.Constraints.{constraint_checks}
use Rattle.manoeuvre.specs.Manoeuvre.{turn_time, manoeuvre}
use Rattle.clearance.specs.declared.contact.Target.{Target}
use Rattle.clearance.specs.Clearing.{floor_of, altered, moving}
use Rattle.avoidance.specs.declared.search.Chosen.{Chosen}
use Rattle.avoidance.specs.Search.{signed, trial_clears, trial_clears_computed}
pub use Rattle.avoidance.specs.Seeds.{no_courses, courses_or_none, raised, optional_seed, seed_choice, only}
unfoldable pub use Rattle.avoidance.specs.Seeds.{seed, seeded_side, seeded_choice}

-- ---- the answer: `avoid` names no limiting contact
abbrev pub manoeuvre_of : Vessel → ManoeuvreConstraints → Chosen → AvoidanceManoeuvre
manoeuvre_of own c x =
    let alteration = signed x.side x.magnitude.0 in
    manoeuvre (altered own alteration).course (record { 0 = alteration }) (turn_time (abs alteration) c.rate_of_turn) x.clearance.distance None

abbrev pub answered : Vessel → ManoeuvreConstraints → Option Chosen → Result AvoidanceManoeuvre Refusal
answered own c None = Err Why.NoTrialClears
answered own c (Some x) = Ok (manoeuvre_of own c x)

abbrev pub target_of : Contact → Vessel → Target
target_of contact target = record { contact = contact; vessel = target }

unfoldable pub avoided : Vessel → Contact → Vessel → Distance → ManoeuvreConstraints → Result AvoidanceManoeuvre Refusal
avoided own contact target desired c =
    let clears = trial_clears own (target_of contact target ∷ []) desired in
    answered own c (seeded_choice own clears (courses_or_none (course_answer own contact target desired)) c)

-- own, contact, target, desired, constraints
unfoldable pub avoid_checks : Vessel → Contact → Vessel → Distance → ManoeuvreConstraints → List Check
avoid_checks own contact target desired c = encounter_checks own contact target ++ (distance_checks desired ++ constraint_checks c)

abbrev pub avoid_if_accepted : Result (Unit {0}) Refusal → Result AvoidanceManoeuvre Refusal → Result AvoidanceManoeuvre Refusal
avoid_if_accepted (Ok tt) a = a
avoid_if_accepted (Err why) a = Err why

unfoldable pub avoid_answer : Vessel → Contact → Vessel → Distance → ManoeuvreConstraints → Result AvoidanceManoeuvre Refusal
avoid_answer own contact target desired c =
    avoid_if_accepted (verdict (avoid_checks own contact target desired c) (Ok tt))
    (avoided own contact target desired c)

-- ---- what is computed, from offset and velocity; the same on accepted arguments
unfoldable pub avoided_computed : Vessel → Contact → Vessel → Distance → ManoeuvreConstraints → Result AvoidanceManoeuvre Refusal
avoided_computed own contact target desired c =
    let clears = trial_clears_computed own (floor_of desired) (moving (target_of contact target) ∷ []) in
    answered own c (seeded_choice own clears (courses_or_none (course_answer own contact target desired)) c)
