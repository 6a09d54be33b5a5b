-- The courses that bring a contact to a wanted distance (relative_motion.rs, `course_for_cpa`),
-- operation by operation. The Rust keeps the courses that it finds in an array and then goes
-- through them; here each is offered as it is found, in the same order.
use Rattle.std.specs.Prelude.{Bool, true, false, ◌&&◌, cond, ◌++◌, Float, None, Some, Err, Ok}
use Rattle.std.specs.Float.{binary64}
use Rattle.std.specs.Float.Ieee.{neg, lt, le, of_bits}
use Rattle.laws.specs.Ops.{◌⊕◌, ◌⊖◌, ◌⊗◌, ◌⊘◌}
use Rattle.math.specs.Convert.{to_degrees}
use Rattle.math.specs.Fold.{half_turn, whole_fold}
use Rattle.roots.specs.Sqrt.{sqrt}
use Rattle.inverse_trigonometry.specs.Asin.{asin}
use Rattle.inverse_trigonometry.specs.Atan2.{atan2}
use Rattle.elementary.specs.declared.error.Refusal.TheVariants as Why
use Rattle.std.specs.declared.option.Option.{Option}
use Rattle.std.specs.declared.result.Result.{Result}
use Rattle.elementary.specs.declared.error.Refusal.{Refusal}
use Rattle.motion.specs.declared.units.Direction.{Direction}
use Rattle.motion.specs.declared.units.Distance.{Distance}
use Rattle.motion.specs.declared.vessel.Vessel.{Vessel}
use Rattle.motion.specs.declared.vessel.Contact.{Contact}
use Rattle.motion.specs.declared.vessel.Components.{Components}
use Rattle.relative_motion.specs.declared.best_course.Best.{Best}
use Rattle.motion.specs.declared.side.BySide.{BySide}
use Rattle.motion.specs.Check.{zero, verdict, encounter_checks, distance_checks}
use Rattle.motion.specs.Vessel.{unit, velocity}
pub use Rattle.relative_motion.specs.Offers.{smaller, larger}
unfoldable pub use Rattle.relative_motion.specs.Offers.{offered}

-- 1
abbrev pub one : Float
one = of_bits binary64 0x3ff0_0000_0000_0000

-- `.clamp(-1.0, 1.0)`
unfoldable pub clamped : Float → Float
clamped x = cond (lt x (neg one)) (neg one) (cond (lt one x) one x)

unfoldable pub grazing : Float → Float → Float
grazing wanted range = to_degrees (asin (clamped (wanted ⊘ range)))

-- ---- own velocity is the target's less a relative speed along the track
unfoldable pub at_speed : Float → Components → Components → Float → BySide (Option Best) → BySide (Option Best)
at_speed own_course target track relative_speed choice =
    let north = target.north ⊖ relative_speed ⊗ track.north in
    let east = target.east ⊖ relative_speed ⊗ track.east in
    cond (le relative_speed zero) choice (offered own_course (to_degrees (atan2 east north)) choice)

unfoldable pub along : Vessel → Components → Float → BySide (Option Best) → BySide (Option Best)
along own target degrees choice =
    let track = unit degrees in
    let own_speed = own.speed.0 in
    let projection = target.north ⊗ track.north ⊕ target.east ⊗ track.east in
    let target_speed_squared = target.north ⊗ target.north ⊕ target.east ⊗ target.east in
    let discriminant = projection ⊗ projection ⊖ (target_speed_squared ⊖ own_speed ⊗ own_speed) in
    let root = sqrt discriminant in
    cond (lt discriminant zero) choice
    (at_speed own.course.0 target track (projection ⊖ root) (at_speed own.course.0 target track (projection ⊕ root) choice))

unfoldable pub choice_of : Vessel → Contact → Vessel → Float → BySide (Option Best)
choice_of own contact target wanted =
    let aside = grazing wanted contact.range.0 in
    let away = contact.bearing.0 ⊕ half_turn in
    along own (velocity target) (away ⊕ aside) (along own (velocity target) (away ⊖ aside) (record { starboard = None; port = None }))

abbrev pub alteration_to : Option Best → Option Direction
alteration_to None = None
alteration_to (Some best) = Some (record { 0 = whole_fold best.course })

abbrev pub is_nothing : Option Direction → Bool
is_nothing None = true
is_nothing (Some d) = false

unfoldable pub avoidance_of : BySide (Option Best) → Result (BySide (Option Direction)) Refusal
avoidance_of choice =
    let starboard = alteration_to choice.starboard in
    let port = alteration_to choice.port in
    cond (is_nothing starboard && is_nothing port) (Err Why.NoOtherCourse) (Ok (record { starboard = starboard; port = port }))

-- with accepted arguments: 9, then 10, then 11
unfoldable pub course_for : Vessel → Contact → Vessel → Float → Result (BySide (Option Direction)) Refusal
course_for own contact target wanted =
    cond (le contact.range.0 wanted) (Err Why.InsideDesired)
    (cond (le own.speed.0 zero) (Err Why.NoOwnSpeed)
    (avoidance_of (choice_of own contact target wanted)))

abbrev pub course_if_accepted : Result (Unit {0}) Refusal → Result (BySide (Option Direction)) Refusal → Result (BySide (Option Direction)) Refusal
course_if_accepted (Ok tt) a = a
course_if_accepted (Err why) a = Err why

unfoldable pub course_answer : Vessel → Contact → Vessel → Distance → Result (BySide (Option Direction)) Refusal
course_answer own contact target desired =
    course_if_accepted (verdict (encounter_checks own contact target ++ distance_checks desired) (Ok tt))
    (course_for own contact target desired.0)
