-- A target's course and speed from two plots (relative_motion.rs, `target_from_plot`), operation by
-- operation.
use Rattle.std.specs.Prelude.{cond, List, [], ◌∷◌, ◌++◌, Float, Err, Ok}
use Rattle.std.specs.Float.Ieee.{le}
use Rattle.laws.specs.Ops.{◌⊕◌, ◌⊖◌, ◌⊘◌}
use Rattle.math.specs.Fold.{half_fold, reciprocal}
use Rattle.math.specs.Clock.{is_accepted, hours_of}
use Rattle.math.specs.declared.duration.Duration.{Duration}
use Rattle.roots.specs.Hypot.{hypot}
use Rattle.elementary.specs.declared.error.Refusal.TheVariants as Why
use Rattle.std.specs.declared.result.Result.{Result}
use Rattle.elementary.specs.declared.error.Refusal.{Refusal}
use Rattle.motion.specs.declared.vessel.Vessel.{Vessel}
use Rattle.motion.specs.declared.vessel.Contact.{Contact}
use Rattle.motion.specs.declared.vessel.Components.{Components}
use Rattle.relative_motion.specs.declared.plot.TargetSolution.{TargetSolution}
use Rattle.motion.specs.Check.{zero, Check, check, verdict, vessel_checks, contact_checks}
use Rattle.motion.specs.Vessel.{direction_of, velocity, from_velocity, offset, difference}

unfoldable pub relative_motion : Contact → Contact → Float → Components
relative_motion first second interval =
    let moved = difference (offset second) (offset first) in
    record { north = moved.north ⊘ interval; east = moved.east ⊘ interval }

unfoldable pub target_of : Vessel → Components → Vessel
target_of own relative = let v = velocity own in from_velocity (record { north = relative.north ⊕ v.north; east = relative.east ⊕ v.east })

unfoldable pub solution : Vessel → Contact → Components → TargetSolution
solution own second relative =
    let target = target_of own relative in
    record {
      vessel = target;
      relative_course = direction_of relative;
      relative_speed = record { 0 = hypot relative.north relative.east };
      aspect = record { 0 = half_fold (reciprocal second.bearing.0 ⊖ target.course.0) };
    }

unfoldable pub plot_checks : Vessel → Contact → Contact → Duration → List Check
plot_checks own first second elapsed = vessel_checks own ++ contact_checks first ++ contact_checks second ++ check (is_accepted elapsed) Why.Time ∷ []

unfoldable pub plot_verdict : Vessel → Contact → Contact → Duration → Result (Unit {0}) Refusal
plot_verdict own first second elapsed = verdict (plot_checks own first second elapsed) (Ok tt)

-- with accepted arguments; plots at one moment tell nothing: 6
unfoldable pub solved : Vessel → Contact → Contact → Float → Result TargetSolution Refusal
solved own first second interval = cond (le interval zero) (Err Why.Time) (Ok (solution own second (relative_motion first second interval)))

abbrev pub plot_if_accepted : Result (Unit {0}) Refusal → Result TargetSolution Refusal → Result TargetSolution Refusal
plot_if_accepted (Ok tt) a = a
plot_if_accepted (Err why) a = Err why

unfoldable pub plot_answer : Vessel → Contact → Contact → Duration → Result TargetSolution Refusal
plot_answer own first second elapsed = plot_if_accepted (plot_verdict own first second elapsed) (solved own first second (hours_of elapsed))
