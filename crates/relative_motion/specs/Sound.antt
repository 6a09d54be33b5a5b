-- What holds of the figures in any answer: they are finite, whatever the arguments were. And of the
-- way to them, on accepted arguments: each elementary function is called inside its domain, and a
-- time worked out is not cut.
use Rattle.std.specs.Prelude.{◌≡◌, false, ◌&&◌, List, [], ◌∷◌, T, None, Some, Err, Ok}
use Rattle.std.specs.Float.Ieee.{lt, le}
use Rattle.std.specs.Float.Ieee.Scale.{finite}
use Rattle.laws.specs.Ops.{◌⊗◌}
use Rattle.math.specs.Convert.{to_radians}
use Rattle.math.specs.Fold.{IsDirection, IsDifference}
use Rattle.math.specs.Clock.{seconds_per_hour, clock, nanos_in, from_hours}
use Rattle.std.specs.declared.option.Option.{Option}
use Rattle.std.specs.declared.result.Result.{Result}
use Rattle.motion.specs.declared.side.BySide.{BySide}
use Rattle.elementary.specs.declared.error.Refusal.{Refusal}
use Rattle.motion.specs.declared.units.Direction.{Direction}
use Rattle.motion.specs.declared.units.Distance.{Distance}
use Rattle.motion.specs.declared.units.RelativeBearing.{RelativeBearing}
use Rattle.relative_motion.specs.declared.approach.Cpa.{Cpa}
use Rattle.relative_motion.specs.declared.approach.Track.{Track}
use Rattle.roots.specs.Hypot as Hypot
use Rattle.trigonometry.specs.Sine as Sine
use Rattle.motion.specs.declared.vessel.Vessel.{Vessel}
use Rattle.motion.specs.declared.vessel.Contact.{Contact}
use Rattle.motion.specs.declared.vessel.Components.{Components}
use Rattle.relative_motion.specs.declared.plot.TargetSolution.{TargetSolution}
use Rattle.motion.specs.Check.{zero, Check}
pub use Rattle.motion.specs.Held.{HeldVessel, HeldContact}
use Rattle.motion.specs.Vessel.{offset, relative_velocity}
use Rattle.relative_motion.specs.Approach.{stationary_knots, relative_speed, time_of, closest}

-- every check is good
abbrev pub AllGood : List Check → Type 0
AllGood [] = Unit {0}
AllGood (c ∷ cs) = T c.good × AllGood cs

-- ---- the figures of an answer
abbrev pub FiniteApproach : Track Cpa → Type 0
FiniteApproach (Track.Closing cpa) = T (finite cpa.distance.0) × IsDirection cpa.bearing.0
FiniteApproach (Track.Opening range) = T (finite range.0)
FiniteApproach (Track.Stationary range) = T (finite range.0)

abbrev pub FiniteCpa : Result (Track Cpa) Refusal → Type 0
FiniteCpa (Ok a) = FiniteApproach a
FiniteCpa (Err why) = Unit {0}

abbrev pub FinitePass : Result (Track Distance) Refusal → Type 0
FinitePass (Ok (Track.Closing d)) = T (finite d.0)
FinitePass (Ok (Track.Opening d)) = T (finite d.0)
FinitePass (Ok (Track.Stationary d)) = T (finite d.0)
FinitePass (Err why) = Unit {0}

abbrev pub FiniteBearing : Result RelativeBearing Refusal → Type 0
FiniteBearing (Ok b) = IsDirection b.0
FiniteBearing (Err why) = Unit {0}

abbrev pub FiniteBow : Result Distance Refusal → Type 0
FiniteBow (Ok d) = T (finite d.0)
FiniteBow (Err why) = Unit {0}

pub record FiniteSolution (s : TargetSolution) : Type 0 where
  pub course : IsDirection s.vessel.course.0
  pub speed : T (finite s.vessel.speed.0)
  pub relative_course : IsDirection s.relative_course.0
  pub relative_speed : T (finite s.relative_speed.0)
  pub aspect : IsDifference s.aspect.0

abbrev pub FinitePlot : Result TargetSolution Refusal → Type 0
FinitePlot (Ok s) = FiniteSolution s
FinitePlot (Err why) = Unit {0}

abbrev pub FiniteAlteration : Option Direction → Type 0
FiniteAlteration None = Unit {0}
FiniteAlteration (Some d) = IsDirection d.0

abbrev pub FiniteCourse : Result (BySide (Option Direction)) Refusal → Type 0
FiniteCourse (Ok a) = FiniteAlteration a.starboard × FiniteAlteration a.port
FiniteCourse (Err why) = Unit {0}

-- ---- the way to a closest point of approach, from a position and a relative velocity
pub record Way (position relative : Components) : Type 0 where
  pub speed_domain : T (Hypot.in_domain relative.north && Hypot.in_domain relative.east)
  pub speed_finite : T (finite (relative_speed relative))
  pub time_finite : lt (relative_speed relative) stationary_knots ≡ false → T (finite (time_of position relative))
  pub distance_domain : lt (relative_speed relative) stationary_knots ≡ false
      → T (Hypot.in_domain (closest position relative).north && Hypot.in_domain (closest position relative).east)
  pub bearing_domain : lt (relative_speed relative) stationary_knots ≡ false
      → T (finite (closest position relative).north) × T (finite (closest position relative).east)
  pub time_fits : lt (relative_speed relative) stationary_knots ≡ false → le (time_of position relative) zero ≡ false
      → from_hours (time_of position relative) ≡ Ok (clock (nanos_in (time_of position relative ⊗ seconds_per_hour)))

pub record CpaWay (own : Vessel) (contact : Contact) (target : Vessel) : Type 0 where
  pub own_domain : T (Sine.in_domain (to_radians own.course.0))
  pub contact_domain : T (Sine.in_domain (to_radians contact.bearing.0))
  pub target_domain : T (Sine.in_domain (to_radians target.course.0))
  pub way : Way (offset contact) (relative_velocity own target)
