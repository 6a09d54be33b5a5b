-- A manoeuvre (avoidance.rs, `AvoidanceManoeuvre`, and the turn time in `search`).
use Rattle.std.specs.Prelude.{cond, Float, None, Some, Err, Ok}
use Rattle.std.specs.Float.{binary64}
use Rattle.std.specs.Float.Ieee.{lt, of_bits}
use Rattle.laws.specs.Ops.{◌⊗◌, ◌⊘◌}
use Rattle.math.specs.Clock.{from_seconds}
use Rattle.std.specs.declared.option.Option.{Option}
use Rattle.std.specs.declared.result.Result.{Result}
use Rattle.std.specs.Prelude.{ℕ}
use Rattle.math.specs.declared.duration.Duration.{Duration}
use Rattle.math.specs.declared.duration.TimeError.{TimeError}
use Rattle.math.specs.declared.duration.TimeError.TheVariants.{NoTime, TooLong}
use Rattle.motion.specs.declared.units.Angle.{Angle}
use Rattle.motion.specs.declared.units.Direction.{Direction}
use Rattle.motion.specs.declared.units.Distance.{Distance}
use Rattle.motion.specs.declared.units.RateOfTurn.{RateOfTurn}
use Rattle.motion.specs.Check.{zero}
use Rattle.motion.specs.declared.side.Side.{Side}
use Rattle.manoeuvre.specs.declared.AvoidanceManoeuvre.{AvoidanceManoeuvre}

-- 60
abbrev pub sixty : Float
sixty = of_bits binary64 0x404e_0000_0000_0000

-- a time too long is none
abbrev pub in_time : Result Duration TimeError → Option Duration
in_time (Ok d) = Some d
in_time (Err TooLong) = None
in_time (Err NoTime) = None

unfoldable pub turned : Float → RateOfTurn → Option Duration
turned magnitude rate = in_time (from_seconds (magnitude ⊘ rate.0 ⊗ sixty))

abbrev pub turn_time : Float → Option RateOfTurn → Option Duration
turn_time magnitude None = None
turn_time magnitude (Some rate) = turned magnitude rate

unfoldable pub manoeuvre : Direction → Angle → Option Duration → Distance → Option ℕ → AvoidanceManoeuvre
manoeuvre course alteration time passing limiting =
    record {
      course = course;
      alteration = alteration;
      turn_time = time;
      least_passing = passing;
      limiting = limiting;
    }

-- port for a negative alteration, starboard for any other
unfoldable pub side_of : Angle → Side
side_of a = cond (lt a.0 zero) Side.Port Side.Starboard
