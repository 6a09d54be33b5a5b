-- The bearing drift, the closest approach and the bow crossing that an assessment names, and the
-- risk (assessment.rs, `assess`), operation by operation.
use Rattle.std.specs.Prelude.{cond, ℕ, Float, None, Some, Err, Ok}
use Rattle.std.specs.Float.{binary64}
use Rattle.std.specs.Float.Ieee.{lt, of_bits}
use Rattle.std.specs.Float.Ieee.Scale.{finite}
use Rattle.laws.specs.Ops.{◌⊖◌, ◌⊗◌, ◌⊘◌}
use Rattle.math.specs.Convert.{to_degrees}
use Rattle.math.specs.Clock.{is_before}
use Rattle.motion.specs.declared.units.RateOfTurn.{RateOfTurn}
use Rattle.motion.specs.declared.vessel.Components.{Components}
use Rattle.motion.specs.Check.{zero}
use Rattle.relative_motion.specs.declared.approach.Cpa.{Cpa}
use Rattle.relative_motion.specs.declared.approach.Track.{Track}
use Rattle.std.specs.declared.option.Option.{Option}
use Rattle.std.specs.declared.result.Result.{Result}
use Rattle.elementary.specs.declared.error.Refusal.{Refusal}
use Rattle.motion.specs.declared.units.Distance.{Distance}
use Rattle.assessment.specs.declared.policy.CpaPolicy.{CpaPolicy}
use Rattle.assessment.specs.declared.risk.CollisionRisk.{CollisionRisk}
use Rattle.assessment.specs.declared.risk.CollisionRisk.TheVariants.{Opening, Passing, Developing, Dangerous}

-- 60
abbrev pub sixty : Float
sixty = of_bits binary64 0x404e_0000_0000_0000

-- `CollisionRisk` in the order of concern
abbrev pub rank : CollisionRisk → ℕ
rank Opening = 0
rank Passing = 1
rank Developing = 2
rank Dangerous = 3

-- transverse velocity over range, per hour
unfoldable pub drift_per_hour : Float → Components → Components → Float
drift_per_hour range position relative =
    let squared = range ⊗ range in
    cond (lt zero squared) ((position.north ⊗ relative.east ⊖ position.east ⊗ relative.north) ⊘ squared) zero

unfoldable pub drift_of : Float → Components → Components → RateOfTurn
drift_of range position relative =
    let per_hour = drift_per_hour range position relative in
    record { 0 = cond (finite per_hour) (to_degrees per_hour ⊘ sixty) zero }

abbrev pub nearest : Track Cpa → Option Cpa
nearest (Track.Closing cpa) = Some cpa
nearest (Track.Opening range) = None
nearest (Track.Stationary range) = None

abbrev pub ahead_of : Result Distance Refusal → Option Distance
ahead_of (Ok d) = Some d
ahead_of (Err why) = None

-- a CPA equal to the limit isn't passing, a time equal to the limit isn't developing
unfoldable pub risk_at : CpaPolicy → Cpa → CollisionRisk
risk_at policy cpa =
    cond (lt policy.cpa_limit.0 cpa.distance.0) Passing
    (cond (is_before policy.tcpa_limit cpa.time_to_go) Developing Dangerous)

abbrev pub risk_of : CpaPolicy → Option Cpa → CollisionRisk
risk_of policy None = Opening
risk_of policy (Some cpa) = risk_at policy cpa
