-- The facts of a situation that the rules speak of, operation by operation (rules.rs,
-- `geometry_of`, `is_closing`, and the wind in `sailing_vessels`; request R-2). Angles are taken
-- from the headings, closing from the motion.
use Rattle.std.specs.Prelude.{Bool, false, ◌&&◌, not, cond, Float, None, Some}
use Rattle.std.specs.Float.Ieee.{lt, le}
use Rattle.laws.specs.Ops.{◌⊕◌, ◌⊖◌, ◌⊗◌}
use Rattle.math.specs.Sign.{abs}
use Rattle.math.specs.Test.{is_effectively_zero}
unfoldable pub use Rattle.math.specs.Test.{larger}
use Rattle.math.specs.Fold.{zero, half_turn, half_fold, reciprocal}
use Rattle.roots.specs.Hypot.{hypot}
use Rattle.motion.specs.declared.units.Direction.{Direction}
use Rattle.motion.specs.declared.vessel.Vessel.{Vessel}
use Rattle.motion.specs.declared.vessel.Contact.{Contact}
use Rattle.motion.specs.declared.vessel.Components.{Components}
use Rattle.motion.specs.Vessel.{unit, velocity}
use Rattle.std.specs.declared.option.Option.{Option}
use Rattle.situation.specs.declared.party.Situation.{Situation}
use Rattle.colregs.specs.declared.geometry.Windward.{Windward}
use Rattle.colregs.specs.declared.geometry.Wind.{Wind}
use Rattle.colregs.specs.declared.geometry.Geometry.{Geometry}
use Rattle.situation.specs.Situation.{heading}
use Rattle.situation.specs.Arguments.{quarter_turn}

-- the target off own bow, positive to starboard
unfoldable pub relative_of : Contact → Direction → Float
relative_of contact own_heading = half_fold (contact.bearing.0 ⊖ own_heading.0)

-- own craft off the target's bow, positive to the target's starboard
unfoldable pub aspect_of : Contact → Direction → Float
aspect_of contact target_heading = half_fold (contact.bearing.0 ⊕ half_turn ⊖ target_heading.0)

unfoldable pub speed_of : Components → Float
speed_of v = hypot v.north v.east

-- how fast the range grows
unfoldable pub range_rate : Components → Components → Components → Float
range_rate line own target = line.north ⊗ (target.north ⊖ own.north) ⊕ line.east ⊗ (target.east ⊖ own.east)

-- the range closes; a rate within rounding of zero is neither closing nor opening
unfoldable pub is_closing : Contact → Vessel → Vessel → Bool
is_closing contact own target =
    let rate = range_rate (unit contact.bearing.0) (velocity own) (velocity target) in
    lt rate zero && not (is_effectively_zero rate (larger (speed_of (velocity own)) (speed_of (velocity target))))

-- ---- the wind
-- Rule 12(a)(ii): own craft is to windward if the other lies within 90 degrees of where it blows to
abbrev pub windward_of : Contact → Option Direction → Windward
windward_of contact None = Windward.Unknown
windward_of contact (Some from) = cond (lt (abs (half_fold (contact.bearing.0 ⊖ (from.0 ⊕ half_turn)))) quarter_turn) Windward.Own Windward.Target

-- Rule 12(a)(iii), request R-2: own craft sees the other to windward, 90 degrees or more from where
-- it blows to, 'the wind's `reciprocal`'. A fact of its own: the direction is folded here before
-- the difference is taken, and above it is not, so that the two round differently
abbrev pub seen_to_windward : Contact → Option Direction → Bool
seen_to_windward contact None = false
seen_to_windward contact (Some from) = le quarter_turn (abs (half_fold (contact.bearing.0 ⊖ reciprocal from.0)))

abbrev pub wind_of : Contact → Option Direction → Wind
wind_of contact from = record { windward = windward_of contact from; seen_to_windward = seen_to_windward contact from }

unfoldable pub geometry_of : Situation → Geometry
geometry_of s = record {
  relative = relative_of s.contact (heading s.own);
  aspect = aspect_of s.contact (heading s.target);
  closing = is_closing s.contact s.own.motion s.target.motion;
  own_speed = s.own.motion.speed;
  target_speed = s.target.motion.speed;
  own = s.own.category;
  target = s.target.category;
  wind = wind_of s.contact s.wind_from;
  visibility = s.visibility;
}
