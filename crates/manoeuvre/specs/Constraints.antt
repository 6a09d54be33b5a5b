-- The constraints of a manoeuvre (avoidance.rs, `PermittedSides`, `ManoeuvreConstraints`; 01, the
-- table's row 4).
use Rattle.std.specs.Prelude.{Bool, true, false, List, [], ◌∷◌, ◌++◌, Float, None, Some, Err, Ok}
use Rattle.std.specs.Float.{binary64}
use Rattle.std.specs.Float.Ieee.{of_bits}
use Rattle.math.specs.Sign.{abs}
use Rattle.elementary.specs.Range.{in_range}
use Rattle.elementary.specs.declared.error.Refusal.TheVariants as Why
use Rattle.motion.specs.declared.side.BySide.{BySide}
use Rattle.motion.specs.declared.units.Angle.{Angle}
use Rattle.motion.specs.declared.units.RateOfTurn.{RateOfTurn}
use Rattle.std.specs.declared.option.Option.{Option}
use Rattle.std.specs.declared.result.Result.{Result}
use Rattle.elementary.specs.declared.error.Refusal.{Refusal}
use Rattle.motion.specs.Check.{zero, Check, check, verdict}
use Rattle.manoeuvre.specs.declared.constraints.PermittedSides.{PermittedSides}
use Rattle.manoeuvre.specs.declared.constraints.PermittedSides.TheVariants as Sides
use Rattle.manoeuvre.specs.declared.constraints.ManoeuvreConstraints.{ManoeuvreConstraints}

abbrev pub permits_starboard : PermittedSides → Bool
permits_starboard Sides.Either = true
permits_starboard Sides.Starboard = true
permits_starboard Sides.Port = false

abbrev pub permits_port : PermittedSides → Bool
permits_port Sides.Either = true
permits_port Sides.Starboard = false
permits_port Sides.Port = true

abbrev pub permits : PermittedSides → BySide Bool
permits sides = record { starboard = permits_starboard sides; port = permits_port sides }

-- 180; the smallest normal f64 and the largest
abbrev pub reversal : Float
reversal = of_bits binary64 0x4066_8000_0000_0000

abbrev pub slowest : Float
slowest = of_bits binary64 0x0010_0000_0000_0000

abbrev pub fastest : Float
fastest = of_bits binary64 0x7fef_ffff_ffff_ffff

abbrev pub alteration_checks : Angle → Angle → List Check
alteration_checks least most = check (in_range zero reversal least.0) Why.Constraints ∷ check (in_range least.0 reversal most.0) Why.Constraints ∷ []

abbrev pub rate_checks : Option RateOfTurn → List Check
rate_checks None = []
rate_checks (Some r) = check (in_range slowest fastest r.0) Why.Constraints ∷ []

-- least, most, rate
unfoldable pub constraint_checks : ManoeuvreConstraints → List Check
constraint_checks c = alteration_checks c.least_alteration c.most_alteration ++ rate_checks c.rate_of_turn

abbrev pub constraints_if_accepted : Result (Unit {0}) Refusal → ManoeuvreConstraints → Result ManoeuvreConstraints Refusal
constraints_if_accepted (Ok tt) c = Ok c
constraints_if_accepted (Err why) c = Err why

unfoldable pub constraints_answer : PermittedSides → Angle → Angle → Result ManoeuvreConstraints Refusal
constraints_answer sides least most =
    constraints_if_accepted (verdict (alteration_checks least most) (Ok tt))
    (record { sides = sides; least_alteration = least; most_alteration = most; rate_of_turn = None })

-- the sign of the rate is ignored
unfoldable pub with_rate_of_turn : ManoeuvreConstraints → RateOfTurn → Result ManoeuvreConstraints Refusal
with_rate_of_turn c rate =
    let size = Some (record { 0 = abs rate.0 }) in
    constraints_if_accepted (verdict (rate_checks size) (Ok tt))
    (record { sides = c.sides; least_alteration = c.least_alteration; most_alteration = c.most_alteration; rate_of_turn = size })
