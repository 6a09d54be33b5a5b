-- The checks of arguments (01, 'The answers by number': 'arguments are checked in the order … own,
-- contact (first plot, then second), target, …, inside one in field order; … the first bad one
-- decides; with none bad they are accepted').
use Rattle.std.specs.Prelude.{Bool, ◌&&◌, cond, List, [], ◌∷◌, ◌++◌, Float, Ok, Err}
use Rattle.std.specs.Float.{binary64}
use Rattle.std.specs.Float.Ieee.{lt, le, of_bits}
use Rattle.elementary.specs.declared.error.Refusal.{Refusal}
use Rattle.elementary.specs.declared.error.Refusal.TheVariants as Why
use Rattle.elementary.specs.Range.{in_range}
use Rattle.std.specs.declared.result.Result.{Result}
use Rattle.motion.specs.declared.units.Direction.{Direction}
use Rattle.motion.specs.declared.units.Speed.{Speed}
use Rattle.motion.specs.declared.units.Distance.{Distance}
use Rattle.motion.specs.declared.vessel.Vessel.{Vessel}
use Rattle.motion.specs.declared.vessel.Contact.{Contact}

-- whether an argument is good, and the refusal if it is not
pub record Check : Type 0 where
  pub good : Bool
  pub why : Refusal

abbrev pub check : Bool → Refusal → Check
check good why = record { good = good; why = why }

-- the first bad one decides; with none bad, what the checks after these say
unfoldable pub verdict : List Check → Result (Unit {0}) Refusal → Result (Unit {0}) Refusal
verdict [] rest = rest
verdict (c ∷ cs) rest = cond c.good (verdict cs rest) (Err c.why)

-- a list of checks by itself
abbrev pub checked : List Check → Result (Unit {0}) Refusal
checked cs = verdict cs (Ok tt)

-- 0, 360, 1,000 and 10,000
abbrev pub zero : Float
zero = of_bits binary64 0

abbrev pub full_turn : Float
full_turn = of_bits binary64 0x4076_8000_0000_0000

abbrev pub fastest : Float
fastest = of_bits binary64 0x408f_4000_0000_0000

abbrev pub farthest : Float
farthest = of_bits binary64 0x40c3_8800_0000_0000

-- rows 1, 2 and 3 of the table: what is not finite fails a comparison
unfoldable pub is_direction : Direction → Bool
is_direction d = le zero d.0 && lt d.0 full_turn

unfoldable pub is_speed : Speed → Bool
is_speed s = in_range zero fastest s.0

unfoldable pub is_distance : Distance → Bool
is_distance d = in_range zero farthest d.0

abbrev pub vessel_checks : Vessel → List Check
vessel_checks v = check (is_direction v.course) Why.Angle ∷ check (is_speed v.speed) Why.Speed ∷ []

abbrev pub contact_checks : Contact → List Check
contact_checks c = check (is_direction c.bearing) Why.Angle ∷ check (is_distance c.range) Why.Distance ∷ []

abbrev pub distance_checks : Distance → List Check
distance_checks d = check (is_distance d) Why.Distance ∷ []

unfoldable pub encounter_checks : Vessel → Contact → Vessel → List Check
encounter_checks own contact target = vessel_checks own ++ contact_checks contact ++ vessel_checks target
