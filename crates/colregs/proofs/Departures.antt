-- The inputs of docs/DIFFERENCES.md, 'The Rust against COLREGs', in its order, as rows that are computed from the definitions.
use mathlib.Core.Path.{◌≡◌, refl}
use mathlib.Core.Bool.{Bool, true, false, ◌&&◌, not}
use mathlib.Core.List.{List, [], ◌∷◌}
use lib.Ieee.{binary64, of_bits, of_int, round, add, sub, mul, div, neg, rem, lt, le, eq, size}
use Rattle.laws.specs.Rows.{Row, every}
use Rattle.laws.specs.Units.{units_of}
use Rattle.math.specs.Convert.{degrees_per_radian, to_radians, to_degrees}
use Rattle.math.specs.Sign.{abs}
use Rattle.math.specs.Test.{is_effectively_zero}
use Rattle.math.specs.Fold.{turned, whole_fold, half_fold, reciprocal}
use Rattle.roots.specs.Hypot.{hypot}
use Rattle.roots.specs.Hypot as hypots
use Rattle.roots.specs.Sqrt.{sqrt}
use Rattle.trigonometry.specs.Taylor.{sine_divisors, cosine_divisors}
use Rattle.trigonometry.specs.Angle.{distance, quarters, even, negative}
use Rattle.trigonometry.specs.Units.{horner, square, sine_units, cosine_units, removed, rest, turned_minus, turned_units}
use Rattle.trigonometry.specs.Sine.{sin, cos}
use Rattle.trigonometry.specs.Sine as circular
use Rattle.elementary.specs.Range.{in_range}
use Rattle.motion.specs.Check.{verdict, is_direction, is_speed, is_distance}
use Rattle.motion.specs.Vessel.{unit, resolved, velocity}
use Rattle.situation.specs.declared.party.Tack.TheVariants as Tack
use Rattle.situation.specs.declared.party.VesselCategory.TheVariants.{PowerDriven, Sailing, Fishing, ConstrainedByDraught, RestrictedInAbilityToManoeuvre}
use Rattle.situation.specs.declared.party.VesselCategory.TheVariants.{NotUnderCommand}
use Rattle.situation.specs.Situation.{party, with_heading, heading, situation, with_wind_from}
use Rattle.colregs.specs.Geometry.{relative_of, aspect_of, larger, speed_of, range_rate, is_closing, geometry_of}
use Rattle.situation.specs.Arguments.{party_checks, is_width, situation_checks}
use Rattle.motion.specs.declared.side.Side.TheVariants.{Port, Starboard}
use Rattle.colregs.specs.declared.answer.Encounter.TheVariants.{Overtaking, BeingOvertaken, HeadOn, Crossing}
use Rattle.colregs.specs.declared.answer.Responsibility.TheVariants.{GiveWay, StandOn, Both, Undetermined}
use Rattle.colregs.specs.declared.answer.Rule.TheVariants.{Rule12, Rule13, Rule14, Rule15, Rule17, Rule18, Rule19}
use Rattle.colregs.specs.Colregs.{abaft, own_comes_up, target_comes_up, own_overtakes, target_overtakes, is_head_on, side_of, rule18, encounter_of, decided}
use Rattle.colregs.specs.Colregs.{forward_of_beam, rule19_starboard, rule19_port, rule17_port, permitted, ruling_for, ruling_of, ruling_answer}
use Rattle.situation.specs.declared.party.Situation.{Situation}
use Rattle.situation.specs.Situation.{standard}
use Rattle.colregs.specs.Text.{terms, more_abaft, nearly_ahead, on_starboard, on_port, first_asked, text}
use Rattle.colregs.specs.Departs.{asked, tests, Case, cases, applies, each_from_abaft, draught_over_power, draught_over_sail_and_fishing}
use Rattle.colregs.specs.Departs.{command_over_restricted, two_of_another_category, not_closing, either_tack, stand_on_not_to_port, ahead_or_astern}
use Rattle.colregs.specs.Departs.{neither_to_starboard, astern_unseen, not_closing_unseen}
use Rattle.colregs.proofs.Departing.{same}
use Rattle.colregs.proofs.Rows.{a, power, heads, vessel, seen, unseen, wind, rules}

unfoldable pub departures : List Row
departures =
    -- each from abaft the other's beam, from either side
    rules (seen (heads 180 (power 0 5)) 0 2 (heads 0 (power 180 5))) BeingOvertaken StandOn Rule13 true true true true
    ∷ rules (seen (heads 0 (power 180 5)) 180 2 (heads 180 (power 0 5))) BeingOvertaken StandOn Rule13 true true true true
    -- draught over power, from either side; draught over fishing
    ∷ rules (seen (a ConstrainedByDraught 0 10) 45 5 (power 270 10)) (Crossing Starboard) StandOn Rule18 true false true true
    ∷ rules (seen (power 0 10) 315 5 (a ConstrainedByDraught 90 10)) (Crossing Port) GiveWay Rule18 true true true false
    ∷ rules (seen (a ConstrainedByDraught 0 10) 45 5 (a Fishing 270 10)) (Crossing Starboard) StandOn Rule18 true false true true
    -- not under command over restricted
    ∷ rules (seen (a RestrictedInAbilityToManoeuvre 0 10) 45 5 (a NotUnderCommand 270 10)) (Crossing Starboard) GiveWay Rule18 true true true false
    -- two fishing vessels, head-on and crossing
    ∷ rules (seen (a Fishing 0 10) 0 5 (a Fishing 180 10)) HeadOn Both Rule14 true false true false
    ∷ rules (seen (a Fishing 0 10) 45 5 (a Fishing 270 10)) (Crossing Starboard) GiveWay Rule15 true false true false
    -- not closing: drawing apart, astern at the same speed, bow to bow
    ∷ rules (seen (power 0 10) 45 5 (power 45 20)) (Crossing Starboard) GiveWay Rule15 true false true false
    ∷ rules (seen (power 0 10) 0 2 (power 0 10)) (Crossing Port) StandOn Rule17 true false true true
    ∷ rules (seen (heads 0 (power 180 5)) 0 2 (heads 180 (power 0 5))) HeadOn Both Rule14 true false true false
    -- a tack unknown, to leeward of the port tack
    ∷ rules (wind 90 (seen (a (Sailing Tack.Port) 0 5) 270 2 (a (Sailing Tack.Unknown) 45 5))) (Crossing Port) Undetermined Rule12 true true true false
    -- not to port for a vessel to starboard
    ∷ rules (seen (a Fishing 0 5) 45 5 (power 270 10)) (Crossing Starboard) StandOn Rule18 true false true true
    -- right ahead
    ∷ rules (seen (power 0 10) 0 5 (power 270 10)) (Crossing Starboard) GiveWay Rule15 true false true false
    ∷ rules (seen (power 0 10) 0 5 (power 90 10)) (Crossing Port) StandOn Rule17 true false true true
    -- each to port of the other
    ∷ rules (seen (power 0 10) 315 5 (power 180 10)) (Crossing Port) StandOn Rule17 true false true true
    -- restricted visibility: right astern; drawing apart
    ∷ rules (unseen (power 0 10) 180 5 (power 0 12)) BeingOvertaken Both Rule19 false true true false
    ∷ rules (unseen (power 0 10) 45 5 (power 45 20)) (Crossing Starboard) Both Rule19 true false true false
    -- ---- outside the facts
    -- 12(a)(ii): at 90 degrees from the wind both stand on; the wind unknown
    ∷ rules (wind 0 (seen (a (Sailing Tack.Starboard) 0 5) 90 2 (a (Sailing Tack.Starboard) 0 5))) (Crossing Starboard) StandOn Rule12 true false true true
    ∷ rules (wind 0 (seen (a (Sailing Tack.Starboard) 0 5) 270 2 (a (Sailing Tack.Starboard) 0 5))) (Crossing Port) StandOn Rule12 true false true true
    ∷ rules (seen (a (Sailing Tack.Starboard) 0 5) 90 2 (a (Sailing Tack.Starboard) 0 5)) (Crossing Starboard) Undetermined Rule12 true true true false
    -- 12(a)(iii): at 90 degrees from the wind each sees the other to windward, and both give way
    ∷ rules (wind 0 (seen (a (Sailing Tack.Port) 0 5) 90 2 (a (Sailing Tack.Unknown) 0 5))) (Crossing Starboard) GiveWay Rule12 true true true false
    ∷ rules (wind 0 (seen (a (Sailing Tack.Port) 0 5) 270 2 (a (Sailing Tack.Unknown) 0 5))) (Crossing Port) GiveWay Rule12 true true true false
    -- 13(b), (c): exactly 22.5 degrees abaft the beam
    ∷ rules (seen (power 0 20) 0 5 (party (vessel (record { 0 = of_bits binary64 0x4050_e000_0000_0000 }) 10) PowerDriven))
    (Crossing Port) StandOn Rule17 true false true true
    -- 13(d): overtaking, and later crossing
    ∷ rules (seen (power 0 20) 310 1 (power 0 10)) Overtaking GiveWay Rule13 true true true false
    ∷ rules (seen (power 0 20) 280 1 (power 0 10)) (Crossing Port) StandOn Rule17 true false true true
    -- 14(b), (c): within 6 degrees, and over it
    ∷ rules (seen (power 0 10) 6 5 (power 180 10)) HeadOn Both Rule14 true false true false
    ∷ rules (seen (power 0 10) 6 5 (power 179 10)) (Crossing Starboard) GiveWay Rule15 true false true false
    ∷ rules (seen (power 0 10) 354 5 (power 167 10)) (Crossing Port) StandOn Rule17 true false true true
    -- 15: not to port; 17(a), (b): starboard at once
    ∷ rules (seen (power 0 10) 45 5 (power 270 10)) (Crossing Starboard) GiveWay Rule15 true false true false
    ∷ rules (seen (power 0 10) 315 5 (power 90 10)) (Crossing Port) StandOn Rule17 true false true true
    -- 18(c): fishing, of one not under command
    ∷ rules (seen (a Fishing 0 10) 45 5 (a NotUnderCommand 270 10)) (Crossing Starboard) GiveWay Rule18 true true true false
    -- the heading against the motion
    ∷ rules (seen (heads 90 (power 0 10)) 0 5 (power 180 10)) (Crossing Port) StandOn Rule17 true false true true
    ∷ []

pub departures_hold : every departures ≡ true
unfolding departures of_bits of_int round add sub mul div neg rem lt le eq size units_of degrees_per_radian to_radians to_degrees abs is_effectively_zero turned whole_fold half_fold reciprocal hypot hypots.in_domain sqrt sine_divisors cosine_divisors distance quarters even negative horner square sine_units cosine_units removed rest turned_minus turned_units sin cos circular.in_domain circular.scaled circular.from_units in_range verdict is_direction is_speed is_distance unit resolved velocity party with_heading heading situation with_wind_from relative_of aspect_of larger speed_of range_rate is_closing geometry_of party_checks is_width situation_checks abaft own_comes_up target_comes_up own_overtakes target_overtakes is_head_on side_of rule18 encounter_of decided forward_of_beam rule19_starboard rule19_port rule17_port permitted ruling_for ruling_of ruling_answer
departures_hold = refl

-- ---- an example of each case, in which the ruling and the text differ
pub record Example : Type 0 where
  pub case : Case
  pub situation : Situation

abbrev of : Case → Situation → Example
of case situation = record { case = case; situation = situation }

unfoldable pub examples : List Example
examples =
    of each_from_abaft (seen (heads 180 (power 0 5)) 0 2 (heads 0 (power 180 5)))
    ∷ of draught_over_power (seen (a ConstrainedByDraught 0 10) 45 5 (power 270 10))
    ∷ of draught_over_sail_and_fishing (seen (a ConstrainedByDraught 0 10) 45 5 (a Fishing 270 10))
    ∷ of command_over_restricted (seen (a RestrictedInAbilityToManoeuvre 0 10) 45 5 (a NotUnderCommand 270 10))
    ∷ of two_of_another_category (seen (a Fishing 0 10) 45 5 (a Fishing 270 10))
    ∷ of not_closing (seen (power 0 10) 45 5 (power 45 20))
    ∷ of either_tack (wind 90 (seen (a (Sailing Tack.Port) 0 5) 270 2 (a (Sailing Tack.Unknown) 45 5)))
    ∷ of stand_on_not_to_port (seen (a Fishing 0 5) 45 5 (power 270 10))
    ∷ of ahead_or_astern (seen (power 0 10) 0 5 (power 270 10))
    ∷ of neither_to_starboard (seen (power 0 10) 315 5 (power 180 10))
    ∷ of astern_unseen (unseen (power 0 10) 180 5 (power 0 12))
    ∷ of not_closing_unseen (unseen (power 0 10) 45 5 (power 45 20))
    ∷ []

abbrev cases_of : List Example → List Case
cases_of [] = []
cases_of (e ∷ es) = e.case ∷ cases_of es

-- no case is without one
pub an_example_each : cases_of examples ≡ cases
unfolding examples
an_example_each = refl

abbrev shows : Example → Bool
shows e =
    let f = geometry_of e.situation in
    applies e.case standard f && not (same (asked (ruling_of standard f)) (text standard f))

abbrev pub all_show : List Example → Bool
all_show [] = true
all_show (e ∷ es) = shows e && all_show es

pub examples_differ : all_show examples ≡ true
unfolding examples applies text first_asked terms tests more_abaft nearly_ahead on_starboard on_port of_bits of_int round add sub mul div neg rem lt le eq size units_of degrees_per_radian to_radians to_degrees abs is_effectively_zero turned whole_fold half_fold reciprocal hypot hypots.in_domain sqrt sine_divisors cosine_divisors distance quarters even negative horner square sine_units cosine_units removed rest turned_minus turned_units sin cos circular.in_domain circular.scaled circular.from_units in_range verdict is_direction is_speed is_distance unit resolved velocity party with_heading heading situation with_wind_from relative_of aspect_of larger speed_of range_rate is_closing geometry_of party_checks is_width situation_checks abaft own_comes_up target_comes_up own_overtakes target_overtakes is_head_on side_of rule18 encounter_of decided forward_of_beam rule19_starboard rule19_port rule17_port permitted ruling_for ruling_of ruling_answer
examples_differ = refl
