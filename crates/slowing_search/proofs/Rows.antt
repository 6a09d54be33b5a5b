-- The worked figures of request R-3, in one table: what the definitions compute, and what it must be. Own craft steers north, and both sides are asked for.
use Rattle.std.specs.Prelude.{None, Err, Ok}
use mathlib.Core.Path.{◌≡◌, refl}
use mathlib.Core.Bool.{true}
use mathlib.Core.List.{List, [], ◌∷◌}
use Prim.Native.Nat.{ℕ, ◌+◌, ◌*◌, ◌^◌}
use lib.Ieee.{Float, binary64, add, div, eq, le, lt, mul, neg, of_bits, of_int, rem, round, size, sub, to_bits, to_unsigned}
use lib.ListN.{length}
use Rattle.laws.specs.First.{first}
use Rattle.laws.specs.Fold.{fold}
use Rattle.laws.specs.Rows.{Row, every, row}
use Rattle.laws.specs.Units.{units_of}
use Rattle.math.specs.Cast.{to_usize}
use Rattle.math.specs.Convert.{degrees_per_radian, to_degrees, to_radians}
use Rattle.math.specs.Sign.{abs}
use Rattle.math.specs.Test.{is_effectively_zero}
use Rattle.math.specs.Fold.{half_fold, reciprocal, whole_fold}
use Rattle.math.specs.Fold as folds
use Rattle.math.specs.Clock.{clock, from_hours, hours_of, is_accepted, nanos_in}
use Rattle.roots.specs.Hypot.{hypot}
use Rattle.roots.specs.Hypot as hypots
use Rattle.roots.specs.Sqrt.{sqrt}
use Rattle.trigonometry.specs.Angle.{distance, even, negative, quarters}
use Rattle.trigonometry.specs.Taylor.{cosine_divisors, sine_divisors}
use Rattle.trigonometry.specs.Units.{cosine_units, horner, removed, rest, sine_units, square, turned_minus, turned_units}
use Rattle.trigonometry.specs.Sine.{cos, sin}
use Rattle.trigonometry.specs.Sine as circular
use Rattle.grid.specs.Arctangent.{arctangent_steps, not_above, placed}
use Rattle.grid.specs.Grid.{cosine_step, sine_step}
use Rattle.grid.specs.Search.{greatest, greatest_to, up_to}
use Rattle.inverse_trigonometry.specs.Atan2.{angle_steps, atan2, both_finite, octant, scaled_by}
use Rattle.elementary.specs.Range.{in_range}
use Rattle.elementary.specs.Refusal.{number_of}
use Rattle.elementary.specs.declared.error.Refusal.{Refusal}
use Rattle.motion.specs.declared.side.Side.{Side}
use Rattle.motion.specs.declared.units.Distance.{Distance}
use Rattle.motion.specs.Vessel.{difference, direction_of, offset, relative_velocity, resolved, unit, velocity}
use Rattle.motion.specs.Check.{encounter_checks, is_direction, is_distance, is_speed, verdict}
use Rattle.std.specs.declared.result.Result.{Result}
use Rattle.relative_motion.specs.Approach.{approach, approach_from, closest, closing_rate, cpa_answer, relative_speed, time_of, time_to_go}
use Rattle.situation.specs.Arguments.{is_width, party_checks, situation_checks}
use Rattle.situation.specs.Situation.{heading, party, situation}
use Rattle.situation.specs.declared.party.Party.{Party}
use Rattle.situation.specs.declared.party.Visibility.{Visibility}
use Rattle.situation.specs.declared.party.Visibility.TheVariants.{InSight, Restricted}
use Rattle.situation.specs.declared.party.VesselCategory.TheVariants.{PowerDriven, Fishing}
use Rattle.colregs.specs.Geometry.{aspect_of, geometry_of, is_closing, larger, range_rate, relative_of, speed_of}
use Rattle.colregs.specs.Colregs.{abaft, decided, encounter_of, forward_of_beam, is_head_on, own_comes_up, own_overtakes, permitted, rule17_port, rule19_port}
use Rattle.colregs.specs.Colregs.{rule18, ruling_answer, ruling_for, ruling_of, side_of, rule19_starboard, target_comes_up, target_overtakes}
use Rattle.colregs.proofs.Rows.{a, contact, direction, number, power}
use Rattle.manoeuvre.specs.declared.constraints.ManoeuvreConstraints.{ManoeuvreConstraints}
use Rattle.manoeuvre.specs.declared.constraints.PermittedSides.TheVariants as Sides
use Rattle.manoeuvre.specs.Constraints.{constraint_checks}
use Rattle.manoeuvre.specs.Trials.{last, trial, trials, trials_from}
use Rattle.clearance.specs.Clearing.{altered, clearing, clears, contact_clears, floor_of, nearer, tally}
use Rattle.clearance.specs.declared.traffic.Entry.{Entry}
use Rattle.clearance.specs.Traffic.{contacts_checks, entry_checks, target_of}
use Rattle.avoidance.specs.Search.{both, trial_clears}
use Rattle.avoidance.specs.Search as trying
use Rattle.ruled_search.specs.declared.RuledManoeuvre.{RuledManoeuvre}
use Rattle.ruled_search.specs.Ruled.{answered, in_both, ruled_answer, ruled_checks, shared_sides, sides_of}
use Rattle.ruled_search.specs.Ruled as ruling
use Rattle.slowing_search.specs.declared.SlowingManoeuvre.{SlowingManoeuvre}
use Rattle.slowing_search.specs.Slowing.{all_permit_slowing, at_pair, choice, down_from, fastest, pair_clears, search, slowing}
use Rattle.slowing_search.specs.Slowing.{slowing_answer, trial_speed, trial_speeds}

-- ---- arguments
abbrev bits : ℕ → Float
bits n = of_bits binary64 n

abbrev between : ℕ → ℕ → ManoeuvreConstraints
between least most = record {
  sides = Sides.Either;
  least_alteration = record { 0 = number least };
  most_alteration = record { 0 = number most };
  rate_of_turn = None;
}

-- a contact by bearing and range, and the vessel that it is
abbrev seen : ℕ → ℕ → Party → Entry
seen bearing range target = record { contact = contact (direction bearing) range; target = target }

abbrev miles : ℕ → Distance
miles n = record { 0 = number n }

-- own craft, power-driven, in sight or not; the contacts; the desired distance and the limits
abbrev slowed_by : Party → Visibility → List Entry → Distance → ℕ → ℕ → Result SlowingManoeuvre Refusal
slowed_by own visibility contacts desired least most = slowing_answer own (length contacts) contacts visibility None desired (between least most)

abbrev slowed : ℕ → List Entry → ℕ → ℕ → Result SlowingManoeuvre Refusal
slowed speed contacts least most = slowed_by (power 0 speed) InSight contacts (miles 1) least most

-- own speed by its bits
abbrev creeping : ℕ → Party
creeping speed = party (record { course = direction 0; speed = record { 0 = bits speed } }) PowerDriven

-- ---- figures: a side, a magnitude and a speed by their bits, as one number; or a refusal's
abbrev pair : ℕ → ℕ → ℕ → ℕ
pair side magnitude speed = (side * 2 ^ 64 + magnitude) * 2 ^ 64 + speed

abbrev side_code : Side → ℕ
side_code Side.Starboard = 1
side_code Side.Port = 2

abbrev pair_in : Result SlowingManoeuvre Refusal → ℕ
pair_in (Ok m) = pair (side_code m.turn.side) (to_bits binary64 m.turn.magnitude.0) (to_bits binary64 m.speed.0)
pair_in (Err why) = number_of why

abbrev magnitude_in : Result RuledManoeuvre Refusal → ℕ
magnitude_in (Ok m) = to_bits binary64 m.magnitude.0
magnitude_in (Err why) = number_of why

-- ---- at most 1 degree
unfoldable pub small_turns : List Row
small_turns =
    -- the speeds: 5/8 of 2.225073858507202e-308 is rounded once; of 5e-324 five eighths are it and a half is 0
    row (to_bits binary64 (trial_speed (record { 0 = bits 0x0010_0000_0000_0001 }) 5).0) 0x000a_0000_0000_0001
    ∷ row (to_bits binary64 (trial_speed (record { 0 = bits 1 }) 5).0) 1
    ∷ row (to_bits binary64 (trial_speed (record { 0 = bits 1 }) 4).0) 0
    -- at 5 knots without a turn, where the ruled search turns by 29 degrees; and of a vessel that stands on
    ∷ row (pair_in (slowed 10 (seen 45 4 (power 270 10) ∷ []) 0 180)) (pair 1 0 0x4014_0000_0000_0000)
    ∷ row (magnitude_in (ruled_answer (power 0 10) 1 (seen 45 4 (power 270 10) ∷ []) InSight None (miles 1) (between 0 180))) 0x403d_0000_0000_0000
    ∷ row (pair_in (slowed 10 (seen 315 4 (power 90 10) ∷ []) 0 180)) (pair 1 0 0x4014_0000_0000_0000)
    -- at 4 knots, by the rulings at 8; those at 4 knots share no side
    ∷ row (pair_in (slowed_by (power 0 8) Restricted (seen 0 3 (power 0 4) ∷ seen 120 3 (power 0 0) ∷ []) (miles 1) 0 5)) (pair 2 0 0x4010_0000_0000_0000)
    ∷ row (pair_in (slowed_by (power 0 4) Restricted (seen 0 3 (power 0 4) ∷ seen 120 3 (power 0 0) ∷ []) (miles 1) 0 5)) 13
    -- own speed 0 and 5e-324, and a refusal
    ∷ row (pair_in (slowed 0 (seen 45 4 (power 270 10) ∷ []) 0 180)) (pair 1 0 0)
    ∷ row (pair_in (slowed_by (creeping 1) InSight (seen 45 4 (power 270 10) ∷ []) (miles 1) 0 180)) (pair 1 0 1)
    ∷ row (pair_in (slowed_by (creeping 1) InSight (seen 0 4 (power 180 10) ∷ []) (miles 1) 0 1)) 5
    ∷ []

pub small_turns_holds : every small_turns ≡ true
unfolding abaft abs add all_permit_slowing altered angle_steps answered approach approach_from arctangent_steps aspect_of at_pair atan2 both both_finite
    choice circular.from_units circular.in_domain circular.scaled clearing clears clock closest closing_rate constraint_checks contact_clears
    contacts_checks cos cosine_divisors cosine_step cosine_units cpa_answer decided degrees_per_radian difference direction_of distance div down_from
    encounter_checks encounter_of entry_checks eq even fastest first floor_of fold folds.turned forward_of_beam from_hours geometry_of greatest
    greatest_to half_fold heading horner hours_of hypot hypots.in_domain in_both in_range is_accepted is_closing is_direction is_distance
    is_effectively_zero is_head_on is_speed is_width larger last le lt mul nanos_in nearer neg negative not_above octant of_bits of_int offset
    own_comes_up own_overtakes pair_clears party party_checks permitted placed quarters range_rate reciprocal relative_of relative_speed
    relative_velocity rem removed resolved rest round rule17_port rule18 rule19_port rule19_starboard ruled_answer ruled_checks ruling.ruled
    ruling_answer ruling_for ruling_of scaled_by search shared_sides side_of sides_of sin sine_divisors sine_step sine_units situation
    situation_checks size slowing slowing_answer speed_of sqrt square sub small_turns tally target_comes_up target_of target_overtakes time_of
    time_to_go to_bits to_degrees to_radians to_unsigned to_usize trial trial_clears trial_speeds trials trials_from trying.choice trying.first
    trying.search trying.side_choice turned_minus turned_units unit units_of up_to velocity verdict whole_fold
small_turns_holds = refl

-- ---- farther
unfoldable pub turns : List Row
turns =
    -- full speed before lower ones, to port; and where no lower speed has a smaller turn
    row
    (pair_in (slowed_by (power 0 8) InSight (seen 0 2 (a Fishing 300 0) ∷ seen 90 1 (a Fishing 0 8) ∷ []) (record { 0 = bits 0x3fe0_0000_0000_0000 }) 0 90))
    (pair 2 0x402e_0000_0000_0000 0x4020_0000_0000_0000)
    ∷ row (pair_in (slowed 10 (seen 0 4 (power 180 10) ∷ []) 0 180)) (pair 1 0x403d_0000_0000_0000 0x4024_0000_0000_0000)
    ∷ []

pub turns_holds : every turns ≡ true
unfolding abaft abs add all_permit_slowing altered angle_steps answered approach approach_from arctangent_steps aspect_of at_pair atan2 both both_finite
    choice circular.from_units circular.in_domain circular.scaled clearing clears clock closest closing_rate constraint_checks contact_clears
    contacts_checks cos cosine_divisors cosine_step cosine_units cpa_answer decided degrees_per_radian difference direction_of distance div down_from
    encounter_checks encounter_of entry_checks eq even fastest first floor_of fold folds.turned forward_of_beam from_hours geometry_of greatest
    greatest_to half_fold heading horner hours_of hypot hypots.in_domain in_both in_range is_accepted is_closing is_direction is_distance
    is_effectively_zero is_head_on is_speed is_width larger last le lt mul nanos_in nearer neg negative not_above octant of_bits of_int offset
    own_comes_up own_overtakes pair_clears party party_checks permitted placed quarters range_rate reciprocal relative_of relative_speed
    relative_velocity rem removed resolved rest round rule17_port rule18 rule19_port rule19_starboard ruled_answer ruled_checks ruling.ruled
    ruling_answer ruling_for ruling_of scaled_by search shared_sides side_of sides_of sin sine_divisors sine_step sine_units situation
    situation_checks size slowing slowing_answer speed_of sqrt square sub turns tally target_comes_up target_of target_overtakes time_of time_to_go
    to_bits to_degrees to_radians to_unsigned to_usize trial trial_clears trial_speeds trials trials_from trying.choice trying.first trying.search
    trying.side_choice turned_minus turned_units unit units_of up_to velocity verdict whole_fold
turns_holds = refl

unfoldable pub only_pair : List Row
only_pair =
    -- the last trial to port, at 3 knots
    row (pair_in (slowed 8 (seen 170 4 (a Fishing 0 12) ∷ seen 340 4 (a Fishing 140 8) ∷ seen 210 5 (a Fishing 90 4) ∷ []) 0 20))
    (pair 2 0x4034_0000_0000_0000 0x4008_0000_0000_0000)
    ∷ []

pub only_pair_holds : every only_pair ≡ true
unfolding abaft abs add all_permit_slowing altered angle_steps answered approach approach_from arctangent_steps aspect_of at_pair atan2 both both_finite
    choice circular.from_units circular.in_domain circular.scaled clearing clears clock closest closing_rate constraint_checks contact_clears
    contacts_checks cos cosine_divisors cosine_step cosine_units cpa_answer decided degrees_per_radian difference direction_of distance div down_from
    encounter_checks encounter_of entry_checks eq even fastest first floor_of fold folds.turned forward_of_beam from_hours geometry_of greatest
    greatest_to half_fold heading horner hours_of hypot hypots.in_domain in_both in_range is_accepted is_closing is_direction is_distance
    is_effectively_zero is_head_on is_speed is_width larger last le lt mul nanos_in nearer neg negative not_above octant of_bits of_int offset
    own_comes_up own_overtakes pair_clears party party_checks permitted placed quarters range_rate reciprocal relative_of relative_speed
    relative_velocity rem removed resolved rest round rule17_port rule18 rule19_port rule19_starboard ruled_answer ruled_checks ruling.ruled
    ruling_answer ruling_for ruling_of scaled_by search shared_sides side_of sides_of sin sine_divisors sine_step sine_units situation
    situation_checks size slowing slowing_answer speed_of sqrt square sub only_pair tally target_comes_up target_of target_overtakes time_of
    time_to_go to_bits to_degrees to_radians to_unsigned to_usize trial trial_clears trial_speeds trials trials_from trying.choice trying.first
    trying.search trying.side_choice turned_minus turned_units unit units_of up_to velocity verdict whole_fold
only_pair_holds = refl
