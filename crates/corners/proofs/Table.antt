-- Document 01's marked corners, the examples of its table of refusals, and the reading of its sample sheet, in one table: what the definitions compute, and what it must be. The quoted sentences are document 01's.
use Rattle.elementary.specs.Refusal.{answer_number}
use Rattle.std.specs.Prelude.{None, Some}
use mathlib.Core.Path.{◌≡◌, refl}
use mathlib.Core.Bool.{false, true}
use mathlib.Core.List.{List, [], ◌++◌, ◌∷◌, flat_map}
use Prim.Native.Nat.{ℕ}
use lib.IntN.{negsuc}
use Prim.Native.String.{String}
use lib.ListN.{length}
use lib.Ieee.{add, div, eq, le, lt, mul, neg, of_bits, of_int, rem, round, size, sub, to_bits, to_unsigned}
use Rattle.laws.specs.First as Listed
use Rattle.laws.specs.Fold.{fold}
use Rattle.laws.specs.Rows.{Row, every, row}
use Rattle.laws.specs.Units.{units_of}
use Rattle.math.specs.Cast.{to_usize}
use Rattle.math.specs.Convert.{degrees_per_radian, to_degrees, to_radians}
use Rattle.math.specs.Sign.{abs}
use Rattle.math.specs.Test.{is_effectively_zero}
use Rattle.math.specs.Fold.{half_fold, reciprocal, whole_fold}
use Rattle.math.specs.Fold as folds
use Rattle.math.specs.Clock.{clock, from_hours, from_seconds, hours_of, is_accepted, is_before, nanos_in}
use Rattle.text.specs.Thousandths.{thousandths_of}
use Rattle.text.specs.Decimal.{decimal_of, digits_up_to, three_decimals}
use Rattle.text.specs.Text.{bytes}
use Rattle.roots.specs.Hypot.{hypot}
use Rattle.roots.specs.Hypot as hypots
use Rattle.roots.specs.Sqrt.{sqrt}
use Rattle.trigonometry.specs.Angle.{distance, even, negative, quarters}
use Rattle.trigonometry.specs.Taylor.{cosine_divisors, sine_divisors}
use Rattle.trigonometry.specs.Units.{cosine_units, horner, removed, rest, sine_units, square, turned_minus, turned_units}
use Rattle.trigonometry.specs.Sine.{cos, sin}
use Rattle.trigonometry.specs.Sine as circular
use Rattle.grid.specs.Arcsine as arcsine
use Rattle.grid.specs.Arctangent.{arctangent_steps, not_above, placed}
use Rattle.grid.specs.Grid.{cosine_step, sine_step}
use Rattle.grid.specs.Search.{greatest, greatest_to, up_to}
use Rattle.inverse_trigonometry.specs.Asin as asin
use Rattle.inverse_trigonometry.specs.Atan2.{angle_steps, atan2, both_finite, octant, scaled_by}
use Rattle.elementary.specs.Range.{in_range}
use Rattle.motion.specs.Vessel.{difference, direction_of, offset, relative_velocity, resolved, unit, velocity}
use Rattle.motion.specs.Check.{encounter_checks, is_direction, is_distance, is_speed, verdict}
use Rattle.elementary.specs.declared.error.Refusal.TheVariants as Refusal
use Rattle.relative_motion.specs.declared.approach.Track.TheVariants as Track
use Rattle.assessment.specs.declared.risk.CollisionRisk.TheVariants as Risk
use Rattle.relative_motion.specs.Approach.{approach, approach_from, closest, closing_rate, cpa_answer, relative_speed, time_of, time_to_go}
use Rattle.relative_motion.specs.Bow.{bow_answer, crossing, determinant}
use Rattle.relative_motion.specs.Plot.{plot_answer, plot_checks, plot_verdict, relative_motion, solution, solved}
use Rattle.relative_motion.specs.Plot as plots
use Rattle.relative_motion.specs.Course.{along, at_speed, avoidance_of, choice_of, clamped, course_answer, course_for, grazing, offered}
use Rattle.track.specs.Fit.{fit_answer}
use Rattle.track.specs.Plot.{is_offset, is_time}
use Rattle.track.specs.Window.{verdict_on}
use Rattle.situation.specs.Arguments.{is_width, party_checks, situation_checks}
use Rattle.situation.specs.Situation.{heading, party, situation, with_heading, with_wind_from}
use Rattle.situation.specs.declared.party.Visibility.TheVariants.{Restricted}
use Rattle.colregs.specs.Geometry.{aspect_of, geometry_of, is_closing, larger, range_rate, relative_of, speed_of}
use Rattle.colregs.specs.Colregs.{abaft, decided, encounter_of, forward_of_beam, is_head_on, own_comes_up, own_overtakes, permitted, rule17_port, rule19_port}
use Rattle.colregs.specs.Colregs.{rule18, ruling_answer, ruling_for, ruling_of, side_of, rule19_starboard, target_comes_up, target_overtakes}
use Rattle.colregs.specs.declared.answer.Encounter.TheVariants.{BeingOvertaken, Crossing, HeadOn, Overtaking}
use Rattle.colregs.specs.declared.answer.Responsibility.TheVariants.{Both, GiveWay, StandOn, Undetermined}
use Rattle.colregs.specs.declared.answer.Rule.TheVariants.{Rule12, Rule13, Rule14, Rule15, Rule17, Rule19}
use Rattle.motion.specs.declared.side.Side.TheVariants.{Port, Starboard}
use Rattle.assessment.specs.Policy.{policy_answer}
use Rattle.assessment.specs.Risk.{drift_of, drift_per_hour, risk_at}
use Rattle.assessment.specs.Assess.{assess_answer, assessment}
use Rattle.manoeuvre.specs.Trials.{last, trial, trials, trials_from}
use Rattle.manoeuvre.specs.Constraints.{constraint_checks, constraints_answer, with_rate_of_turn}
use Rattle.manoeuvre.specs.Manoeuvre as manoeuvres
use Rattle.manoeuvre.specs.declared.constraints.PermittedSides.TheVariants as Sides
use Rattle.clearance.specs.Clearing.{altered, clearing, clears, floor_of, nearer, contact_clears, tally}
use Rattle.clearance.specs.Traffic.{contacts_checks, entry_checks, target_of}
use Rattle.avoidance.specs.Search.{choice, search, first, side_choice, trial_clears}
use Rattle.ruled_search.specs.Ruled.{answered, in_both, ruled, ruled_answer, ruled_checks, shared_sides, sides_of}
use Rattle.sheet_record.specs.Word.{in_order, layout, ordered, words}
use Rattle.sheet_record.specs.Record.{contact_count, first_rows, header_of, readable, row_from, rows_of}
use Rattle.sheet.specs.Values.{category_of, entry_of, own_of, party_of, vessel_of, visibility_of, wind_from}
use Rattle.sheet.specs.Values as values
use Rattle.sheet.specs.Sheet.{category_checks, code_checks, sheet_verdict, value_checks}
use Rattle.lines.specs.Lines.{alter_line, contact_line, refused_line}
use Rattle.colregs.proofs.Rows.{direction, heads, number, power, refuses, rules, rules_by, seen, unseen, wind}
use Rattle.avoidance.specs.Avoid.{avoid_answer, avoid_checks, avoided, seed, seeded_choice, seeded_side}
use Rattle.report.specs.Contacts.{contact_lines, line_of}
use Rattle.report.specs.Report.{search_answer, constraints_of, id_at, lines_of, policy_of, report}
use Rattle.corners.proofs.Figures.{ahead, alteration_in, at, away, between, bits, closing, course_in, degrees, drift_in, kind, limiting_in, limits}
use Rattle.corners.proofs.Figures.{magnitude_in, meets, miles, moving, north, off, on, passing_in, pattern, port_in, risk_in, ruling, searched, seconds, sheet}
use Rattle.corners.proofs.Figures.{side_code, side_in, spelled, starboard_in, steering, time_in, turn, turning, unsure, widths, with_rate, within}

-- document 01's sample sheet: the header's words, and the contact's
abbrev sample_header : List ℕ
sample_header = 0x0000_0000 ∷ 0x1000_2800 ∷ 0x2000_0000 ∷ 0x3000_0000 ∷ 0x4000_0400 ∷ 0x5000_0000 ∷ 0x6001_6800 ∷ 0x7000_0400 ∷ 0x8000_0708 ∷ []

abbrev sample_contact : List ℕ
sample_contact = 0x9000_0007 ∷ 0xA000_0000 ∷ 0xB000_1000 ∷ 0xC000_0000 ∷ 0xD000_0000 ∷ 0xE000_0000 ∷ []

-- the same header for own craft under sail on the port tack, and another such to starboard that keeps beside her (request R-1)
abbrev sailing_header : List ℕ
sailing_header = 0x0000_0000 ∷ 0x1000_2800 ∷ 0x2000_0002 ∷ 0x3000_0000 ∷ 0x4000_0400 ∷ 0x5000_0000 ∷ 0x6001_6800 ∷ 0x7000_0400 ∷ 0x8000_0708 ∷ []

abbrev sailing_contact : List ℕ
sailing_contact = 0x9000_0001 ∷ 0xA001_6800 ∷ 0xB000_1000 ∷ 0xC000_0000 ∷ 0xD000_2800 ∷ 0xE000_0002 ∷ []

-- the same contact, her tack not known (request R-2)
abbrev unsure_contact : List ℕ
unsure_contact = 0x9000_0001 ∷ 0xA001_6800 ∷ 0xB000_1000 ∷ 0xC000_0000 ∷ 0xD000_2800 ∷ 0xE000_0001 ∷ []

-- what a line says; what is printed on a sheet of words
abbrev says : List ℕ → String → Row
says line text = row (spelled 1 line) (spelled 1 (bytes text))

abbrev prints : List ℕ → String → Row
prints ws text = says (report (sheet ws)) text

unfoldable pub table : List Row
table =
    -- ---- relative_motion.rs
    -- 'relative speed below 1e-9 kn is Stationary; exactly 1e-9 is not'
    row (kind (cpa_answer (moving 0 0) (at 180 1) (north 0x3e11_2e0b_e826_d694))) 2
    ∷ row (kind (cpa_answer (moving 0 0) (at 180 1) (north 0x3e11_2e0b_e826_d695))) 0
    -- 'time 0 or below is Opening. Range 0 with relative motion is therefore Opening'
    ∷ row (kind (cpa_answer (moving 0 10) (at 0 0) (moving 0 0))) 1
    ∷ row (kind (cpa_answer (moving 0 10) (at 180 1) (moving 0 0))) 1
    -- '`course_for_cpa` with desired equal to range refuses with 9. That comes before 10 (own speed 0)'
    ∷ row (answer_number (course_answer (moving 0 10) (at 0 4) (moving 0 0) (miles 4))) 9
    ∷ row (answer_number (course_answer (moving 0 0) (at 0 4) (moving 0 0) (miles 4))) 9
    ∷ row (answer_number (course_answer (moving 0 0) (at 0 4) (moving 0 0) (miles 1))) 10
    -- 'an alteration of exactly 0 belongs to neither side': own craft on the very course that passes at 1 nm has the one beyond the contact left; from the float below it that course is to starboard
    ∷ row (starboard_in (course_answer (steering 0x403e_85c1_c2e9_fd4d 10) (at 45 4) (moving 0 0) (miles 1))) 0x404d_bd1f_1e8b_0159
    ∷ row (port_in (course_answer (steering 0x403e_85c1_c2e9_fd4d 10) (at 45 4) (moving 0 0) (miles 1))) 0
    ∷ row (starboard_in (course_answer (steering 0x403e_85c1_c2e9_fd4c 10) (at 45 4) (moving 0 0) (miles 1))) 0x403e_85c1_c2e9_fd4d
    -- the examples of the table of refusals: 1, 2, 3, 6, 7, 8, 9 and 11
    ∷ row (answer_number (cpa_answer (moving 360 10) (at 0 4) (moving 0 0))) 1
    ∷ row (answer_number (cpa_answer (north 0x408f_4400_0000_0000) (at 0 4) (moving 0 0))) 2
    ∷ row (answer_number (cpa_answer (moving 0 10) (away 0 0xbff0_0000_0000_0000) (moving 0 0))) 3
    ∷ row (answer_number (cpa_answer (moving 0 10) (at 0 10001) (moving 0 0))) 3
    ∷ row (answer_number (plot_answer (moving 0 10) (at 0 4) (at 0 1) (record { secs = 0; nanos = 0 }))) 6
    ∷ row (answer_number (bow_answer (moving 0 10) (at 0 4) (moving 0 10))) 7
    ∷ row (answer_number (bow_answer (moving 0 10) (at 180 4) (moving 90 10))) 8
    ∷ row (answer_number (course_answer (moving 0 10) (at 0 1) (moving 0 0) (miles 1))) 9
    ∷ row (answer_number (course_answer (moving 0 1) (at 180 4) (moving 0 20) (miles 1))) 11
    -- and of request R-5's two: a fit of no plot, a plot at the second -1
    ∷ row (answer_number (fit_answer [])) 17
    ∷ row (answer_number (verdict_on [] (record { offset = offset (at 0 4); seconds = negsuc 0 }))) 18
    -- ---- rules.rs
    -- 'closing, relative 0, aspect 112.5: not overtaking. Any aspect above is'
    ∷ rules (seen (power 0 20) 0 5 (on 0x4050_e000_0000_0000 10)) (Crossing Port) StandOn Rule17 true false true true
    ∷ rules (seen (power 0 20) 0 5 (on 0x4050_dfff_ffff_ffff 10)) Overtaking GiveWay Rule13 true true true false
    -- 'relative 6 and aspect 6: head_on. Relative 6, aspect 7: crossing'
    ∷ rules (seen (power 0 10) 6 5 (power 180 10)) HeadOn Both Rule14 true false true false
    ∷ rules (seen (power 0 10) 6 5 (power 179 10)) (Crossing Starboard) GiveWay Rule15 true false true false
    -- 'both astern of each other, closing, equal speeds: BeingOvertaken for the asker'; the faster one overtakes
    ∷ rules (seen (heads 180 (power 0 5)) 0 2 (heads 0 (power 180 5))) BeingOvertaken StandOn Rule13 true true true true
    ∷ rules (seen (heads 180 (power 0 6)) 0 2 (heads 0 (power 180 5))) Overtaking GiveWay Rule13 true true true false
    -- 'relative magnitude below 1e-9: the side is starboard if aspect is negative, else port'; at 1e-9 the bearing decides
    ∷ rules (off 0x3e11_2e0b_e826_d694 (power 270 10)) (Crossing Starboard) GiveWay Rule15 true false true false
    ∷ rules (off 0x3e11_2e0b_e826_d694 (power 90 10)) (Crossing Port) StandOn Rule17 true false true true
    ∷ rules (off 0x3e11_2e0b_e826_d695 (power 90 10)) (Crossing Starboard) GiveWay Rule15 true false true false
    -- an aspect of exactly 0, which a half-width of 0 lets be no head-on: 'else port'
    ∷ rules_by (record { overtaking_abaft_beam = record { 0 = bits 0x4036_8000_0000_0000 }; head_on_half_width = record { 0 = number 0 } }) (off 0x1 (power 180 10)) (Crossing Port) StandOn Rule17 true false true true
    -- 'restricted visibility, relative 90: not forward of the beam, so port only'
    ∷ rules (unseen (power 0 10) 90 5 (power 270 10)) (Crossing Starboard) Both Rule19 false true true false
    ∷ rules (unseen (power 0 10) 89 5 (power 270 10)) (Crossing Starboard) Both Rule19 true false true false
    -- request R-2, Rule 12(a)(iii): bearing and wind 270/270, 180/270, 0/270; 90/270, and 180 less an ulp; 60 and 5 ulps, from 330
    ∷ rules (unsure 0x4070_e000_0000_0000 270) (Crossing Port) GiveWay Rule12 true true true false
    ∷ rules (unsure 0x4066_8000_0000_0000 270) (Crossing Starboard) GiveWay Rule12 true true true false
    ∷ rules (unsure 0 270) (Crossing Port) GiveWay Rule12 true true true false
    ∷ rules (unsure 0x4056_8000_0000_0000 270) (Crossing Starboard) Undetermined Rule12 true true true false
    ∷ rules (unsure 0x4066_7fff_ffff_ffff 270) (Crossing Starboard) Undetermined Rule12 true true true false
    ∷ rules (unsure 0x404e_0000_0000_0005 330) (Crossing Starboard) GiveWay Rule12 true true true false
    -- the example of refusal 12, with either width, and the order: own, contact, target, wind, widths
    ∷ refuses (seen (power 0 10) 45 5 (power 270 10)) (widths 91 6) 12
    ∷ refuses (seen (power 0 10) 45 5 (power 270 10)) (widths 22 91) 12
    ∷ refuses (wind 360 (seen (power 0 10) 45 5 (power 270 10))) (widths 91 6) 1
    ∷ refuses (wind 360 (seen (power 0 10) 45 5 (power 270 1001))) (widths 91 6) 2
    ∷ refuses (seen (power 0 10) 45 10001 (power 270 1001)) (widths 91 6) 3
    ∷ refuses (seen (heads 360 (power 0 10)) 45 10001 (power 270 1001)) (widths 91 6) 1
    ∷ refuses (seen (heads 360 (power 0 1001)) 45 10001 (power 270 1001)) (widths 91 6) 2
    -- ---- assessment.rs
    -- 'CPA equal to the limit isn't Passing; time equal to the limit isn't Developing'
    ∷ row (risk_in (assess_answer (moving 0 10) (at 45 4) (moving 0 0) (within 0x4006_a09e_667f_3bcc 1018 233764909))) 3
    ∷ row (risk_in (assess_answer (moving 0 10) (at 45 4) (moving 0 0) (within 0x4006_a09e_667f_3bcb 1018 233764909))) 1
    ∷ row (risk_in (assess_answer (moving 0 10) (at 45 4) (moving 0 0) (within 0x4006_a09e_667f_3bcc 1018 233764908))) 2
    -- 'range 0 gives drift 0'
    ∷ row (drift_in (assess_answer (moving 0 10) (at 0 0) (moving 90 4) limits)) 0
    -- the sample sheet's contact: dangerous, in 1440 s
    ∷ row (risk_in (assess_answer (moving 0 10) (at 0 4) (moving 0 0) limits)) 3
    ∷ row (time_in (assess_answer (moving 0 10) (at 0 4) (moving 0 0) limits)) 1440
    -- ---- avoidance.rs and the ruled search
    -- 'least 0, most 2.5: grid 0, 1, 2; 2.5 itself is untried. Least equal to most: one trial'
    ∷ row (length (trials (bits 0) (bits 0x4004_0000_0000_0000))) 3
    ∷ row (pattern (trial (bits 0) (bits 0x4004_0000_0000_0000) 2)) 0x4000_0000_0000_0000
    ∷ row (length (trials (number 4) (number 4))) 1
    -- cut at most: least 17.38770443707414, most 97.38770443707413
    ∷ row (last (bits 0x4031_6340_9915_bf5e) (bits 0x4058_58d0_2645_6fd7)) 80
    ∷ row (pattern (trial (bits 0x4031_6340_9915_bf5e) (bits 0x4058_58d0_2645_6fd7) 80)) 0x4058_58d0_2645_6fd7
    -- 'a closing contact clears at exactly desired minus 1e-9 and above': here 0, at a desired 1e-9 and at the float above it
    ∷ row (answer_number (searched 1 (ahead ∷ []) (record { 0 = bits 0x3e11_2e0b_e826_d695 }) 0 0)) 0
    ∷ row (limiting_in (searched 1 (ahead ∷ []) (record { 0 = bits 0x3e11_2e0b_e826_d695 }) 0 0)) 1
    ∷ row (answer_number (searched 1 (ahead ∷ []) (record { 0 = bits 0x3e11_2e0b_e826_d696 }) 0 0)) 5
    -- 'no contacts: the least alteration, passing distance `f64::MAX`, no limiting contact'
    ∷ row (magnitude_in (searched 0 [] (miles 1) 4 90)) 0x4010_0000_0000_0000
    ∷ row (side_in (searched 0 [] (miles 1) 4 90)) 1
    ∷ row (passing_in (searched 0 [] (miles 1) 4 90)) 0x7fef_ffff_ffff_ffff
    ∷ row (limiting_in (searched 0 [] (miles 1) 4 90)) 0
    -- `avoid`, a target at rest at bearing 45, range 4, desired 1, 0 to 180: to starboard 30.522 by its seed; either side: -0 by port's grid
    ∷ row (alteration_in (avoid_answer (moving 0 10) (at 45 4) (moving 0 0) (miles 1) (between Sides.Starboard 0 180))) 0x403e_85c1_c2e9_fd4d
    ∷ row (alteration_in (avoid_answer (moving 0 10) (at 45 4) (moving 0 0) (miles 1) (between Sides.Either 0 180))) 0x8000_0000_0000_0000
    -- the example of refusal 4; rates of 0 and 1e-310: 4; a rate of -1 is taken by its size; 1e-300 is accepted and its time is none
    ∷ row (answer_number (constraints_answer Sides.Either (degrees 9) (degrees 8))) 4
    ∷ row (answer_number (constraints_answer Sides.Either (degrees 0) (degrees 180))) 0
    ∷ row (answer_number (with_rate (constraints_answer Sides.Either (degrees 0) (degrees 180)) 0)) 4
    ∷ row (answer_number (with_rate (constraints_answer Sides.Either (degrees 0) (degrees 180)) 0x0000_1268_8b70_e62b)) 4
    ∷ row (answer_number (with_rate (constraints_answer Sides.Either (degrees 0) (degrees 180)) 0xbff0_0000_0000_0000)) 0
    ∷ row (answer_number (with_rate (constraints_answer Sides.Either (degrees 0) (degrees 180)) 0x01a5_6e1f_c2f8_f359)) 0
    ∷ row (seconds (manoeuvres.turn_time (number 1) (Some (turning 0x01a5_6e1f_c2f8_f359)))) 1
    ∷ row (seconds (manoeuvres.turn_time (number 10) (Some (turning 0x4024_0000_0000_0000)))) 60
    -- an alteration of -0 is to starboard, of -1 to port
    ∷ row (side_code (manoeuvres.side_of (record { 0 = bits 0x8000_0000_0000_0000 }))) 1
    ∷ row (side_code (manoeuvres.side_of (record { 0 = bits 0xbff0_0000_0000_0000 }))) 2
    -- the examples of refusals 5 (range 0.5 on the bow, desired 1, most 5), 13 (restricted, one head_on, one at relative 120) and 14 (33 contacts)
    ∷ row (answer_number (searched 1 (meets (record { bearing = direction 0; range = record { 0 = bits 0x3fe0_0000_0000_0000 } }) (moving 0 0) ∷ []) (miles 1) 0 5)) 5
    ∷ row (answer_number (ruled_answer (power 0 10) 2 (meets (at 0 4) (moving 180 10) ∷ meets (at 120 4) (moving 270 10) ∷ []) Restricted None (miles 1) (between Sides.Either 0 5))) 13
    ∷ row (answer_number (searched 33 [] (miles 1) 0 5)) 14
    -- ---- the encounter sheet
    -- the sample: starboard 15, course 15, 1.035 nm, the first contact; and what is printed on it
    ∷ row (side_in (searched 1 (ahead ∷ []) (miles 1) 0 90)) 1
    ∷ row (magnitude_in (searched 1 (ahead ∷ []) (miles 1) 0 90)) 0x402e_0000_0000_0000
    ∷ row (course_in (searched 1 (ahead ∷ []) (miles 1) 0 90)) 0x402e_0000_0000_0000
    ∷ row (passing_in (searched 1 (ahead ∷ []) (miles 1) 0 90)) 0x3ff0_907d_c193_0690
    ∷ row (limiting_in (searched 1 (ahead ∷ []) (miles 1) 0 90)) 1
    ∷ prints (sample_header ++ sample_contact) "CONTACT 7 CLOSING 0.000 1440 DANGEROUS OVERTAKING GIVEWAY 13\nALTER S 15.000 15.000 1.035 7\n"
    -- without contacts; the example of refusal 15, 3 bytes; a contact that is not whole; a kind out of order; the example of refusal 16, category 8
    ∷ prints sample_header "ALTER S 0.000 0.000 FREE NONE\n"
    ∷ says (report (0 ∷ 0 ∷ 0 ∷ [])) "REFUSED 15\n"
    ∷ prints (sample_header ++ (0x9000_0007 ∷ [])) "REFUSED 15\n"
    ∷ prints (sample_contact ++ sample_header) "REFUSED 15\n"
    ∷ prints (sample_header ++ (0x9000_0007 ∷ 0xA000_0000 ∷ 0xB000_1000 ∷ 0xC000_0000 ∷ 0xD000_0000 ∷ 0xE000_0008 ∷ [])) "REFUSED 16\n"
    -- the wind: power-driven vessels take no notice; on one tack the one to windward keeps clear, from 90 degrees off the line of sight; of one
    -- whose tack is not known the port tack keeps clear where she is to windward (request R-2); 360 is refused, after the limits and before the
    -- contacts; the word stands at its place, once
    ∷ prints (sample_header ++ (0xF001_6800 ∷ sample_contact)) "CONTACT 7 CLOSING 0.000 1440 DANGEROUS OVERTAKING GIVEWAY 13\nALTER S 15.000 15.000 1.035 7\n"
    ∷ prints (sample_header ++ (0xF000_0000 ∷ [])) "ALTER S 0.000 0.000 FREE NONE\n"
    ∷ prints (sailing_header ++ sailing_contact) "CONTACT 1 STATIONARY 4.000 - OPENING CROSSING-S UNDETERMINED 12\nALTER S 0.000 0.000 4.000 1\n"
    ∷ prints (sailing_header ++ (0xF001_6800 ∷ sailing_contact)) "CONTACT 1 STATIONARY 4.000 - OPENING CROSSING-S STANDON 12\nALTER S 0.000 0.000 4.000 1\n"
    ∷ prints (sailing_header ++ (0xF000_0000 ∷ sailing_contact)) "CONTACT 1 STATIONARY 4.000 - OPENING CROSSING-S STANDON 12\nALTER S 0.000 0.000 4.000 1\n"
    ∷ prints (sailing_header ++ (0xF005_9FFF ∷ sailing_contact)) "CONTACT 1 STATIONARY 4.000 - OPENING CROSSING-S GIVEWAY 12\nALTER S 0.000 0.000 4.000 1\n"
    ∷ prints (sailing_header ++ (0xF001_6800 ∷ unsure_contact)) "CONTACT 1 STATIONARY 4.000 - OPENING CROSSING-S GIVEWAY 12\nALTER S 0.000 0.000 4.000 1\n"
    ∷ prints (sailing_header ++ (0xF004_3800 ∷ unsure_contact)) "CONTACT 1 STATIONARY 4.000 - OPENING CROSSING-S UNDETERMINED 12\nALTER S 0.000 0.000 4.000 1\n"
    ∷ prints (sailing_header ++ (0xF005_A000 ∷ sailing_contact)) "REFUSED 1\n"
    ∷ prints (sailing_header ++ (0xF005_A000 ∷ 0x9000_0001 ∷ 0xA001_6800 ∷ 0xBFFF_FFFF ∷ 0xC000_0000 ∷ 0xD000_2800 ∷ 0xE000_0002 ∷ [])) "REFUSED 1\n"
    ∷ prints (sample_header ++ (0xF001_6800 ∷ 0xF001_6800 ∷ sample_contact)) "REFUSED 15\n"
    ∷ prints (sample_header ++ (sample_contact ++ (0xF001_6800 ∷ []))) "REFUSED 15\n"
    -- lines: seconds are rounded down, the range stands for the closest approach, ties go to even, a carry runs into the whole part
    ∷ says (contact_line 4294967295 (closing 0x3ff1_0000_0000_0000 1949 999999999) Risk.Passing (ruling (Crossing Port) StandOn Rule17)) "CONTACT 4294967295 CLOSING 1.062 1949 PASSING CROSSING-P STANDON 17\n"
    ∷ says (contact_line 0 (Track.Opening (record { 0 = bits 0x3ff3_0000_0000_0000 })) Risk.Opening (ruling BeingOvertaken StandOn Rule13)) "CONTACT 0 OPENING 1.188 - OPENING BEING-OVERTAKEN STANDON 13\n"
    ∷ says (contact_line 12 (Track.Stationary (record { 0 = bits 0x408f_ffff_0000_0000 })) Risk.Opening (ruling HeadOn Both Rule14)) "CONTACT 12 STATIONARY 1024.000 - OPENING HEAD-ON BOTH 14\n"
    ∷ says (contact_line 1 (closing 0x8000_0000_0000_0000 0 0) Risk.Developing (ruling (Crossing Starboard) Undetermined Rule12)) "CONTACT 1 CLOSING 0.000 0 DEVELOPING CROSSING-S UNDETERMINED 12\n"
    -- without contacts; to port at 0; refusals
    ∷ says (alter_line (turn Starboard 0 0x4066_8000_0000_0000 0x7fef_ffff_ffff_ffff None) 0) "ALTER S 0.000 180.000 FREE NONE\n"
    ∷ says (alter_line (turn Port 0 0 0x3ff0_0000_0000_0000 (Some 3)) 21) "ALTER P 0.000 0.000 1.000 21\n"
    ∷ says (refused_line Refusal.NoTrialClears) "REFUSED 5\n"
    ∷ says (refused_line Refusal.UnknownCode) "REFUSED 16\n"
    ∷ []

pub holds : every table ≡ true
unfolding abaft abs add along alter_line altered angle_steps search_answer answered approach approach_from arcsine.arcsine_steps arcsine.arcsine_units
    arcsine.at_most arcsine.fits_in arcsine.rest arcsine.rest_step arcsine.scale arcsine.scale_from arcsine.upper_steps arctangent_steps asin.asin
    asin.in_domain aspect_of assess_answer assessment at_speed atan2 avoid_answer avoid_checks avoidance_of avoided both_finite bow_answer bytes
    category_checks category_of choice search choice_of circular.from_units circular.in_domain circular.scaled clamped clearing clears clock closest
    closing_rate code_checks constraint_checks constraints_answer constraints_of contact_count contact_line contact_lines contacts_checks cos
    cosine_divisors cosine_step cosine_units course_answer course_for cpa_answer crossing decided decimal_of degrees_per_radian determinant
    difference digits_up_to direction_of distance div drift_of drift_per_hour encounter_checks encounter_of entry_checks entry_of eq even geometry_of
    first first_rows fit_answer flat_map floor_of fold folds.turned forward_of_beam from_hours from_seconds grazing greatest greatest_to half_fold
    reciprocal header_of heading horner hours_of hypot hypots.in_domain id_at in_both in_order in_range is_accepted is_before is_closing is_direction
    is_distance is_effectively_zero is_head_on is_offset is_speed is_time is_width nearer larger last layout le line_of lines_of lt
    manoeuvres.manoeuvre manoeuvres.side_of manoeuvres.turned mul nanos_in neg negative not_above octant of_bits of_int offered offset Listed.first
    ordered own_comes_up own_of own_overtakes party party_checks party_of contact_clears permitted placed plot_answer plot_checks plot_verdict
    plots.target_of policy_answer policy_of rule17_port rule19_port quarters range_rate readable refused_line relative_motion relative_of
    relative_speed relative_velocity rem removed report resolved rest risk_at round row_from rows_of rule18 ruled ruled_answer ruled_checks
    ruling_answer ruling_for ruling_of scaled_by seed seeded_choice seeded_side shared_sides sheet_verdict side_choice side_of sides_of sin
    sine_divisors sine_step sine_units situation situation_checks size solution solved speed_of spelled sqrt square rule19_starboard sub table tally
    target_comes_up target_of target_overtakes thousandths_of three_decimals time_of time_to_go to_bits to_degrees to_radians to_unsigned to_usize
    trial trial_clears trials trials_from turned_minus turned_units unit units_of up_to value_checks values.scaled velocity verdict vessel_of
    visibility_of whole_fold wind_from with_heading with_rate_of_turn with_wind_from words
holds = refl
