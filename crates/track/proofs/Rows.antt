-- The worked rows of request R-5, computed from the definitions: a run of plots, and what is answered on the window after it.
use Rattle.std.specs.Prelude.{None, Some, Ok, Err}
use mathlib.Core.Path.{◌≡◌, refl}
use mathlib.Core.Bool.{true}
use mathlib.Core.List.{List, [], ◌∷◌, ◌++◌}
use Prim.Native.Nat.{ℕ}
use lib.IntN.{ℤ, pos, negsuc}
use lib.Ieee.{nan, binary64, of_bits, of_int, to_bits, add, sub, mul, div, rem, round, size, neg, lt, le, eq}
use Rattle.std.specs.declared.option.Option.{Option}
use Rattle.std.specs.declared.result.Result.{Result}
use Rattle.laws.specs.Fold.{fold}
use Rattle.laws.specs.Rows.{Row, every, row}
use Rattle.laws.specs.Units.{units_of}
use Rattle.math.specs.Convert.{degrees_per_radian, to_degrees}
use Rattle.math.specs.Sign.{abs}
use Rattle.math.specs.Fold.{turned, whole_fold}
use Rattle.roots.specs.Hypot.{hypot, hypot_ordered, in_domain}
use Rattle.roots.specs.Sqrt.{sqrt}
use Rattle.trigonometry.specs.Taylor.{cosine_divisors, sine_divisors}
use Rattle.trigonometry.specs.Units.{cosine_units, horner, sine_units, square}
use Rattle.grid.specs.Arctangent.{arctangent_steps, not_above, placed}
use Rattle.grid.specs.Grid.{cosine_step, sine_step}
use Rattle.grid.specs.Search.{greatest, greatest_to, up_to}
use Rattle.inverse_trigonometry.specs.Atan2.{angle_steps, atan2, both_finite, octant, scaled_by}
use Rattle.elementary.specs.Range.{in_range}
use Rattle.motion.specs.Check.{verdict}
use Rattle.motion.specs.Vessel.{direction_of, from_velocity}
use Rattle.elementary.specs.declared.error.Refusal.{Refusal}
use Rattle.elementary.specs.Refusal.{number_of, answer_number}
use Rattle.motion.specs.declared.vessel.Vessel.{Vessel}
use Rattle.track.specs.declared.window.Plot.{Plot}
use Rattle.track.specs.Fit.{hours, sum, mean, products, fitted, at_speed, fit_answer}
use Rattle.track.specs.Plot.{is_offset, is_time}
use Rattle.track.specs.Run.{window_after}
use Rattle.track.specs.Window.{latest, verdict_on, added}

-- a plot by the bits of its offset
abbrev at : ℕ → ℕ → ℤ → Plot
at north east seconds = record { offset = record { north = of_bits binary64 north; east = of_bits binary64 east }; seconds = seconds }

-- the bits of an answered speed; 0 for no motion, a refusal's number for a refusal
abbrev speed_in : Result (Option Vessel) Refusal → ℕ
speed_in (Ok (Some v)) = to_bits binary64 v.speed.0
speed_in (Ok None) = 0
speed_in (Err why) = number_of why

abbrev speed_after : List Plot → ℕ
speed_after ps = speed_in (fit_answer (window_after ps))

-- the numbers of the verdicts on the plots of a run, each after those before it
abbrev verdicts : List Plot → List Plot → List ℕ → List Row
verdicts before [] ns = []
verdicts before (p ∷ ps) [] = []
verdicts before (p ∷ ps) (n ∷ ns) = row (answer_number (verdict_on (window_after before) p)) n ∷ verdicts (before ++ p ∷ []) ps ns

unfoldable pub rows : List Row
rows =
    -- (4.7, 0, 14), (7, 0, 47), (7.6, 0, 50)
    row (speed_after three) 0x4071_1d5a_7756_9dd6
    -- 105 nm in 378 s: 1,000 knots and the last bit more; 15 nm in 54 s: the float below 1,000
    ∷ row (speed_after (at 0 0 (pos 0) ∷ at 0x405a_4000_0000_0000 0 (pos 378) ∷ [])) 2
    ∷ row (speed_after (at 0 0 (pos 0) ∷ at 0x402e_0000_0000_0000 0 (pos 54) ∷ [])) 0x408f_3fff_ffff_ffff
    -- the plots between are as far on as back: no motion, exactly and by rounding not quite
    ∷ row (speed_after (at 0 0 (pos 0) ∷ at 0x3ff0_0000_0000_0000 0 (pos 3600) ∷ at 0x3ff0_0000_0000_0000 0 (pos 7200) ∷ at 0 0 (pos 10800) ∷ [])) 0
    ∷ row (speed_after (at 0 0 (pos 0) ∷ at 0x3fb9_9999_9999_999a 0 (pos 7) ∷ at 0x3fb9_9999_9999_999a 0 (pos 14) ∷ at 0 0 (pos 21) ∷ [])) 0x3cd9_d43e_b1a1_f58c
    -- the first of nine, (9, 9, 0), is pushed out by (8, 0, 2880): a mile in 360 s is left
    ∷ row (speed_after nine) 0x4023_ffff_ffff_ffff
    -- fewer than two
    ∷ row (speed_after []) 17
    ∷ row (speed_after (at 0 0 (pos 5) ∷ at 0 0 (pos 5) ∷ [])) 17
    -- (0, 0, 0), (1, 0, 100), (9, NaN, 200), (9, 9, 100), (2, 0, 150)
    ∷ row (speed_after mixed) 0x4047_2492_4924_924a
    ∷ verdicts [] mixed (0 ∷ 0 ∷ 3 ∷ 18 ∷ 0 ∷ [])
    -- the offsets come before the time, which is from 0 to 2 ^ 31 - 1
    ++ verdicts [] (record { offset = record { north = nan; east = of_bits binary64 0 }; seconds = negsuc 0 } ∷ at 0 0 (negsuc 0) ∷ []) (3 ∷ 18 ∷ [])
    ++ verdicts [] (at 0 0 (pos 2147483648) ∷ at 0 0 (pos 2147483647) ∷ []) (18 ∷ 0 ∷ [])
  where
    three : List Plot
    three = at 0x4012_cccc_cccc_cccd 0 (pos 14) ∷ at 0x401c_0000_0000_0000 0 (pos 47) ∷ at 0x401e_6666_6666_6666 0 (pos 50) ∷ []

    nine : List Plot
    nine = at 0x4022_0000_0000_0000 0x4022_0000_0000_0000 (pos 0)
        ∷ at 0x3ff0_0000_0000_0000 0 (pos 360) ∷ at 0x4000_0000_0000_0000 0 (pos 720) ∷ at 0x4008_0000_0000_0000 0 (pos 1080)
        ∷ at 0x4010_0000_0000_0000 0 (pos 1440) ∷ at 0x4014_0000_0000_0000 0 (pos 1800) ∷ at 0x4018_0000_0000_0000 0 (pos 2160)
        ∷ at 0x401c_0000_0000_0000 0 (pos 2520) ∷ at 0x4020_0000_0000_0000 0 (pos 2880) ∷ []

    mixed : List Plot
    mixed = at 0 0 (pos 0) ∷ at 0x3ff0_0000_0000_0000 0 (pos 100)
        ∷ record { offset = record { north = of_bits binary64 0x4022_0000_0000_0000; east = nan }; seconds = pos 200 }
        ∷ at 0x4022_0000_0000_0000 0x4022_0000_0000_0000 (pos 100) ∷ at 0x4000_0000_0000_0000 0 (pos 150) ∷ []

pub rows_hold : every rows ≡ true
unfolding rows abs add added angle_steps arctangent_steps at_speed atan2 both_finite cosine_divisors cosine_step cosine_units degrees_per_radian
    direction_of div eq fit_answer fitted fold from_velocity greatest greatest_to horner hours hypot hypot_ordered in_domain in_range is_offset
    is_time latest le lt mean mul neg not_above octant of_bits of_int placed products rem round scaled_by sine_divisors sine_step sine_units size
    sqrt square sub sum to_bits to_degrees turned units_of up_to verdict whole_fold window_after
rows_hold = refl
